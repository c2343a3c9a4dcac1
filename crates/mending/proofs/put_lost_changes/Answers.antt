-- A record more for each transition lost. Assumes nothing.
use Rattle.std.proofs.Common.{arith, sym, ap, ◌∙◌, refl, length}
use Rattle.wire.specs.Bytes.{put}
use Rattle.tables.specs.Parts.{parts_of}
use Rattle.pairs.specs.Halves.{halves}
use Rattle.seams.specs.Changes.{lost_record}
use Rattle.mending.proofs.Puts.{listed_start, listed_put, listed_left, listed_room, listed_few}
use Rattle.mending.proofs.Records.{gone, lost_long, lost_listed}
use Rattle.mending.proofs.put_lost_changes.Goals as goal
use Rattle.mending.proofs.put_lost_changes.Goals.{then-is_lost, else-is_lost}

pub loop-h-init : goal.loop-h-init
loop-h-init c = listed_start (gone (parts_of c.args.bytes.now)) lost_record 7 lost_long _ _

pub put_lost_record-requires : goal.put_lost_record-requires
put_lost_record-requires c =
    let p = parts_of c.args.bytes.now in
    let y = sym c.is_lost.ensures ∙ c.if-is_lost.true in
    (omega (arith, c.halves_of-n.ensures), listed_room (gone p) lost_record 7 lost_long _ _ c.loop-h.h (halves p) c.loop-h.invariant (omega (arith, c.halves_of-n.ensures.0)) y (omega (arith, ap length (lost_listed p (halves p) refl))))

pub overflow_add-at : goal.overflow_add-at
overflow_add-at c =
    omega (arith, c.loop-h.invariant.next, listed_few (gone (parts_of c.args.bytes.now)) lost_record 7 lost_long c.loop-h.h, c.halves_of-n.ensures.1)

pub loop-h-preserved : goal.loop-h-preserved
loop-h-preserved c =
    let t = gone (parts_of c.args.bytes.now) in
    let is = sym c.is_lost.ensures in
    elim c.if-is_lost.branch [
      | then-is_lost w ↦ listed_put t lost_record 7 lost_long _ _ c.loop-h.h c.loop-h.invariant (is ∙ w.if-is_lost.true) (w.list-is ∙ w.put_lost_record.ensures) w.at-is
      | else-is_lost w ↦ listed_left t lost_record 7 lost_long _ _ c.loop-h.h c.loop-h.invariant (is ∙ w.if-is_lost.false) w.list-is w.at-is
    ]

pub returns : goal.returns
returns c =
    c.loop-h.invariant.bytes ∙ ap (put c.args.list.now c.args.start) (sym (lost_listed (parts_of c.args.bytes.now) c.loop-h.h (omega (arith, c.halves_of-n.ensures.0))))
