-- A record more for each corner changed. Assumes nothing.
use Rattle.std.proofs.Common.{arith, sym, ap, ◌∙◌, refl, ◌*◌, length}
use Rattle.wire.specs.Bytes.{put}
use Rattle.tables.specs.Parts.{parts_of}
use Rattle.tables.proofs.Reading.{sized_of}
use Rattle.seams.specs.Changes.{changed, corner_record}
use Rattle.mending.proofs.Puts.{listed_start, listed_put, listed_left, listed_room, listed_few}
use Rattle.mending.proofs.Records.{corner_long, corners_total, corners_listed, changes_long}
use Rattle.mending.proofs.put_corner_changes.Goals as goal
use Rattle.mending.proofs.put_corner_changes.Goals.{then-is_changed, else-is_changed}

pub loop-j-init : goal.loop-j-init
loop-j-init c = let p = parts_of c.args.bytes.now in listed_start (changed p) (corner_record p) 15 (corner_long p) _ 0

pub put_corner_record-requires : goal.put_corner_record-requires
put_corner_record-requires c =
    let p = parts_of c.args.bytes.now in
    let y = sym c.is_changed.ensures ∙ c.if-is_changed.true in
    (c.requires.0, omega (arith, c.count_of-n.ensures.0), listed_room (changed p) (corner_record p) 15 (corner_long p) _ _ c.loop-j.j (3 * p.faces) c.loop-j.invariant (omega (arith, c.count_of-n.ensures.0)) y (omega (arith, changes_long p, ap length (corners_listed p (3 * p.faces) refl))))

pub overflow_add-at : goal.overflow_add-at
overflow_add-at c =
    let p = parts_of c.args.bytes.now in
    omega (arith, c.loop-j.invariant.next, listed_few (changed p) (corner_record p) 15 (corner_long p) c.loop-j.j)

pub loop-j-preserved : goal.loop-j-preserved
loop-j-preserved c =
    let p = parts_of c.args.bytes.now in
    let is = sym c.is_changed.ensures in
    elim c.if-is_changed.branch [
      | then-is_changed w ↦ listed_put (changed p) (corner_record p) 15 (corner_long p) _ _ c.loop-j.j c.loop-j.invariant (is ∙ w.if-is_changed.true) (w.list-is ∙ w.put_corner_record.ensures) w.at-is
      | else-is_changed w ↦ listed_left (changed p) (corner_record p) 15 (corner_long p) _ _ c.loop-j.j c.loop-j.invariant (is ∙ w.if-is_changed.false) w.list-is w.at-is
    ]

pub returns-clause-next : goal.returns-clause-next
returns-clause-next c =
    let p = parts_of c.args.bytes.now in
    corners_total p c.loop-j.j (omega (arith, c.count_of-n.ensures.0)) (sized_of _ c.requires.0.right).faces (omega (arith, c.loop-j.invariant.next))

pub returns-clause-list : goal.returns-clause-list
returns-clause-list c =
    let p = parts_of c.args.bytes.now in
    c.loop-j.invariant.bytes ∙ ap (put c.args.list.now 0) (sym (corners_listed p c.loop-j.j (omega (arith, c.count_of-n.ensures.0))))
