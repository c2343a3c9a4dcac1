-- A border's number is put, another's stays; as many turns as half-edges. Assumes nothing.
use Rattle.std.proofs.Common.{arith, ◌<◌, ◌∙◌}
use Rattle.tables.specs.Parts.{parts_of}
use Rattle.pairs.specs.Halves.{halves}
use Rattle.corners.specs.Corners.{recornered}
use Rattle.corners.proofs.Corners.{as_many}
use Rattle.kept.proofs.Notes.{few_halves, clear_done, clear_border, clear_inside}
use Rattle.kept.proofs.clear_notes.Goals as goal
use Rattle.kept.proofs.clear_notes.Goals.{then-u16_at-ge-LOOSE, else-u16_at-ge-LOOSE}

pub loop-h-preserved : goal.loop-h-preserved
loop-h-preserved c =
    let p = parts_of c.args.bytes.now in
    let few = few_halves c.args.bytes.now c.requires.right_header.0 in
    let under : c.loop-h.h < halves (recornered p) = omega (arith, as_many p, c.halves_of-n.ensures.0) in
    let is = c.u16_at.ensures.0 in
    elim c.if-u16_at-ge-LOOSE.branch [
      | then-u16_at-ge-LOOSE w ↦ clear_border _ _ few _ c.loop-h.work _ c.loop-h.invariant c.requires.mated under _ c.requires.right_header.1 (omega (arith, w.if-u16_at-ge-LOOSE.true, is)) (w.work-is ∙ w.put_u16.ensures)
      | else-u16_at-ge-LOOSE w ↦ clear_inside _ _ few _ c.loop-h.work _ c.loop-h.invariant c.requires.mated under _ (omega (arith, w.if-u16_at-ge-LOOSE.false, is)) w.work-is
    ]

pub returns-clause-notes : goal.returns-clause-notes
returns-clause-notes c = clear_done _ _ _ _ c.loop-h.h c.loop-h.invariant (omega (arith, as_many (parts_of c.args.bytes.now), c.halves_of-n.ensures.0))
