-- One end more for each marked edge. Assumes nothing.
use Rattle.std.proofs.Common.{arith, ◌∙◌}
use Rattle.mending.proofs.Tables.{end_start, end_put, end_left, end_room}
use Rattle.mending.proofs.put_ends.Goals as goal
use Rattle.mending.proofs.put_ends.Goals.{then-u16_at-ge-MARK, else-u16_at-ge-MARK}

pub loop-i-init : goal.loop-i-init
loop-i-init c = end_start _ _ _

pub put_u32-requires : goal.put_u32-requires
put_u32-requires c =
    omega (arith, c.loop-i.invariant.count, end_room _ _ _ c.requires.0 c.loop-i.i (omega arith) (omega (arith, c.if-u16_at-ge-MARK.true, c.u16_at.ensures.0)))

pub loop-i-preserved : goal.loop-i-preserved
loop-i-preserved c =
    let l = c.loop-i in
    let is = c.u16_at.ensures.0 in
    elim c.if-u16_at-ge-MARK.branch [
      | then-u16_at-ge-MARK w ↦ end_put _ _ _ l.i l.invariant (omega (arith, w.if-u16_at-ge-MARK.true, is)) (w.out-is ∙ w.put_u32.ensures) w.k-is
      | else-u16_at-ge-MARK w ↦ end_left _ _ _ l.i l.invariant (omega (arith, w.if-u16_at-ge-MARK.false, is)) w.out-is w.k-is
    ]
