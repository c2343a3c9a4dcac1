-- One end more for each marked edge. Assumes nothing.
use Rattle.mending.proofs.Tables.{Ended}
use Rattle.mending.proofs.put_ends.Given as goal

abbrev pub invariant-loop-i : goal.invariant-loop-i
invariant-loop-i l = Ended l.work l.fn.out l.at l.out l.k l.i
