-- At every turn of the loop the lines that are left say what all do.
use Rattle.std.proofs.Common.{length, ◌-◌}
use Rattle.layout.proofs.ScanLaws.{Reader}
use Rattle.layout.proofs.read_lines.Given as goal

abbrev pub invariant-loop-at : goal.invariant-loop-at
invariant-loop-at l = Reader l.s l.starts l.st l.passed l.at

abbrev pub decreases-loop-at : goal.decreases-loop-at
decreases-loop-at l = length l.s - l.at
