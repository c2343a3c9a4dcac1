-- The running position. Assumes nothing.
use Rattle.std.proofs.Common.{◌≡◌}
use Rattle.fixed.specs.Written.{start_by}
use Rattle.fixed.proofs.start_by.Given as goal

abbrev pub invariant-loop-j : goal.invariant-loop-j
invariant-loop-j l = l.at ≡ start_by l.n l.j
