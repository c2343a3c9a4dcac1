-- The half-edges before h are chained, and none of them repeats. Assumes nothing.
use Rattle.std.proofs.Common.{◌≡◌}
use Rattle.verdict.specs.Lowest.{lowest}
use Rattle.chains.specs.Chains.{Chained}
use Rattle.tables.specs.Parts.{parts_of}
use Rattle.pairs.specs.Halves.{repeats}
use Rattle.corners.specs.Corners.{recornered}
use Rattle.corners.specs.Memory.{SameTop}
use Rattle.mates.specs.Keys.{run_chains, run_key}
use Rattle.mates.proofs.first_repeat.Given as goal

abbrev pub invariant-loop-h : goal.invariant-loop-h
invariant-loop-h l = record {
  none : lowest l.h (repeats (recornered (parts_of l.bytes))) ≡ l.h;
  chained : Chained run_chains (run_key (recornered (parts_of l.bytes))) l.work l.h;
  map : SameTop l.work l.fn.work;
}
