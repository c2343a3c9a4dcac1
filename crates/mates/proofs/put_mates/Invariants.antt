-- What is known is kept of the half-edges before h. Assumes nothing.
use Rattle.chains.specs.Chains.{Chained}
use Rattle.tables.specs.Parts.{parts_of}
use Rattle.pairs.specs.Halves.{halves}
use Rattle.corners.specs.Corners.{recornered}
use Rattle.corners.specs.Memory.{SameTop}
use Rattle.mates.specs.Keys.{run_chains, run_key}
use Rattle.mates.specs.Steps.{MatedTo}
use Rattle.mates.proofs.put_mates.Given as goal

abbrev pub invariant-loop-h : goal.invariant-loop-h
invariant-loop-h l = record {
  mated : MatedTo (recornered (parts_of l.bytes)) l.work l.h;
  chained : Chained run_chains (run_key (recornered (parts_of l.bytes))) l.work (halves (parts_of l.bytes));
  map : SameTop l.work l.fn.work;
}
