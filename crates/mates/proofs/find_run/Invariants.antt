-- The walk along the chain has met no half-edge that runs so. Assumes nothing.
use Rattle.chains.specs.Chains.{one_more}
use Rattle.tables.specs.Parts.{parts_of}
use Rattle.pairs.proofs.Chains.{Run}
use Rattle.corners.specs.Corners.{recornered}
use Rattle.mates.specs.Keys.{run_chain}
use Rattle.mates.proofs.find_run.Given as goal

abbrev pub invariant-loop-next : goal.invariant-loop-next
invariant-loop-next l = Run run_chain (recornered (parts_of l.bytes)) l.a l.b l.s (one_more l.next)

abbrev pub decreases-loop-next : goal.decreases-loop-next
decreases-loop-next l = one_more l.next
