-- The walk along the chain has met no equal vertex. Assumes nothing.
use Rattle.chains.specs.Chains.{one_more}
use Rattle.tables.specs.Parts.{parts_of}
use Rattle.mates.proofs.Points.{Look}
use Rattle.mates.proofs.find_same.Given as goal

abbrev pub invariant-loop-next : goal.invariant-loop-next
invariant-loop-next l = Look (parts_of l.bytes) l.v (one_more l.next)

abbrev pub decreases-loop-next : goal.decreases-loop-next
decreases-loop-next l = one_more l.next
