-- The number so far is what the digits that were passed say.
use Rattle.std.proofs.Common.{◌≡◌, take}
use Rattle.number.specs.Count.{value}
use Rattle.number.proofs.said.Given as goal

abbrev pub invariant-loop-b : goal.invariant-loop-b
invariant-loop-b l = l.v ≡ value 0 (take l.b-index l.b-items)
