-- The form up to table k stands in the output. Assumes nothing.
use Rattle.tables.specs.Parts.{parts_of}
use Rattle.fixed.proofs.UpTo.{UpTo}
use Rattle.planting.specs.Planting.{planted}
use Rattle.plant.proofs.write_planted.Given as goal

abbrev pub invariant-loop-k : goal.invariant-loop-k
invariant-loop-k l = UpTo (planted (parts_of l.bytes)) l.fn.out l.out l.at l.k
