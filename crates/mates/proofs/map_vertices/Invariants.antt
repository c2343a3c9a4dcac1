-- The vertices under v are mapped. Assumes nothing.
use Rattle.verdict.specs.Memory.{SamePast}
use Rattle.tables.specs.Parts.{parts_of}
use Rattle.mates.specs.Steps.{MappedTo}
use Rattle.mates.proofs.map_vertices.Given as goal

abbrev pub invariant-loop-v : goal.invariant-loop-v
invariant-loop-v l = record { mapped : MappedTo (parts_of l.bytes) l.work l.v; past : SamePast l.work l.fn.work }
