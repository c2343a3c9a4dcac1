-- A record more for each corner changed. Assumes nothing.
use Rattle.tables.specs.Parts.{parts_of}
use Rattle.seams.specs.Changes.{changed, corner_record}
use Rattle.mending.proofs.Puts.{Listed}
use Rattle.mending.proofs.put_corner_changes.Given as goal

abbrev pub invariant-loop-j : goal.invariant-loop-j
invariant-loop-j l = Listed (changed (parts_of l.bytes)) (corner_record (parts_of l.bytes)) l.fn.list 0 l.list l.at l.j
