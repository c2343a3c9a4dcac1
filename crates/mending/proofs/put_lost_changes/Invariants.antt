-- A record more for each transition lost. Assumes nothing.
use Rattle.tables.specs.Parts.{parts_of}
use Rattle.seams.specs.Changes.{lost_record}
use Rattle.mending.proofs.Puts.{Listed}
use Rattle.mending.proofs.Records.{gone}
use Rattle.mending.proofs.put_lost_changes.Given as goal

abbrev pub invariant-loop-h : goal.invariant-loop-h
invariant-loop-h l = Listed (gone (parts_of l.bytes)) lost_record l.fn.list l.start l.list l.at l.h
