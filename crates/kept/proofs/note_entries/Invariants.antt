-- The entries so far are noted, one more at each turn. Assumes nothing.
use Rattle.tables.specs.Parts.{parts_of}
use Rattle.corners.specs.Corners.{recornered}
use Rattle.corners.specs.Memory.{SameTop}
use Rattle.kept.specs.Notes.{Noted, SameBelow}
use Rattle.kept.proofs.note_entries.Given as goal

abbrev pub invariant-loop-i : goal.invariant-loop-i
invariant-loop-i l = record { notes : Noted (parts_of l.bytes) (recornered (parts_of l.bytes)) l.i l.work; map : SameTop l.work l.fn.work; below : SameBelow l.work l.fn.work }
