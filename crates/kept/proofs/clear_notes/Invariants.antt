-- The notes so far are those of no entry, the numbers behind them as they were. Assumes nothing.
use Rattle.tables.specs.Parts.{parts_of}
use Rattle.corners.specs.Corners.{recornered}
use Rattle.kept.proofs.Notes.{Clearing}
use Rattle.kept.proofs.clear_notes.Given as goal

abbrev pub invariant-loop-h : goal.invariant-loop-h
invariant-loop-h l = Clearing (parts_of l.bytes) (recornered (parts_of l.bytes)) l.fn.work l.work l.h
