-- The marks are those of the entries so far, and none of these is wrong.
use Rattle.std.proofs.Common.{◌≡◌}
use Rattle.verdict.specs.Lowest.{lowest}
use Rattle.tables.specs.Parts.{parts_of}
use Rattle.border.specs.Loops.{wrong_edge}
use Rattle.border.specs.Memory.{marks_of}
use Rattle.border.proofs.mark_edges.Given as goal

abbrev pub invariant-loop-i : goal.invariant-loop-i
invariant-loop-i l = record {
  none : lowest l.i (wrong_edge (parts_of l.bytes)) ≡ l.i;
  marks : l.work ≡ marks_of (parts_of l.bytes) l.i l.initial.work;
}
