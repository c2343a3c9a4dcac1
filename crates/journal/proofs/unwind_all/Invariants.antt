-- The loop's invariant: the header is right, the records lie in the journal, and unwinding from here leads where unwinding from the start
-- does.
use Rattle.std.proofs.Common.{◌≡◌, ◌*◌, ◌≤◌, length}
use Rattle.tables.specs.Header.{RightHeader}
use Rattle.record.specs.Record.{size}
use Rattle.laying.specs.Area.{area_floor}
use Rattle.journal.specs.Step.{lent, unwound}
use Rattle.journal.proofs.unwind_all.Given as goal

abbrev pub invariant-loop-kept : goal.invariant-loop-kept
invariant-loop-kept l = record {
  right : RightHeader l.floor;
  room : size * l.n ≤ length l.journal;
  same : unwound area_floor l.bench (lent l.floor l.journal l.n) ≡ unwound area_floor l.fn.bench (lent l.fn.floor l.fn.journal l.fn.f);
}

abbrev pub decreases-loop-kept : goal.decreases-loop-kept
decreases-loop-kept l = l.n
