-- What was looked at so far is marked, or `full` says that it is not.
use Rattle.std.proofs.Common.{◌≡◌}
use Rattle.verdict.specs.Memory.{is_marked}
use Rattle.verdict.specs.Lowest.{all_under}
use Rattle.verdict.proofs.all_marked.Given as goal

abbrev pub invariant-loop-mark : goal.invariant-loop-mark
invariant-loop-mark l = l.full ≡ all_under l.mark-index (is_marked l.fn.work)
