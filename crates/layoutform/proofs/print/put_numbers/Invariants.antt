-- The words from k up to i are written, each of them at most 14 bytes long.
use Rattle.std.proofs.Common.{◌+◌, ◌-◌, ◌*◌, ◌≤◌, take}
use Rattle.text.specs.Scan.{words}
use Rattle.text.specs.Written.{after}
use Rattle.printer.specs.Write.{Wrote}
use Rattle.layoutform.proofs.PrintLaws.{shown}
use Rattle.layoutform.proofs.print.put_numbers.Given as goal

abbrev pub invariant-loop-i : goal.invariant-loop-i
invariant-loop-i l = (l.e ≤ l.at + 14 * (l.i - l.k)) × Wrote l.fn.out l.out l.at l.e (after (take (l.i - l.k) (shown l.k (words l.l))))
