-- Line k of the text is line k - i of what is behind the cursor, where i lines were passed.
use Rattle.std.proofs.Common.{◌≡◌, [], ◌-◌, drop, get_or}
use Rattle.text.specs.Scan.{lines}
use Rattle.text.proofs.line.Given as goal

abbrev pub invariant-loop : goal.invariant-loop
invariant-loop l = get_or (lines l.s) l.k [] ≡ get_or (lines (drop l.at l.s)) (l.k - l.counter) []
