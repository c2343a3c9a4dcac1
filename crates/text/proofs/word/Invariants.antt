-- Word k of the line is word k - i of what is behind the cursor, where i words were passed.
use Rattle.std.proofs.Common.{◌≡◌, [], ◌-◌, length, drop, get_or, ◌≤◌}
use Rattle.text.specs.Scan.{words}
use Rattle.text.proofs.word.Given as goal

abbrev pub invariant-loop : goal.invariant-loop
invariant-loop l = record { within : l.at ≤ length l.l; same : get_or (words l.l) l.k [] ≡ get_or (words (drop l.at l.l)) (l.k - l.counter) [] }
