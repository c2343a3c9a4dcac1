-- How many of the records so far are the bench's.
use Rattle.std.proofs.Common.{◌≡◌, ◌≤◌}
use Rattle.holding.specs.Held.{stored, held}
use Rattle.holding.proofs.held_by.Given as goal

abbrev pub invariant-loop-i : goal.invariant-loop-i
invariant-loop-i l = (l.n ≤ l.i) × (l.n ≡ held (stored l.journal) l.i l.bench)
