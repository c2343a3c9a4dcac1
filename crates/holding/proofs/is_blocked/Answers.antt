-- A record behind record i hinders, or none does. Assumes nothing.
use Rattle.std.proofs.Common.{rules, tests, arith, refl, ◌+◌, ◌&&◌}
use borrow.Author.Tests.{le-ltb, lt-ltb}
use Rattle.holding.specs.Held.{stored, is_of, same_field, other, blocked}
use Rattle.holding.proofs.Plain.{hindering}
use Rattle.holding.proofs.Chains.{any_is_any_behind}
use Rattle.holding.proofs.is_blocked.Goals as goal

pub returns : goal.returns
unfolding blocked
returns c =
    let a = c.args in
    let at = stored a.journal.now in
    any_is_any_behind (hindering at a.bench a.i) (λ j. is_of (other a.bench) (at j) && same_field c.get_record-r.result (at j)) (a.i + 1)
    (λ j l. rw (le-ltb a.i j (omega arith)) refl) (λ j l. rw (lt-ltb a.i j (omega arith), c.get_record-r.ensures) refl)
    _ _ _ _ c.any.ensures.ran (λ x b q k. search (rules, tests))
