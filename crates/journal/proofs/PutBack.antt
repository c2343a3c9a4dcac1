-- A put-back on the plain list: it ends where an undo would be refused, and where it is not refused the bench holds none. Assumes nothing.
use mathlib.Core.Path.{◌≡◌}
use Prim.Native.Nat.{ℕ, zero, suc, ◌≤◌}
use mathlib.Core.List.{List}
use native.Mathlib.Omega.{arith}
use native.Mathlib.Decide.{ℕ_discrete}
use lib.ListN.{length}
use borrow.Author.Tests.{eq-eqb, ne_eqb}
use Rattle.verdict.specs.Verdict.{rule, ◌then◌}
use Rattle.verdict.proofs.Bools.{test, decided}
use Rattle.verdict.proofs.Lists.{tally_within}
use Rattle.verdict.proofs.Verdict.{Proper, rule_proper, then_proper}
use Rattle.record.specs.declared.Rec.{Rec}
use Rattle.holding.specs.Held.{listed, is_of, held}
use Rattle.journal.specs.Plain.{held_by, latest_in, blocked_in, plain_undo_rules, plain_undo, plain_unwind, plain_put_back, plain_end}
use Rattle.journal.proofs.Without.{length_without, held_without}
use Rattle.journal.proofs.Could.{UndoMet, undo_met, latest_is}

module _ (bench : ℕ) where
  pub held_within : (rs : List Rec) → held_by bench rs ≤ length rs
  unfolding held
  held_within rs = tally_within (length rs) (λ i. is_of bench (listed rs i))

  -- an undo makes the list shorter
  pub undo_shorter : (rs : List Rec) → UndoMet bench rs → suc (length (plain_undo bench rs)) ≡ length rs
  undo_shorter rs m = length_without rs (latest_in bench rs) (latest_is bench rs m.some).under

  -- so after as many undos as there are records the next one is refused
  pub unwind_refused : (n : ℕ) (rs : List Rec) → length rs ≤ n → (plain_undo_rules bench (plain_unwind bench n rs)).number ≡ 0 → ⊥
  unfolding plain_unwind
  unwind_refused zero rs l z = (undo_met bench rs z).some (omega (arith, held_within rs))
  unwind_refused (suc n) rs l z =
      decided (ℕ_discrete (plain_undo_rules bench rs).number 0)
      (λ y. unwind_refused n (plain_undo bench rs) (omega (arith, undo_shorter rs (undo_met bench rs y))) (rw (eq-eqb _ 0 y) at z))
      (λ y. y (rw (ne_eqb _ 0 y) at z))

  -- 26 says that the bench holds none
  pub none_held : (rs : List Rec) → (plain_undo_rules bench rs).number ≡ 26 → held_by bench rs ≡ 0
  unfolding plain_undo_rules rule ◌then◌
  none_held rs e =
      decided (ℕ_discrete (held_by bench rs) 0) (λ z. z)
      (λ z. absurd (test (blocked_in bench rs) (λ t. let h = rw (ne_eqb _ 0 z, t) at e in omega arith) (λ t. let h = rw (ne_eqb _ 0 z, t) at e in omega arith)))

  pub undo_proper : (rs : List Rec) → Proper (plain_undo_rules bench rs)
  unfolding plain_undo_rules
  undo_proper rs = then_proper _ _ (rule_proper 25 _ (length rs)) (rule_proper 42 _ (length rs))

  -- A PUT-BACK THAT IS NOT REFUSED leaves no record of the bench
  pub back_empty : (rs : List Rec) → (plain_end (plain_undo_rules bench (plain_put_back bench rs))).number ≡ 0 → held_by bench (plain_put_back bench rs) ≡ 0
  unfolding plain_end
  back_empty rs e =
      let a = plain_undo_rules bench (plain_put_back bench rs) in
      decided (ℕ_discrete a.number 26) (λ z. none_held (plain_put_back bench rs) z) (λ z. absurd (unwind_refused (length rs) rs (omega arith) (rw (ne_eqb a.number 26 z) at e)))

  -- no bench holds more than before
  pub unwind_less : (x n : ℕ) (rs : List Rec) → held_by x (plain_unwind bench n rs) ≤ held_by x rs
  unfolding plain_unwind
  unwind_less x zero rs = omega arith
  unwind_less x (suc n) rs =
      decided (ℕ_discrete (plain_undo_rules bench rs).number 0)
      (λ y.
      let l = (latest_is bench rs (undo_met bench rs y).some).under in
      rw (eq-eqb _ 0 y) (omega (arith, unwind_less x n (plain_undo bench rs), held_without rs (latest_in bench rs) l x)))
      (λ y. rw (ne_eqb _ 0 y) (omega arith))
