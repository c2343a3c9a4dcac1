-- Rule 16 by what the adjacency entry claims, where 15 is unbroken: three laws, for the word for none, for a half-edge, and for anything else.
-- Assumes nothing.
use Prim.Native.Nat.{ℕ, ◌<◌, ◌≤◌}
use native.Mathlib.Omega.{arith}
use native.Mathlib.Decide.{dec_lt}
use mathlib.Core.Path.{◌≡◌, sym, ap, ◌∙◌}
use mathlib.Core.Bool.{true, false, not}
use lib.Dec.{eqb}
use borrow.Author.Tests.{lt-ltb, le-ltb, eq-eqb, ne_eqb}
use Rattle.verdict.specs.Lowest.{any_under}
use Rattle.verdict.proofs.Bools.{clash, decided, test, not_of_true, not_of_false}
use Rattle.tables.specs.Parts.{none32, Parts, adjacent_to}
use Rattle.pairs.specs.Halves.{halves, from, to, runs, partner, pairing, wrong_adjacent}
use Rattle.pairs.specs.Plain.{Apart}
use Rattle.pairs.proofs.Paired.{runs_true, true_runs, partner_found, partner_only, pairing_some, pairing_no}

module _ (p : Parts) (few : halves p ≤ 12288) (h : ℕ) where
  right : adjacent_to p h ≡ pairing p h → wrong_adjacent p h ≡ false
  unfolding wrong_adjacent
  right e = not_of_true (eqb (adjacent_to p h) (pairing p h)) (eq-eqb (adjacent_to p h) (pairing p h) e)

  wrong : (adjacent_to p h ≡ pairing p h → ⊥) → wrong_adjacent p h ≡ true
  unfolding wrong_adjacent
  wrong ne = not_of_false (eqb (adjacent_to p h) (pairing p h)) (ne_eqb (adjacent_to p h) (pairing p h) ne)

  -- what the entry should be: a half-edge, or the word for none
  pairing_is : (pairing p h < halves p → ⊥) → pairing p h ≡ none32
  pairing_is ne =
      decided (dec_lt (partner p h) (halves p)) (λ l. absurd (ne (omega (arith, pairing_some p h l)))) (λ l. pairing_no p h (omega arith))

  -- -1: wrong where some half-edge runs the opposite way
  pub claims_none : adjacent_to p h ≡ none32 → any_under (halves p) (runs p (to p h) (from p h)) ≡ wrong_adjacent p h
  unfolding any_under partner
  claims_none e =
      decided (dec_lt (partner p h) (halves p))
      (λ l. lt-ltb _ _ l ∙ sym (wrong (λ (q : adjacent_to p h ≡ pairing p h). omega (arith, pairing_some p h l))))
      (λ l. let m : halves p ≤ partner p h = omega arith in le-ltb _ _ m ∙ sym (right (e ∙ sym (pairing_no p h m))))

  -- a half-edge: wrong where it does not run the opposite way; if it does there is no other that does
  pub claims_half : Apart p → adjacent_to p h < halves p → not (runs p (to p h) (from p h) (adjacent_to p h)) ≡ wrong_adjacent p h
  claims_half apart l =
      test (runs p (to p h) (from p h) (adjacent_to p h))
      (λ y.
      let q = runs_true p (to p h) (from p h) (adjacent_to p h) y in
      let e : partner p h ≡ adjacent_to p h = partner_only p apart (adjacent_to p h) h l (record { there = q.0; back = q.1 }) in
      rw y (sym (right (sym (pairing_some p h (omega (arith, e)) ∙ e)))))
      (λ y. rw y (sym (wrong (λ e. named e y))))
    where
      -- where the entry is right, the half-edge that it names runs the opposite way
      named : adjacent_to p h ≡ pairing p h → runs p (to p h) (from p h) (adjacent_to p h) ≡ false → ⊥
      named e y =
          decided (dec_lt (partner p h) (halves p))
          (λ m.
          let o = partner_found p h m in
          let q : adjacent_to p h ≡ partner p h = e ∙ pairing_some p h m in
          clash (true_runs p (to p h) (from p h) (adjacent_to p h) (ap (from p) q ∙ o.there) (ap (to p) q ∙ o.back)) y)
          (λ m. absurd (omega (arith, pairing_no p h (omega arith))))

  -- anything else is wrong
  pub claims_more : halves p ≤ adjacent_to p h → (adjacent_to p h ≡ none32 → ⊥) → true ≡ wrong_adjacent p h
  claims_more l ne = sym (wrong (λ (e : adjacent_to p h ≡ pairing p h). ne (e ∙ pairing_is (λ (m : pairing p h < halves p). omega arith))))
