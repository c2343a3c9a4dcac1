-- "How many": a tally counts what a test passes, the number does not depend on how the property is said, and there is one such number.
-- Assumes nothing.
use mathlib.Core.Path.{◌≡◌, refl, sym, ap, ◌∙◌}
use mathlib.Core.Bool.{Bool, true, false}
use mathlib.Core.List.{[], ◌∷◌}
use Prim.Native.Nat.{ℕ, zero, suc, ◌+◌, ◌<◌, ◌≤◌}
use native.Mathlib.Omega.{arith}
use native.Mathlib.Decide.{dec_lt}
use lib.Dec.{eqb}
use borrow.Author.Tests.{eqb-true, eq-eqb}
use Rattle.verdict.specs.Lists.{bit, times, tally}
use Rattle.verdict.proofs.Bools.{clash, test, decided}
use Rattle.verdict.proofs.Lists.{bit_le, NoneFrom}
use Rattle.tree.proofs.Count.{total, length_total}
use Rattle.query.specs.Plain.{HowMany}

-- one number more, which passes or does not
module _ (n : ℕ) (t : ℕ → Bool) (h : HowMany n (λ i. t i ≡ true) (tally n t)) where
  one_more : t n ≡ true → HowMany (suc n) (λ i. t i ≡ true) (1 + tally n t)
  unfolding times
  one_more y = record {
    them = n ∷ h.them;
    long = omega (arith, h.long);
    once = λ i. test (eqb n i)
        (λ e. decided (dec_lt 0 (times i h.them)) (λ z. absurd (omega (arith, (h.only i z).0, eqb-true n i e))) (λ z. omega (arith, bit_le (eqb n i))))
        (λ e. omega (arith, h.once i, ap bit e));
    all = λ i l p. decided (dec_lt i n) (λ z. omega (arith, h.all i z p)) (λ z. let e : n ≡ i = omega arith in omega (arith, ap bit (eq-eqb n i e)));
    only = λ i z. test (eqb n i)
        (λ e. let q = eqb-true n i e in (omega arith, rw (← q) y))
        (λ e. let r = h.only i (omega (arith, ap bit e)) in (omega (arith, r.0), r.1));
  }

  no_more : t n ≡ false → HowMany (suc n) (λ i. t i ≡ true) (0 + tally n t)
  no_more y = record {
    them = h.them;
    long = omega (arith, h.long);
    once = h.once;
    all = λ i l p. decided (dec_lt i n) (λ z. h.all i z p) (λ z. let e : i ≡ n = omega arith in clash (rw e at p) y);
    only = λ i z. let r = h.only i z in (omega (arith, r.0), r.1);
  }

-- a tally is how many pass
pub tally_counts : (n : ℕ) (t : ℕ → Bool) → HowMany n (λ i. t i ≡ true) (tally n t)
unfolding tally times
tally_counts zero t = record { them = []; long = refl; once = λ i. omega arith; all = λ i l p. absurd (omega arith); only = λ i z. absurd (omega arith) }
tally_counts (suc n) t =
    let h = tally_counts n t in
    test (t n) (λ y. rw y (one_more n t h y)) (λ y. rw y (no_more n t h y))

-- two properties that are one under n
pub counts_same : {n k : ℕ} {P Q : ℕ → Type 0} → ((i : ℕ) → i < n → P i → Q i) → ((i : ℕ) → i < n → Q i → P i) → HowMany n P k → HowMany n Q k
counts_same f g h = record {
  them = h.them;
  long = h.long;
  once = h.once;
  all = λ i l q. h.all i l (g i l q);
  only = λ i z. let r = h.only i z in (r.0, f i r.0 r.1);
}

-- ---- one number

total_same : (n : ℕ) (f g : ℕ → ℕ) → ((k : ℕ) → f k ≡ g k) → total n f ≡ total n g
unfolding total
total_same zero f g h = refl
total_same (suc n) f g h = let ih = total_same n f g h in omega (arith, h n)

module _ {n : ℕ} {P : ℕ → Type 0} where
  inside : {k : ℕ} (h : HowMany n P k) → NoneFrom n h.them
  unfolding NoneFrom
  inside h i l = decided (dec_lt 0 (times i h.them)) (λ z. absurd (omega (arith, (h.only i z).0))) (λ z. omega arith)

  at_most : {k j : ℕ} (h : HowMany n P k) (g : HowMany n P j) (i : ℕ) → times i h.them ≤ times i g.them
  at_most h g i =
      decided (dec_lt 0 (times i h.them)) (λ z. let r = h.only i z in omega (arith, h.once i, g.all i r.0 r.1)) (λ z. omega arith)

  pub counts_only : {k j : ℕ} → HowMany n P k → HowMany n P j → k ≡ j
  counts_only h g =
      sym h.long ∙ length_total n h.them (inside h)
      ∙ total_same n _ _ (λ i. omega (arith, at_most h g i, at_most g h i))
      ∙ sym (length_total n g.them (inside g)) ∙ g.long
