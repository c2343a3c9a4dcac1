-- The laws of `highest`: what a loop that looks downward has to show, and what its answer tells. Assumes nothing.
use mathlib.Core.Path.{◌≡◌, refl, ap}
use mathlib.Core.Bool.{Bool, true, false}
use mathlib.Core.Logic.{⊎_elim}
use Prim.Native.Nat.{ℕ, zero, suc, ◌<◌}
use native.Mathlib.Omega.{arith}
use native.Mathlib.Nat.{eq-or-lt_of_le, le_of_suc-le-suc}
use Rattle.verdict.specs.Lists.{bit, tally}
use Rattle.verdict.specs.Lowest.{highest, IsHighest}
use Rattle.verdict.proofs.Bools.{test}

-- a number that passes is the highest under the next; one that does not changes nothing
pub highest_here : (n : ℕ) (p : ℕ → Bool) → p n ≡ true → highest (suc n) p ≡ n
unfolding highest
highest_here n p e = rw e

pub highest_not : (n : ℕ) (p : ℕ → Bool) → p n ≡ false → highest (suc n) p ≡ highest n p
unfolding highest
highest_not n p e = rw e

-- the definition is "the highest such", where some number passes ..
pub highest_is : (n : ℕ) (p : ℕ → Bool) → (tally n p ≡ 0 → ⊥) → IsHighest p n (highest n p)
unfolding highest tally
highest_is zero p z = absurd (z refl)
highest_is (suc n) p z =
    test (p n)
    (λ e. rw e (record { under = omega arith; holds = e; above = λ j l m. absurd (omega arith) }))
    (λ e.
    let h = highest_is n p (λ y. z (omega (arith, ap bit e))) in
    rw e (record {
      under = omega (arith, h.under);
      holds = h.holds;
      above = λ j l m. ⊎_elim (λ (q : j ≡ n). rw q e) (λ (q : j < n). h.above j l q) (eq-or-lt_of_le (le_of_suc-le-suc m));
    }))

-- .. and the only such
pub highest_only : (n : ℕ) (p : ℕ → Bool) (k : ℕ) → IsHighest p n k → highest n p ≡ k
unfolding highest
highest_only zero p k h = absurd (omega (arith, h.under))
highest_only (suc n) p k h =
    ⊎_elim (λ (q : k ≡ n). rw q (highest_here n p (rw q at h.holds)))
    (λ (q : k < n). rw (h.above n q (omega arith)) (highest_only n p k (record { under = q; holds = h.holds; above = λ j l m. h.above j l (omega arith) })))
    (eq-or-lt_of_le (le_of_suc-le-suc h.under))

pub highest_same : (n : ℕ) (p q : ℕ → Bool) → ((k : ℕ) → k < n → p k ≡ q k) → highest n p ≡ highest n q
unfolding highest
highest_same zero p q h = refl
highest_same (suc n) p q h = rw (h n (omega arith), highest_same n p q (λ k l. h k (omega arith)))

-- where there are numbers at all, it is one of them
pub highest_under : (n : ℕ) (p : ℕ → Bool) (k : ℕ) → k < n → highest n p < n
unfolding highest
highest_under zero p k l = absurd (omega arith)
highest_under (suc zero) p k l = test (p 0) (λ e. rw e (omega arith)) (λ e. rw e (omega arith))
highest_under (suc (suc n)) p k l = test (p (suc n)) (λ e. rw e (omega arith)) (λ e. let h = highest_under (suc n) p 0 (omega arith) in rw e (omega arith))
