-- How many numbers pass a test: one more law each for a test that is split, for one number taken out, and for a map from those that
-- pass one test to those that pass another. Assumes nothing.
use Prim.Native.Nat.{ℕ, zero, suc, ◌+◌, ◌<◌, ◌≤◌}
use native.Mathlib.Omega.{arith}
use native.Mathlib.Decide.{dec_lt}
use mathlib.Core.Path.{◌≡◌, refl, ap}
use mathlib.Core.Bool.{Bool, true, false, not, ◌&&◌}
use lib.Dec.{eqb}
use borrow.Author.Tests.{eq-eqb, eqb-true, ne_eqb}
use Rattle.verdict.specs.Lowest.{lowest}
use Rattle.verdict.specs.Lists.{bit, tally}
use Rattle.verdict.proofs.Bools.{test, decided, and_true, true_and, not_of_false}
use Rattle.verdict.proofs.Lowest.{lowest_is}
use Rattle.verdict.proofs.Lists.{none_tally, one_tally}

bit_split : (a b : Bool) → bit (a && b) + bit (a && not b) ≡ bit a
bit_split true true = refl
bit_split true false = refl
bit_split false b = refl

-- those that pass one test, by a second
pub tally_split : (n : ℕ) (p q : ℕ → Bool) → tally n (λ k. p k && q k) + tally n (λ k. p k && not (q k)) ≡ tally n p
unfolding tally
tally_split zero p q = refl
tally_split (suc n) p q = omega (arith, bit_split (p n) (q n), tally_split n p q)

-- one number taken out
pub tally_but : (n k : ℕ) (p : ℕ → Bool) → k < n → p k ≡ true → tally n p ≡ tally n (λ j. p j && not (eqb j k)) + 1
tally_but n k p l e =
    let one : tally n (λ j. p j && eqb j k) ≡ 1 =
    one_tally n (λ j. p j && eqb j k) (record {
      it = k;
      under = l;
      passes = true_and (p k) (eqb k k) e (eq-eqb k k refl);
      only = λ m lt q. eqb-true m k (and_true (p m) (eqb m k) q).1;
    }) in
    omega (arith, tally_split n p (λ j. eqb j k))

-- where some pass, there is a lowest
pub tally_some : (n : ℕ) (p : ℕ → Bool) → 0 < tally n p → lowest n p < n
tally_some n p l =
    decided (dec_lt (lowest n p) n) (λ q. q)
    (λ q. absurd (omega (arith, none_tally n p (λ k b. (lowest_is p n).before k (omega (arith, (lowest_is p n).within))))))

-- a map that keeps apart what passes p, into what passes q
pub tally_map : (n m : ℕ) (p q : ℕ → Bool) (f : ℕ → ℕ) → ((k : ℕ) → k < n → p k ≡ true → (f k < m) × (q (f k) ≡ true))
    → ((j k : ℕ) → j < n → k < n → p j ≡ true → p k ≡ true → f j ≡ f k → j ≡ k) → tally n p ≤ tally m q
unfolding tally
tally_map zero m p q f maps apart = omega arith
tally_map (suc n) m p q f maps apart =
    let below : (r : ℕ → Bool) → ((k : ℕ) → k < n → p k ≡ true → (f k < m) × (r (f k) ≡ true)) → tally n p ≤ tally m r =
    λ r h. tally_map n m p r f h (λ j k lj lk. apart j k (omega arith) (omega arith)) in
    test (p n)
    (λ y.
    let here = maps n (omega arith) y in
    let rest = below (λ j. q j && not (eqb j (f n))) (λ k l e.
    let g = maps k (omega arith) e in
    let new : eqb (f k) (f n) ≡ false = ne_eqb (f k) (f n) (λ (z : f k ≡ f n). omega (arith, apart k n (omega arith) (omega arith) e y z)) in
    (g.0, true_and (q (f k)) (not (eqb (f k) (f n))) g.1 (not_of_false (eqb (f k) (f n)) new))) in
    omega (arith, tally_but m (f n) q here.0 here.1, ap bit y))
    (λ y. omega (arith, below q (λ k l. maps k (omega arith)), ap bit y))
