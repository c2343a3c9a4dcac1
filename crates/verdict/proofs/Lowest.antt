-- The laws of `lowest`, `any_under` and `all_under`: what a loop that looks upward has to show, and what its answer tells. Assumes nothing.
use mathlib.Core.Path.{◌≡◌, refl, sym, ◌∙◌, ap, subst}
use mathlib.Core.Bool.{Bool, true, false, not, ◌&&◌}
use mathlib.Core.Logic.{◌⊎◌, inl, inr, ⊎_elim}
use Prim.Native.Nat.{ℕ, zero, suc, ◌+◌, ◌<◌, ◌≤◌}
use native.Mathlib.Nat.{eq-or-lt_of_le, le_of_suc-le-suc}
use native.Mathlib.Numerals.{add-one}
use native.Mathlib.Omega.{arith}
use native.Mathlib.Decide.{dec_lt}
use borrow.Author.Tests.{lt-ltb, le-ltb, ltb-true, ltb-false, not-true, not-false}
use Rattle.verdict.specs.Lowest.{lowest, any_under, all_under, IsLowest}
use Rattle.verdict.proofs.Bools.{clash, test, not_of_true, not_of_false}

module _ (p : ℕ → Bool) where
  -- where a loop starts
  pub lowest_none : lowest 0 p ≡ 0
  unfolding lowest
  lowest_none = refl

  -- one number more: found before, found there, or not found
  kept : (n : ℕ) → lowest n p < n → lowest (suc n) p ≡ lowest n p
  unfolding lowest
  kept n h = rw (lt-ltb (lowest n p) n h)

  here : (n : ℕ) → lowest n p ≡ n → p n ≡ true → lowest (suc n) p ≡ n
  unfolding lowest
  here n h e = rw (le-ltb (lowest n p) n (omega arith), e)

  nor : (n : ℕ) → lowest n p ≡ n → p n ≡ false → lowest (suc n) p ≡ suc n
  unfolding lowest
  nor n h e = rw (le-ltb (lowest n p) n (omega arith), e)

  -- a turn that finds nothing
  pub lowest_more : (i : ℕ) → lowest i p ≡ i → p i ≡ false → lowest (i + 1) p ≡ i + 1
  lowest_more i h e = rw add-one (nor i h e)

  -- the turn that finds it
  pub lowest_hit : (i n : ℕ) → lowest i p ≡ i → p i ≡ true → i < n → lowest n p ≡ i
  lowest_hit i zero h e l = absurd (omega arith)
  lowest_hit i (suc n) h e l =
      ⊎_elim (λ (q : i ≡ n). subst (λ (m : ℕ). lowest (suc m) p ≡ i) q (here i h e))
      (λ (q : i < n). let r = lowest_hit i n h e q in kept n (omega arith) ∙ r) (eq-or-lt_of_le (le_of_suc-le-suc l))

  -- the definition is "the lowest such" ..
  is_more : (n : ℕ) → IsLowest p n (lowest n p) → (t : Bool) → p n ≡ t → (lowest n p ≡ n) ⊎ (lowest n p < n) → IsLowest p (suc n) (lowest (suc n) p)
  is_more n ih t e (inr l) = rw (kept n l) (record { within = omega (arith, ih.within); holds = λ q. ih.holds l; before = ih.before })
  is_more n ih true e (inl h) = rw (here n h e) (record { within = omega arith; holds = λ q. e; before = λ j l. ih.before j (omega arith) })
  is_more n ih false e (inl h) =
      rw (nor n h e) (record {
        within = omega arith;
        holds = λ q. absurd (omega arith);
        before = λ j l.
            ⊎_elim (λ (q : j ≡ n). subst (λ (m : ℕ). p m ≡ false) (sym q) e) (λ (q : j < n). ih.before j (omega arith)) (eq-or-lt_of_le (le_of_suc-le-suc l));
      })

  pub lowest_is : (n : ℕ) → IsLowest p n (lowest n p)
  lowest_is zero = rw lowest_none (record { within = omega arith; holds = λ l. absurd (omega arith); before = λ j l. absurd (omega arith) })
  lowest_is (suc n) = is_more n (lowest_is n) (p n) refl (eq-or-lt_of_le (lowest_is n).within)

  -- .. and the only such
  pub lowest_only : (n k : ℕ) → IsLowest p n k → lowest n p ≡ k
  lowest_only n k h = by (dec_lt (lowest n p) k) (dec_lt k (lowest n p))
    where
      o : IsLowest p n (lowest n p)
      o = lowest_is n

      by : Dec (lowest n p < k) → Dec (k < lowest n p) → lowest n p ≡ k
      by (yes l) d = clash (o.holds (omega (arith, h.within))) (h.before (lowest n p) l)
      by (no m) (yes l) = clash (h.holds (omega (arith, o.within))) (o.before k l)
      by (no m) (no l) = omega arith

  pub lowest_within : (k n : ℕ) → k ≡ lowest n p → k ≤ n
  lowest_within k n e = omega (arith, (lowest_is n).within)

  pub lowest_all : (n : ℕ) → ((k : ℕ) → k < n → p k ≡ false) → lowest n p ≡ n
  lowest_all n h = lowest_only n n (record { within = omega arith; holds = λ l. absurd (omega arith); before = h })

  -- a loop that has passed n numbers
  pub lowest_done : (i n : ℕ) → lowest i p ≡ i → n ≤ i → n ≡ lowest n p
  lowest_done i n h l = sym (lowest_all n (λ j q. (lowest_is i).before j (omega arith)))

  -- ---- whether there is one

  pub any_hit : (i n : ℕ) → lowest i p ≡ i → p i ≡ true → i < n → true ≡ any_under n p
  unfolding any_under
  any_hit i n h e l = rw (lowest_hit i n h e l, lt-ltb i n l)

  pub any_none : (i n : ℕ) → lowest i p ≡ i → n ≤ i → false ≡ any_under n p
  unfolding any_under
  any_none i n h l = rw (← lowest_done i n h l, le-ltb n n (omega arith))

  pub none_under : (n : ℕ) → any_under n p ≡ false → (j : ℕ) → j < n → p j ≡ false
  unfolding any_under
  none_under n h j l = (lowest_is n).before j (omega (arith, ltb-false (lowest n p) n h))

  pub under_none : (n : ℕ) → ((j : ℕ) → j < n → p j ≡ false) → any_under n p ≡ false
  unfolding any_under
  under_none n f = rw (lowest_all n f) (le-ltb n n (omega arith))

  pub some_under : (n j : ℕ) → j < n → p j ≡ true → any_under n p ≡ true
  unfolding any_under
  some_under n j l e = lt-ltb (lowest n p) n (by (dec_lt (lowest n p) n))
    where
      by : Dec (lowest n p < n) → lowest n p < n
      by (yes q) = q
      by (no q) = clash e ((lowest_is n).before j (omega (arith, (lowest_is n).within)))

  pub found_under : (n : ℕ) → any_under n p ≡ true → (lowest n p < n) × (p (lowest n p) ≡ true)
  unfolding any_under
  found_under n h = let l = ltb-true (lowest n p) n h in (l, (lowest_is n).holds l)

  -- one number more, of which the test does not hold
  pub any_more : (n : ℕ) → p n ≡ false → any_under (suc n) p ≡ any_under n p
  any_more n e =
      test (any_under n p)
      (λ y. let f = found_under n y in some_under (suc n) (lowest n p) (omega (arith, f.0)) f.1 ∙ sym y)
      (λ y. under_none (suc n)
      (λ j l. ⊎_elim (λ (q : j ≡ n). subst (λ (k : ℕ). p k ≡ false) (sym q) e) (λ (q : j < n). none_under n y j q) (eq-or-lt_of_le (le_of_suc-le-suc l)))
      ∙ sym y)

-- two tests that agree under n
pub lowest_same_lem : (n : ℕ) (p q : ℕ → Bool) → ((k : ℕ) → k < n → p k ≡ q k) → lowest n p ≡ lowest n q
lowest_same_lem n p q f =
    let o = lowest_is q n in
    lowest_only p n (lowest n q) (record {
      within = o.within;
      holds = λ l. f _ l ∙ o.holds l;
      before = λ j l. f j (omega (arith, o.within)) ∙ o.before j l;
    })

pub any_same : (n : ℕ) (p q : ℕ → Bool) → ((k : ℕ) → k < n → p k ≡ q k) → any_under n p ≡ any_under n q
unfolding any_under
any_same n p q h = rw (lowest_same_lem n p q h)

-- ---- whether each passes

and_true : (b : Bool) → (b && true) ≡ b
and_true true = refl
and_true false = refl

and_false : (b : Bool) → (b && false) ≡ false
and_false true = refl
and_false false = refl

module _ (p : ℕ → Bool) where
  pub all_true : (n : ℕ) → all_under n p ≡ true → (k : ℕ) → k < n → p k ≡ true
  unfolding all_under
  all_true n e k l = not-false (p k) (none_under (λ j. not (p j)) n (not-true (any_under n (λ j. not (p j))) e) k l)

  pub true_all : (n : ℕ) → ((k : ℕ) → k < n → p k ≡ true) → all_under n p ≡ true
  unfolding all_under
  true_all n f = not_of_false (any_under n (λ j. not (p j))) (under_none (λ j. not (p j)) n (λ j l. not_of_true (p j) (f j l)))

  -- a loop that looks at all: where it starts, and one number more that fails or passes
  pub all_none : true ≡ all_under 0 p
  all_none = sym (true_all 0 (λ k l. absurd (omega arith)))

  pub all_fails : (i : ℕ) → p i ≡ false → false ≡ all_under (i + 1) p
  unfolding all_under
  all_fails i e = ap not (sym (some_under (λ k. not (p k)) (i + 1) i (omega arith) (not_of_false (p i) e)))

  pub all_more : (i : ℕ) → p i ≡ true → all_under i p ≡ all_under (i + 1) p
  unfolding all_under
  all_more i e = rw add-one (ap not (sym (any_more (λ k. not (p k)) i (not_of_true (p i) e))))

  -- one number more
  pub all_next : (i : ℕ) → (all_under i p && p i) ≡ all_under (i + 1) p
  all_next i = by (p i) refl
    where
      by : (t : Bool) → p i ≡ t → (all_under i p && t) ≡ all_under (i + 1) p
      by true e = and_true (all_under i p) ∙ all_more i e
      by false e = and_false (all_under i p) ∙ all_fails i e

  -- a loop that looks for one that fails
  pub all_hit : (i n : ℕ) → lowest i (λ k. not (p k)) ≡ i → p i ≡ false → i < n → false ≡ all_under n p
  unfolding all_under
  all_hit i n h e l = ap not (any_hit (λ k. not (p k)) i n h (not_of_false (p i) e) l)

  pub all_passed : (i n : ℕ) → lowest i (λ k. not (p k)) ≡ i → n ≤ i → true ≡ all_under n p
  unfolding all_under
  all_passed i n h l = ap not (any_none (λ k. not (p k)) i n h l)
