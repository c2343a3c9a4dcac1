-- What `find`, `any` and `all` answer over the numbers under n, where the closure computes a test: `first`, `any_under` and `all_under` of it.
use mathlib.Core.Path.{◌≡◌, refl, sym, ap, subst, ◌∙◌}
use mathlib.Core.Bool.{Bool, true, false, not}
use mathlib.Core.List.{List}
use Prim.Native.Nat.{ℕ, ◌<◌, ◌≤◌}
use native.Mathlib.Omega.{arith}
use lib.ListN.{length, get_or}
use denote.Ref.{Bor}
use denote.Param.Members.{Mut}
use Rattle.std.specs.declared.option.Option.{Option}
use Rattle.std.specs.declared.option.Option.TheVariants.{None, Some}
use Rattle.std.specs.declared.ops.Range.{Range}
use Rattle.std.specs.Iterator.{YieldsThen}
use Rattle.std.specs.List.{FoldsTo, range_with_len, HoldsAt, AllWithin}
use Rattle.std.specs.Fn.{Called, CalledAt}
use Rattle.std.specs.Option.{MatchOption}
use Rattle.std.specs.Bool.{MatchBool, ⊤}
use Rattle.std.proofs.iter.Yields.{nat_range_steps}
use Rattle.std.proofs.lemmas.Iterator.{first_from_Range, cases_from_any, cases_from_all, YieldsList, YieldsList-from_range}
use Rattle.std.proofs.lemmas.List.FromFn.{length-range_with_len, get_or-range_with_len}
use Rattle.verdict.specs.Lowest.{first, any_under, all_under}
use Rattle.verdict.proofs.Lowest.{lowest_only, under_none, some_under, true_all}
use Rattle.verdict.proofs.Bools.{not_of_false}

module _ (p : ℕ → Bool) where
  some_first : (n i : ℕ) → i < n → p i ≡ true → ((k : ℕ) → k < i → p k ≡ false) → Some i ≡ first n p
  unfolding first
  some_first n i l e h =
      rw (some_under p n i l e) (rw (lowest_only p n i (record { within = omega arith; holds = λ _. e; before = h })) refl)

  none_first : (n : ℕ) → ((k : ℕ) → k < n → p k ≡ false) → None ≡ first n p
  unfolding first
  none_first n h = rw (under_none p n h) refl

  -- `(0..n).find(..)`
  pub find_is_first : {F : Type 0} {g : Mut F (Bor ℕ × Unit {0}) Bool} (n : ℕ) (u : Range ℕ) (f : F) (r : Option ℕ)
      → (xs : List ℕ) × (j : F) × YieldsThen nat_range_steps (record { start = 0; end = n }) xs r u × FoldsTo (λ q x t. CalledAt g q x false t) f xs j × MatchOption r ⊤ (λ x. (h : F) × CalledAt g j x true h)
      → ((x : ℕ) (b : Bool) (q : F) → CalledAt g f x b q → (q ≡ f) × (b ≡ p x)) → r ≡ first n p
  find_is_first n u f r ran does = by r (first_from_Range _ u f r (λ i. p i ≡ true) (λ i. p i ≡ false) ran (λ x q k. sym ((does x true q k).1)) (λ x q k. ((does x false q k).0, sym ((does x false q k).1))))
    where
      by : (o : Option ℕ) → MatchOption o ((k : ℕ) → 0 ≤ k → k < n → p k ≡ false) (λ i. (0 ≤ i) × (i < n) × (p i ≡ true) × ((k : ℕ) → 0 ≤ k → k < i → p k ≡ false)) → o ≡ first n p
      by None h = none_first n (λ k l. h k (omega arith) l)
      by (Some i) h = some_first n i h.1 h.2 (λ k l. h.3 k (omega arith) l)

  -- a number of the list of the numbers under n
  number : (n k : ℕ) (P : ℕ → Type 0) → k < n → P (get_or (range_with_len 0 n) k 0) → P k
  number n k P l h = subst P (get_or-range_with_len 0 n k 0 l ∙ omega arith) h

  below : (n : ℕ) → YieldsList nat_range_steps (λ x. x) (record { start = 0; end = n }) (range_with_len 0 n)
  below n = YieldsList-from_range 0 n n refl (omega arith)

  -- `(0..n).any(..)`
  pub any_is_any_under : {F : Type 0} {g : Mut F (ℕ × Unit {0}) Bool} (n : ℕ) (u : Range ℕ) (f : F) (r : Bool)
      → (xs : List ℕ) × (o : Option ℕ) × (j : F) × YieldsThen nat_range_steps (record { start = 0; end = n }) xs o u × FoldsTo (λ q x t. Called g q (x, tt) false t) f xs j × MatchOption o (r ≡ false) (λ x. (r ≡ true) × ((h : F) × Called g j (x, tt) true h))
      → ((x : ℕ) (b : Bool) (q : F) → Called g f (x, tt) b q → (q ≡ f) × (b ≡ p x)) → r ≡ any_under n p
  any_is_any_under n u f r ran does = by r (cases_from_any u f r (λ i. p i ≡ true) (λ i. p i ≡ false) ran (below n) (λ x q k. sym ((does x true q k).1)) (λ x q k. ((does x false q k).0, sym ((does x false q k).1))))
    where
      long : length (range_with_len 0 n) ≡ n
      long = length-range_with_len 0 n

      by : (b : Bool) → MatchBool b ((k : ℕ) × (k < length (range_with_len 0 n)) × HoldsAt (λ i. p i ≡ true) (range_with_len 0 n) k) (AllWithin (λ i. p i ≡ false) (range_with_len 0 n) 0 (length (range_with_len 0 n))) → b ≡ any_under n p
      by true h = let l : h.0 < n = omega (arith, long, h.1) in sym (some_under p n h.0 l (number n h.0 (λ i. p i ≡ true) l (h.2 0)))
      by false h = sym (under_none p n (λ j l. number n j (λ i. p i ≡ false) l (h j 0 (omega arith) (omega (arith, long)))))

  false_all : (n i : ℕ) → i < n → p i ≡ false → all_under n p ≡ false
  unfolding all_under
  false_all n i l e = ap not (some_under (λ k. not (p k)) n i l (not_of_false (p i) e))

  -- `(0..n).all(..)`
  pub all_is_all_under : {F : Type 0} {g : Mut F (ℕ × Unit {0}) Bool} (n : ℕ) (u : Range ℕ) (f : F) (r : Bool)
      → (xs : List ℕ) × (o : Option ℕ) × (j : F) × YieldsThen nat_range_steps (record { start = 0; end = n }) xs o u × FoldsTo (λ q x t. Called g q (x, tt) true t) f xs j × MatchOption o (r ≡ true) (λ x. (r ≡ false) × ((h : F) × Called g j (x, tt) false h))
      → ((x : ℕ) (b : Bool) (q : F) → Called g f (x, tt) b q → (q ≡ f) × (b ≡ p x)) → r ≡ all_under n p
  all_is_all_under n u f r ran does = by r (cases_from_all u f r (λ i. p i ≡ true) (λ i. p i ≡ false) ran (below n) (λ x q k. ((does x true q k).0, sym ((does x true q k).1))) (λ x q k. sym ((does x false q k).1)))
    where
      long : length (range_with_len 0 n) ≡ n
      long = length-range_with_len 0 n

      by : (b : Bool) → MatchBool b (AllWithin (λ i. p i ≡ true) (range_with_len 0 n) 0 (length (range_with_len 0 n))) ((k : ℕ) × (k < length (range_with_len 0 n)) × HoldsAt (λ i. p i ≡ false) (range_with_len 0 n) k) → b ≡ all_under n p
      by true h = sym (true_all p n (λ j l. number n j (λ i. p i ≡ true) l (h j 0 (omega arith) (omega (arith, long)))))
      by false h = let l : h.0 < n = omega (arith, long, h.1) in sym (false_all n h.0 l (number n h.0 (λ i. p i ≡ false) l (h.2 0)))
