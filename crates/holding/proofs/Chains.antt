-- What chains over the records' numbers answer, where the closure computes a test: the highest that passes, and whether one behind a
-- number does. Assumes nothing.
use mathlib.Core.Path.{◌≡◌, refl, sym, ap, subst, ◌∙◌}
use mathlib.Core.Bool.{Bool, true, false, cond}
use mathlib.Core.List.{List, [], ◌∷◌}
use Prim.Native.Nat.{ℕ, zero, suc, ◌+◌, ◌-◌, ◌<◌, ◌≤◌}
use native.Mathlib.Omega.{arith}
use native.Mathlib.Decide.{dec_lt}
use lib.ListN.{length, get_or}
use lib.Dec.{eqb}
use borrow.Author.Tests.{eq-eqb, ne_eqb}
use denote.Ref.{Bor}
use denote.Param.Members.{Mut}
use Rattle.std.specs.declared.option.Option.{Option}
use Rattle.std.specs.declared.option.Option.TheVariants.{None, Some}
use Rattle.std.specs.declared.ops.Range.{Range}
use Rattle.std.specs.declared.iter.Rev.{Rev}
use Rattle.std.specs.Bool.{MatchBool, ⊤}
use Rattle.std.specs.Fn.{Called, CalledAt}
use Rattle.std.specs.Iterator.{YieldsThen}
use Rattle.std.specs.Iterator.Adapters.{rev_source, rev_steps}
use Rattle.std.specs.List.{range_with_len, FoldsTo, HoldsAt, AllWithin}
use Rattle.std.specs.Option.{MatchOption}
use Rattle.std.proofs.iter.Yields.{nat_range_steps}
use Rattle.std.proofs.lemmas.Iterator.{YieldsList, YieldsList-from_range, cases_from_any, first_from_find}
use Rattle.std.proofs.lemmas.Iterator.Consumers.{YieldsList-from_shown}
use Rattle.std.proofs.lemmas.List.FromFn.{length-range_with_len, get_or-range_with_len}
use Rattle.verdict.specs.Lists.{tally}
use Rattle.verdict.specs.Lowest.{any_under, highest}
use Rattle.verdict.proofs.Bools.{clash, decided}
use Rattle.verdict.proofs.Lists.{tally_none, none_tally}
use Rattle.verdict.proofs.Lowest.{under_none, some_under}
use Rattle.verdict.proofs.Highest.{highest_only}

-- ---- `(0..n).rev().find(..)`

-- what a range gives from its end
abbrev pub down_steps : Range ℕ → Option ℕ → Range ℕ → Type 0
down_steps s r t = (t.start ≡ s.start) × MatchOption r ((s.end - s.start ≡ 0) × (t.end ≡ s.end)) (λ x. (0 < s.end - s.start) × (x ≡ t.end) × (s.end ≡ t.end + 1))

-- n numbers from a on, the highest first
abbrev down : ℕ → ℕ → List ℕ
down a zero = []
down a (suc n) = (a + n) ∷ down a n

length_down : (a n : ℕ) → length (down a n) ≡ n
length_down a zero = refl
length_down a (suc n) = ap suc (length_down a n)

down_at : (a n i d : ℕ) → i < n → get_or (down a n) i d + i + 1 ≡ a + n
down_at a zero i d l = absurd (omega arith)
down_at a (suc n) zero d l = omega arith
down_at a (suc n) (suc i) d l = omega (arith, down_at a n i d (omega arith))

one_down : (a n x b m : ℕ) → n ≡ suc m → x ≡ a + m → b ≡ a → down a n ≡ x ∷ down b m
one_down a n x b m e f g = rw (e, f, g) refl

falling : (s : Rev (Range ℕ)) → YieldsList (rev_steps down_steps) (λ x. x) s (down (rev_source s).start ((rev_source s).end - (rev_source s).start))
falling = YieldsList-from_shown (rev_steps down_steps) (λ x. x) (λ s. down (rev_source s).start ((rev_source s).end - (rev_source s).start))
    (λ s t k. rw k.1.0 refl)
    (λ s x t k. one_down (rev_source s).start _ x (rev_source t).start _ (omega (arith, k.0, k.1.0, k.1.2)) (omega (arith, k.0, k.1.0, k.1.1, k.1.2)) k.0)

module _ (p : ℕ → Bool) where
  some_last : (n i : ℕ) → i < n → p i ≡ true → ((k : ℕ) → i < k → k < n → p k ≡ false) → Some i ≡ cond (eqb (tally n p) 0) None (Some (highest n p))
  some_last n i l e h =
      rw (ne_eqb (tally n p) 0 (λ z. clash e (tally_none n p z i l)), highest_only n p i (record { under = l; holds = e; above = h })) refl

  none_last : (n : ℕ) → ((k : ℕ) → k < n → p k ≡ false) → None ≡ cond (eqb (tally n p) 0) None (Some (highest n p))
  none_last n h = rw (eq-eqb (tally n p) 0 (none_tally n p h)) refl

  pub find_is_last : {F : Type 0} {g : Mut F (Bor ℕ × Unit {0}) Bool} (n : ℕ) (s u : Rev (Range ℕ)) (f : F) (r : Option ℕ) → rev_source s ≡ record { start = 0; end = n }
      → (xs : List ℕ) × (j : F) × YieldsThen (rev_steps down_steps) s xs r u × FoldsTo (λ q x t. CalledAt g q x false t) f xs j × MatchOption r ⊤ (λ x. (h : F) × CalledAt g j x true h)
      → ((x : ℕ) (b : Bool) (q : F) → CalledAt g f x b q → (q ≡ f) × (b ≡ p x)) → r ≡ cond (eqb (tally n p) 0) None (Some (highest n p))
  find_is_last n s u f r from ran does =
      by r (first_from_find u f r (λ i. p i ≡ true) (λ i. p i ≡ false) ran all (λ x q k. sym ((does x true q k).1)) (λ x q k. ((does x false q k).0, sym ((does x false q k).1))))
    where
      all : YieldsList (rev_steps down_steps) (λ x. x) s (down 0 n)
      all =
          let e : n - 0 ≡ n = omega arith in
          subst (λ (m : ℕ). YieldsList (rev_steps down_steps) (λ x. x) s (down 0 m)) e
          (subst (λ (w : Range ℕ). YieldsList (rev_steps down_steps) (λ x. x) s (down w.start (w.end - w.start))) from (falling s))

      -- the number i stands behind those above it
      there : (i : ℕ) → i < n → n - 1 - i < length (down 0 n)
      there i l = omega (arith, length_down 0 n)

      is : (i d : ℕ) → i < n → get_or (down 0 n) (n - 1 - i) d ≡ i
      is i d l = omega (arith, down_at 0 n (n - 1 - i) d (omega arith))

      by : (o : Option ℕ) → MatchOption o (AllWithin (λ i. p i ≡ false) (down 0 n) 0 (length (down 0 n))) (λ x. (p x ≡ true) × (i : ℕ) × (i < length (down 0 n)) × HoldsAt (λ y. y ≡ x) (down 0 n) i × AllWithin (λ i. p i ≡ false) (down 0 n) 0 i)
          → o ≡ cond (eqb (tally n p) 0) None (Some (highest n p))
      by None h = none_last n (λ k l. subst (λ (i : ℕ). p i ≡ false) (is k 0 l) (h (n - 1 - k) 0 (omega arith) (there k l)))
      by (Some x) h =
          let place : x + h.1 + 1 ≡ n = omega (arith, down_at 0 n h.1 0 (omega (arith, length_down 0 n, h.2)), h.3 0) in
          some_last n x (omega arith) h.0 (λ k a l. subst (λ (i : ℕ). p i ≡ false) (is k 0 l) (h.4 (n - 1 - k) 0 (omega arith) (omega arith)))

-- ---- `(a..n).any(..)`: t is the test that is meant, which holds of no number below a

module _ (t p : ℕ → Bool) (a : ℕ) (low : (j : ℕ) → j < a → t j ≡ false) (high : (j : ℕ) → a ≤ j → t j ≡ p j) where
  pub any_is_any_behind : {F : Type 0} {g : Mut F (ℕ × Unit {0}) Bool} (n : ℕ) (u : Range ℕ) (f : F) (r : Bool)
      → (xs : List ℕ) × (o : Option ℕ) × (j : F) × YieldsThen nat_range_steps (record { start = a; end = n }) xs o u × FoldsTo (λ q x t. Called g q (x, tt) false t) f xs j × MatchOption o (r ≡ false) (λ x. (r ≡ true) × ((h : F) × Called g j (x, tt) true h))
      → ((x : ℕ) (b : Bool) (q : F) → Called g f (x, tt) b q → (q ≡ f) × (b ≡ p x)) → r ≡ any_under n t
  any_is_any_behind n u f r ran does =
      by r (cases_from_any u f r (λ i. p i ≡ true) (λ i. p i ≡ false) ran (YieldsList-from_range a n (n - a) refl refl) (λ x q k. sym ((does x true q k).1)) (λ x q k. ((does x false q k).0, sym ((does x false q k).1))))
    where
      all : List ℕ
      all = range_with_len a (n - a)

      long : length all ≡ n - a
      long = length-range_with_len a (n - a)

      by : (b : Bool) → MatchBool b ((k : ℕ) × (k < length all) × HoldsAt (λ i. p i ≡ true) all k) (AllWithin (λ i. p i ≡ false) all 0 (length all)) → b ≡ any_under n t
      by true h =
          let l : h.0 < n - a = omega (arith, long, h.1) in
          sym (some_under t n (a + h.0) (omega arith) (high (a + h.0) (omega arith) ∙ subst (λ (i : ℕ). p i ≡ true) (get_or-range_with_len a (n - a) h.0 0 l) (h.2 0)))
      by false h =
          sym (under_none t n (λ j l.
          decided (dec_lt j a) (λ below. low j below)
          (λ ne.
          let e : get_or all (j - a) 0 ≡ j = get_or-range_with_len a (n - a) (j - a) 0 (omega arith) ∙ omega arith in
          high j (omega arith) ∙ subst (λ (i : ℕ). p i ≡ false) e (h (j - a) 0 (omega arith) (omega (arith, long))))))
