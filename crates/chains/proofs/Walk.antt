-- The walk along a chain, from its last number down: what it knows, where it starts, how it goes on, and its two ends. Assumes nothing.
use Prim.Native.Nat.{ℕ, ◌+◌, ◌-◌, ◌<◌, ◌≤◌}
use native.Mathlib.Omega.{arith}
use native.Mathlib.Decide.{dec_lt}
use mathlib.Core.Path.{◌≡◌, sym, ap, subst, ◌∙◌}
use mathlib.Core.Bool.{Bool, true, false}
use mathlib.Core.List.{List}
use Rattle.std.specs.Prelude.{Option, Some, None}
use Rattle.verdict.specs.Lowest.{any_under}
use Rattle.verdict.proofs.Bools.{decided, test}
use Rattle.verdict.proofs.Lowest.{some_under, under_none}
use Rattle.wire.specs.Bytes.{u16_at}
use Rattle.chains.specs.Chains.{one_more, last_under, last_place, before_place, Chained, Found}
use Rattle.chains.proofs.Chains.{last_is}

-- a number that is there, from how the memory has it
pub at_some : (o : Option ℕ) (h : ℕ) → o ≡ Some h → (0 < one_more o) × (one_more o - 1 ≡ h)
at_some o h z =
    let p : one_more o ≡ h + 1 = ap one_more z in
    (omega (arith, p), omega (arith, p))

-- the walk along chain v stands at number g - 1: of no number from g on, of those under s, the test holds
pub record Walk (key : ℕ → ℕ) (t : ℕ → Bool) (v s g : ℕ) : Type 0 where
  pub within : g ≤ s
  pub in_chain : 0 < g → key (g - 1) ≡ v
  pub none : (k : ℕ) → g ≤ k → k < s → t k ≡ false

-- a test that holds only of numbers of the chain
module _ (n : ℕ) (key : ℕ → ℕ) (t : ℕ → Bool) (v s : ℕ) (w : List ℕ) (c : Chained n key w s) (only : (k : ℕ) → k < s → t k ≡ true → key k ≡ v) where
  other_chain : (k : ℕ) → k < s → (key k ≡ v → ⊥) → t k ≡ false
  other_chain k l ne = test (t k) (λ y. absurd (ne (only k l y))) (λ y. y)

  pub walk_start : (g : ℕ) → v < n → g ≡ u16_at w (last_place v) → Walk key t v s g
  walk_start g l q =
      let i = last_is key v s in
      rw (q ∙ c.last v l) (record { within = i.within; in_chain = i.in_chain; none = λ k m b. other_chain k b (i.above k m b) })

  pub walk_step : (o : Option ℕ) (h r : ℕ) → o ≡ Some h → Walk key t v s (one_more o) → r ≡ u16_at w (before_place n h) → t h ≡ false → Walk key t v s r × (r < one_more o)
  walk_step o h r z i q ne =
      let p = at_some o h z in
      let in_v : key h ≡ v = subst (λ (j : ℕ). key j ≡ v) p.1 (i.in_chain p.0) in
      let before = last_is key (key h) h in
      let e : r ≡ last_under key (key h) h = q ∙ c.before h (omega (arith, i.within, p)) in (
        rw e (record {
          within = omega (arith, before.within, i.within, p);
          in_chain = λ l. before.in_chain l ∙ in_v;
          none = λ k l b. decided (dec_lt k (one_more o))
              (λ x. decided (dec_lt k h) (λ y. other_chain k b (λ f. before.above k l y (f ∙ sym in_v)))
              (λ y. let same : k ≡ h = omega (arith, p) in subst (λ (j : ℕ). t j ≡ false) (sym same) ne))
              (λ x. i.none k (omega arith) b);
        }),
        omega (arith, e, before.within, p),
      )

-- it ends at a number of which the test holds, or at none
module _ {key : ℕ → ℕ} {t : ℕ → Bool} {v s : ℕ} (o : Option ℕ) (i : Walk key t v s (one_more o)) where
  pub walk_found : (h : ℕ) → o ≡ Some h → t h ≡ true → Found t s (one_more (Some h))
  walk_found h z e =
      let p = at_some o h z in
      let one : h + 1 - 1 ≡ h = omega arith in
      record { within = omega (arith, i.within, p); holds = λ l. subst (λ (j : ℕ). t j ≡ true) (sym one) e; none = λ l. absurd (omega arith) }

  pub walk_none : o ≡ None → Found t s (one_more None)
  walk_none z =
      let p : one_more o ≡ 0 = ap one_more z in
      record { within = omega arith; holds = λ l. absurd (omega arith); none = λ l k b. i.none k (omega (arith, p)) b }

-- what a search has found, as a test
module _ (t : ℕ → Bool) (s : ℕ) (o : Option ℕ) (f : Found t s (one_more o)) where
  pub found_some : (h : ℕ) → o ≡ Some h → any_under s t ≡ true
  found_some h z =
      let p = at_some o h z in
      some_under t s (one_more o - 1) (omega (arith, f.within, p)) (f.holds p.0)

  pub found_none : o ≡ None → any_under s t ≡ false
  found_none z =
      let p : one_more o ≡ 0 = ap one_more z in
      under_none t s (f.none (omega (arith, p)))
