-- Laws of the chains: what their last numbers are, chains of none, of one more, and what leaves them alone. Assumes nothing.
use Prim.Native.Nat.{ℕ, zero, suc, ◌+◌, ◌*◌, ◌-◌, ◌<◌, ◌≤◌}
use native.Mathlib.Omega.{arith}
use native.Mathlib.Decide.{dec_lt, ℕ_discrete}
use mathlib.Core.Path.{◌≡◌, refl, sym, subst, ◌∙◌}
use mathlib.Core.Logic.{◌⊎◌, inl, inr}
use mathlib.Core.List.{List}
use lib.ListN.{length, drop}
use borrow.Author.Tests.{eq-eqb, ne_eqb}
use Rattle.verdict.specs.Memory.{cleared_to}
use Rattle.verdict.proofs.Bools.{decided}
use Rattle.verdict.proofs.Memory.{get_d_cleared}
use Rattle.wire.specs.Bytes.{u16_at, put_u16}
use Rattle.wire.proofs.Short.{length_put_u16, u16_here, u16_other, drop_put_u16}
use Rattle.chains.specs.Chains.{last_under, last_place, before_place, Chained, with_last}

-- ---- the memory

u16_cleared : (n : ℕ) (w : List ℕ) (at : ℕ) → at + 2 ≤ n → u16_at (cleared_to n w) at ≡ 0
unfolding u16_at
u16_cleared n w at l = rw (get_d_cleared n w at (omega arith), get_d_cleared n w (at + 1) (omega arith))

-- what lies past the chains is kept
pub drop_last : (m n : ℕ) (w : List ℕ) (v h : ℕ) → v < n → before_place n h + 2 ≤ m → drop m (with_last n w v h) ≡ drop m w
unfolding with_last
drop_last m n w v h l b =
    drop_put_u16 m _ (last_place v) (h + 1) (omega arith) ∙ drop_put_u16 m w (before_place n h) (u16_at w (last_place v)) (omega arith)

-- two chains have two places
elsewhere : (v u : ℕ) → (v ≡ u → ⊥) → (last_place v + 2 ≤ last_place u) ⊎ (last_place u + 2 ≤ last_place v)
elsewhere v u ne = decided (dec_lt v u) (λ l. inl (omega arith)) (λ l. inr (omega arith))

-- ---- the last number of a chain

module _ (key : ℕ → ℕ) where
  last_none : (v : ℕ) → last_under key v 0 ≡ 0
  unfolding last_under
  last_none v = refl

  last_here : (v s : ℕ) → key s ≡ v → last_under key v (suc s) ≡ suc s
  unfolding last_under
  last_here v s e = rw (eq-eqb (key s) v e)

  last_other : (v s : ℕ) → (key s ≡ v → ⊥) → last_under key v (suc s) ≡ last_under key v s
  unfolding last_under
  last_other v s ne = rw (ne_eqb (key s) v ne)

  -- it is under s and in the chain, and none above it is
  pub record Last (v s g : ℕ) : Type 0 where
    pub within : g ≤ s
    pub in_chain : 0 < g → key (g - 1) ≡ v
    pub above : (k : ℕ) → g ≤ k → k < s → key k ≡ v → ⊥

  pub last_is : (v s : ℕ) → Last v s (last_under key v s)
  last_is v zero = rw (last_none v) (record { within = omega arith; in_chain = λ l. absurd (omega arith); above = λ k l m e. absurd (omega arith) })
  last_is v (suc s) = by (last_is v s) (ℕ_discrete (key s) v)
    where
      by : Last v s (last_under key v s) → Dec (key s ≡ v) → Last v (suc s) (last_under key v (suc s))
      by i (yes e) =
          let q : suc s - 1 ≡ s = omega arith in
          rw (last_here v s e) (record { within = omega arith; in_chain = λ l. rw q e; above = λ k l m f. absurd (omega arith) })
      by i (no ne) =
          rw (last_other v s ne) (record {
            within = omega (arith, i.within);
            in_chain = i.in_chain;
            above = λ k l m f. decided (dec_lt k s) (λ b. i.above k l b f) (λ b. let q : k ≡ s = omega arith in ne (subst (λ (x : ℕ). key x ≡ v) q f));
          })

  -- ---- chains of no number, and of one more

  pub chained_none : (n : ℕ) (w : List ℕ) → Chained n key (cleared_to (2 * n) w) 0
  chained_none n w = record {
    last = λ v l. u16_cleared (2 * n) w (last_place v) (omega arith) ∙ sym (last_none v);
    before = λ h l. absurd (omega arith);
  }

  module _ (n : ℕ) (w : List ℕ) (h : ℕ) (small : key h < n) (few : h < 65535) (long : before_place n h + 2 ≤ length w) (c : Chained n key w h) where
    -- the memory between the two stores, and after them
    abbrev w₁ : List ℕ
    w₁ = put_u16 w (before_place n h) (u16_at w (last_place (key h)))

    abbrev w₂ : List ℕ
    w₂ = put_u16 w₁ (last_place (key h)) (h + 1)

    old : u16_at w (last_place (key h)) ≡ last_under key (key h) h
    old = c.last (key h) small

    last_now : (v : ℕ) → v < n → Dec (v ≡ key h) → u16_at w₂ (last_place v) ≡ last_under key v (suc h)
    last_now v l (yes e) =
        let one : h + 1 ≡ suc h = omega arith in
        subst (λ (x : ℕ). u16_at w₂ (last_place x) ≡ last_under key x (suc h)) (sym e)
        (u16_here w₁ (last_place (key h)) (h + 1) (omega (arith, length_put_u16 w (before_place n h) (u16_at w (last_place (key h))))) (omega arith)
        ∙ one ∙ sym (last_here (key h) h refl))
    last_now v l (no ne) =
        u16_other w₁ (last_place (key h)) (h + 1) (last_place v) (elsewhere v (key h) ne)
        ∙ u16_other w (before_place n h) (u16_at w (last_place (key h))) (last_place v) (inl (omega arith)) ∙ c.last v l
        ∙ sym (last_other v h (λ e. ne (sym e)))

    before_now : (k : ℕ) → k < suc h → Dec (k ≡ h) → u16_at w₂ (before_place n k) ≡ last_under key (key k) k
    before_now k l (yes e) =
        subst (λ (x : ℕ). u16_at w₂ (before_place n x) ≡ last_under key (key x) x) (sym e)
        (u16_other w₁ (last_place (key h)) (h + 1) (before_place n h) (inr (omega arith))
        ∙ u16_here w (before_place n h) (u16_at w (last_place (key h))) (omega arith) (omega (arith, old, (last_is (key h) h).within)) ∙ old)
    before_now k l (no ne) =
        u16_other w₁ (last_place (key h)) (h + 1) (before_place n k) (inr (omega arith))
        ∙ u16_other w (before_place n h) (u16_at w (last_place (key h))) (before_place n k) (inl (omega arith)) ∙ c.before k (omega arith)

    pub chained_more : Chained n key (with_last n w (key h) h) (h + 1)
    unfolding with_last
    chained_more =
        let one : suc h ≡ h + 1 = omega arith in
        subst (λ (s : ℕ). Chained n key w₂ s) one (record {
          last = λ v l. last_now v l (ℕ_discrete v (key h));
          before = λ k l. before_now k l (ℕ_discrete k h);
        })

  -- as code puts it
  pub chained_as : (n : ℕ) (w y : List ℕ) (h v : ℕ) → v < n → h < 65535 → before_place n h + 2 ≤ length w → Chained n key w h → v ≡ key h → y ≡ with_last n w v h
      → Chained n key y (h + 1)
  chained_as n w y h v small few long c e q =
      let z : with_last n w (key h) h ≡ y = cc in
      let s : key h < n = omega arith in
      subst (λ (t : List ℕ). Chained n key t (h + 1)) z (chained_more n w h s few long c)

  -- a number put behind the chains leaves them alone
  pub chained_aside : (n : ℕ) (w : List ℕ) (s at x : ℕ) → before_place n s ≤ at → Chained n key w s → Chained n key (put_u16 w at x) s
  chained_aside n w s at x l c = record {
    last = λ v m. u16_other w at x (last_place v) (inl (omega arith)) ∙ c.last v m;
    before = λ h m. u16_other w at x (before_place n h) (inl (omega arith)) ∙ c.before h m;
  }
