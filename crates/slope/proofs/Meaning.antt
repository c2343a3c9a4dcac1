-- What the height means: the same weighted mean of the corners' heights, rounded down, whichever the weights; it lies between any bounds of the
-- three, and over a corner it is the corner's own. Assumes nothing.
use mathlib.Core.Path.{◌≡◌, refl, sym, ap, ap₂, subst, ◌∙◌}
use mathlib.Core.Logic.{◌≢◌}
use mathlib.Core.Bool.{true}
use mathlib.Core.List.{[], ◌∷◌}
use Prim.Native.Nat.{ℕ, zero, suc, ◌+◌, ◌<◌}
use native.Mathlib.Omega.{arith}
use lib.IntN.{ℤ, pos, negsuc, neg_ℤ, nat_abs, ◌+ℤ◌, ◌-ℤ◌, ◌*ℤ◌}
use lib.Signed.{le_z, lt_z, ◌≤ℤ◌, ◌<ℤ◌, ≤ℤ_refl}
use lib.Dec.{leb, leb→le}
use borrow.Author.Tests.{le-leb}
use Rattle.verdict.proofs.Bools.{test, and_true, true_and, true_T}
use Rattle.wire.specs.Signed.{Within}
use Rattle.wire.proofs.Signed.{within_test}
use Rattle.whole.proofs.Laws.{*ℤ_negℤ, negℤ_*ℤ}
use Rattle.whole.proofs.Ring.{var, num, ◌:+◌, ◌:-◌, ◌:*◌, norm, same, solve}
use Rattle.whole.proofs.Order.{<_by, ≤_yes, ≤_is, <_yes, <_no, ≤_trans, ≤_<_trans, <→≤, +ℤ_≤, pos_≥0, pos_>0, abs_of, abs_of_neg, *ℤ_≤, *ℤ_<, *ℤ_≤_cancel}
use Rattle.triangle.proofs.Crosses.{cross_turn, share}
use Rattle.triangle.proofs.Weights.{weights, has_area}
use Rattle.triangle.proofs.Corners.{corner_a, corner_b, corner_c}
use Rattle.slope.specs.declared.Corner.{Corner}
use Rattle.slope.specs.Height.{beside, area, lifted, turned, numerator, denominator, height_at}
use Rattle.slope.specs.Plain.{RoundedDown, holds, Mean, weight, heights, Stands, Near}
use Rattle.slope.proofs.Rounded.{rounded_is, rounded_only, under_next, rescaled}

-- ---- each cross is its weight's part of the area

-- a mean of three, the first of them last
turned_mean : (u v w : ℕ) (p a b c : ℤ) → pos (u + v + w) *ℤ p ≡ (pos u *ℤ a +ℤ pos v *ℤ b) +ℤ pos w *ℤ c → pos (v + w + u) *ℤ p ≡ (pos v *ℤ b +ℤ pos w *ℤ c) +ℤ pos u *ℤ a
unfolding norm same
turned_mean u v w p a b c e =
    ap (λ (n : ℕ). pos n *ℤ p) (omega arith) ∙ e ∙ solve (var 0 :+ var 1 :+ var 2) (var 1 :+ var 2 :+ var 0) tt ((pos u *ℤ a) ∷ (pos v *ℤ b) ∷ (pos w *ℤ c) ∷ [])

module _ (a b c : Corner) (x y : ℤ) (u v w : ℕ) where
  part_c : pos (u + v + w) *ℤ x ≡ (pos u *ℤ a.x +ℤ pos v *ℤ b.x) +ℤ pos w *ℤ c.x
      → pos (u + v + w) *ℤ y ≡ (pos u *ℤ a.y +ℤ pos v *ℤ b.y) +ℤ pos w *ℤ c.y
      → pos (u + v + w) *ℤ beside a b x y ≡ pos w *ℤ area a b c
  unfolding beside area
  part_c ex ey = share a.x a.y b.x b.y c.x c.y x y (pos u) (pos v) (pos w) ex ey

area_turn : (a b c : Corner) → area b c a ≡ area a b c
unfolding area beside
area_turn a b c = cross_turn a.x a.y b.x b.y c.x c.y

module _ (a b c : Corner) (x y : ℤ) (u v w : ℕ) where
  part_a : pos (u + v + w) *ℤ x ≡ (pos u *ℤ a.x +ℤ pos v *ℤ b.x) +ℤ pos w *ℤ c.x
      → pos (u + v + w) *ℤ y ≡ (pos u *ℤ a.y +ℤ pos v *ℤ b.y) +ℤ pos w *ℤ c.y
      → pos (u + v + w) *ℤ beside b c x y ≡ pos u *ℤ area a b c
  part_a ex ey =
      ap (λ (n : ℕ). pos n *ℤ beside b c x y) (omega arith)
      ∙ part_c b c a x y v w u (turned_mean u v w x a.x b.x c.x ex) (turned_mean u v w y a.y b.y c.y ey)
      ∙ ap (λ (z : ℤ). pos u *ℤ z) (area_turn a b c)

module _ (a b c : Corner) (x y : ℤ) (u v w : ℕ) where
  part_b : pos (u + v + w) *ℤ x ≡ (pos u *ℤ a.x +ℤ pos v *ℤ b.x) +ℤ pos w *ℤ c.x
      → pos (u + v + w) *ℤ y ≡ (pos u *ℤ a.y +ℤ pos v *ℤ b.y) +ℤ pos w *ℤ c.y
      → pos (u + v + w) *ℤ beside c a x y ≡ pos v *ℤ area a b c
  part_b ex ey =
      ap (λ (n : ℕ). pos n *ℤ beside c a x y) (omega arith)
      ∙ part_a b c a x y v w u (turned_mean u v w x a.x b.x c.x ex) (turned_mean u v w y a.y b.y c.y ey)
      ∙ ap (λ (z : ℤ). pos v *ℤ z) (area_turn a b c)

-- three products under one factor
spread : (w d e f az bz cz r s t k : ℤ) → w *ℤ e ≡ r *ℤ k → w *ℤ f ≡ s *ℤ k → w *ℤ d ≡ t *ℤ k
    → w *ℤ ((e *ℤ az +ℤ f *ℤ bz) +ℤ d *ℤ cz) ≡ k *ℤ ((r *ℤ az +ℤ s *ℤ bz) +ℤ t *ℤ cz)
unfolding norm same
spread w d e f az bz cz r s t k he hf hd =
    solve (var 0 :* (var 1 :* var 4 :+ var 2 :* var 5 :+ var 3 :* var 6)) (var 0 :* var 1 :* var 4 :+ var 0 :* var 2 :* var 5 :+ var 0 :* var 3 :* var 6) tt
    (w ∷ e ∷ f ∷ d ∷ az ∷ bz ∷ cz ∷ [])
    ∙ ap₂ (λ (x y : ℤ). x +ℤ y *ℤ cz) (ap₂ (λ (x y : ℤ). x *ℤ az +ℤ y *ℤ bz) he hf) hd
    ∙ solve (var 0 :* var 6 :* var 3 :+ var 1 :* var 6 :* var 4 :+ var 2 :* var 6 :* var 5) (var 6 :* (var 0 :* var 3 :+ var 1 :* var 4 :+ var 2 :* var 5)) tt
    (r ∷ s ∷ t ∷ az ∷ bz ∷ cz ∷ k ∷ [])

-- the area made positive, and the other side with it
turn_both : (k n w s : ℤ) → w *ℤ n ≡ k *ℤ s → w *ℤ turned k n ≡ pos (nat_abs k) *ℤ s
unfolding turned
turn_both k n w s e =
    test (lt_z k (pos 0))
    (λ y. rw (y, abs_of_neg (<→≤ (<_yes k (pos 0) y))) (*ℤ_negℤ w n ∙ ap neg_ℤ e ∙ sym (negℤ_*ℤ k s)))
    (λ m. rw (m, abs_of (<_no k (pos 0) m)) e)

module _ (a b c : Corner) (x y : ℤ) where
  -- the exact height is the mean of the heights, as fractions
  pub same_height : (m : Mean a b c x y) → weight a b c x y m *ℤ numerator a b c x y ≡ pos (denominator a b c) *ℤ heights a b c x y m
  unfolding numerator denominator lifted
  same_height m =
      turn_both (area a b c) (lifted a b c x y) (weight a b c x y m) (heights a b c x y m)
      (spread (weight a b c x y m) (beside a b x y) (beside b c x y) (beside c a x y) a.z b.z c.z (pos m.u) (pos m.v) (pos m.w) (area a b c)
      (part_a a b c x y m.u m.v m.w m.x m.y) (part_b a b c x y m.u m.v m.w m.x m.y) (part_c a b c x y m.u m.v m.w m.x m.y))

-- ---- bounds of the three are bounds of the mean

all_k : (u v w : ℕ) (k : ℤ) → (pos u *ℤ k +ℤ pos v *ℤ k) +ℤ pos w *ℤ k ≡ pos (u + v + w) *ℤ k
unfolding norm same
all_k u v w k = solve (var 0 :* var 3 :+ var 1 :* var 3 :+ var 2 :* var 3) ((var 0 :+ var 1 :+ var 2) :* var 3) tt (pos u ∷ pos v ∷ pos w ∷ k ∷ [])

-- weights keep the order
weigh : (u v w : ℕ) {a b c d e f : ℤ} → a ≤ℤ d → b ≤ℤ e → c ≤ℤ f → ((pos u *ℤ a +ℤ pos v *ℤ b) +ℤ pos w *ℤ c) ≤ℤ ((pos u *ℤ d +ℤ pos v *ℤ e) +ℤ pos w *ℤ f)
weigh u v w ha hb hc = +ℤ_≤ (+ℤ_≤ (*ℤ_≤ (pos u) (pos_≥0 u) ha) (*ℤ_≤ (pos v) (pos_≥0 v) hb)) (*ℤ_≤ (pos w) (pos_≥0 w) hc)

-- a bound either way, as two
module _ (k : ℕ) {z : ℤ} where
  two_bounds : Within k z → (neg_ℤ (pos k) ≤ℤ z) × (z ≤ℤ pos k)
  two_bounds h =
      let both = and_true (le_z (neg_ℤ (pos k)) z) (le_z z (pos k)) (within_test k z ∙ le-leb (nat_abs z) k h.le) in
      (≤_yes (neg_ℤ (pos k)) z both.0, ≤_yes z (pos k) both.1)

  one_bound : neg_ℤ (pos k) ≤ℤ z → z ≤ℤ pos k → Within k z
  one_bound l h = record { le = leb→le (nat_abs z) k (true_T (leb (nat_abs z) k) (sym (within_test k z) ∙ true_and _ _ (≤_is l) (≤_is h))) }

some_size : (z : ℤ) → z ≢ pos 0 → 0 < nat_abs z
some_size (pos zero) ne = absurd (ne refl)
some_size (pos (suc n)) ne = omega arith
some_size (negsuc n) ne = omega arith

module _ (a b c : Corner) (x y : ℤ) (h : holds a b c x y ≡ true) where
  pub some_area : area a b c ≢ pos 0
  unfolding area beside
  some_area = has_area a.x a.y b.x b.y c.x c.y x y h

  pub some_denominator : 0 < denominator a b c
  unfolding denominator
  some_denominator = some_size (area a b c) some_area

  -- the fraction rounded down
  pub rounded : RoundedDown (numerator a b c x y) (pos (denominator a b c)) (height_at a b c x y)
  unfolding height_at
  rounded = rounded_is (denominator a b c) some_denominator (numerator a b c x y)

  -- the plain statement, and that it says which number
  pub stands : Stands a b c x y (height_at a b c x y)
  stands = record {
    mean = λ m.
        rescaled (numerator a b c x y) (pos (denominator a b c)) (heights a b c x y m) (weight a b c x y m) (height_at a b c x y) (pos_>0 (denominator a b c) some_denominator)
        (pos_>0 (m.u + m.v + m.w) m.some) (same_height a b c x y m) rounded;
  }

  held : Mean a b c x y
  held = weights a.x a.y b.x b.y c.x c.y x y h

  some_weight : pos 0 <ℤ weight a b c x y held
  some_weight = pos_>0 (held.u + held.v + held.w) held.some

  pub stands_only : (k : ℤ) → Stands a b c x y k → k ≡ height_at a b c x y
  stands_only k s = rounded_only (heights a b c x y held) (weight a b c x y held) k (height_at a b c x y) some_weight (s.mean held) (stands.mean held)

  -- it lies between any bounds of the corners' heights
  pub height_low : (lo : ℤ) → lo ≤ℤ a.z → lo ≤ℤ b.z → lo ≤ℤ c.z → lo ≤ℤ height_at a b c x y
  height_low lo ha hb hc =
      under_next (weight a b c x y held) lo (height_at a b c x y) some_weight
      (≤_<_trans (subst (λ (z : ℤ). z ≤ℤ heights a b c x y held) (all_k held.u held.v held.w lo) (weigh held.u held.v held.w ha hb hc)) (stands.mean held).high)

  pub height_high : (hi : ℤ) → a.z ≤ℤ hi → b.z ≤ℤ hi → c.z ≤ℤ hi → height_at a b c x y ≤ℤ hi
  height_high hi ha hb hc =
      *ℤ_≤_cancel (weight a b c x y held) (height_at a b c x y) hi some_weight
      (≤_trans (stands.mean held).low (subst (λ (z : ℤ). heights a b c x y held ≤ℤ z) (all_k held.u held.v held.w hi) (weigh held.u held.v held.w ha hb hc)))

  -- so it is within the grid
  pub height_small : Near a → Near b → Near c → Within 65536 (height_at a b c x y)
  height_small na nb nc =
      let i = two_bounds 65536 na.z in
      let j = two_bounds 65536 nb.z in
      let k = two_bounds 65536 nc.z in
      one_bound 65536 (height_low (neg_ℤ (pos 65536)) i.0 j.0 k.0) (height_high (pos 65536) i.1 j.1 k.1)

  -- what need not be rounded is not
  pub height_exact : (m : Mean a b c x y) (k : ℤ) → heights a b c x y m ≡ weight a b c x y m *ℤ k → height_at a b c x y ≡ k
  unfolding norm same
  height_exact m k e =
      let some = pos_>0 (m.u + m.v + m.w) m.some in
      rounded_only (heights a b c x y m) (weight a b c x y m) (height_at a b c x y) k some (stands.mean m) record {
        low = subst (λ (z : ℤ). (weight a b c x y m *ℤ k) ≤ℤ z) (sym e) (≤ℤ_refl (weight a b c x y m *ℤ k));
        high = subst (λ (z : ℤ). z <ℤ (weight a b c x y m *ℤ (k +ℤ pos 1))) (sym e) (*ℤ_< (weight a b c x y m) some (<_by k (k +ℤ pos 1) 0 (next k)));
      }
    where
      next : (z : ℤ) → (z +ℤ pos 1) -ℤ z ≡ pos 1
      next z = solve (var 0 :+ num (pos 1) :- var 0) (num (pos 1)) tt (z ∷ [])

-- over a corner it is the corner's own height
only_first : (a b c : ℤ) → (pos 1 *ℤ a +ℤ pos 0 *ℤ b) +ℤ pos 0 *ℤ c ≡ pos 1 *ℤ a
unfolding norm same
only_first a b c = solve (num (pos 1) :* var 0 :+ num (pos 0) :* var 1 :+ num (pos 0) :* var 2) (num (pos 1) :* var 0) tt (a ∷ b ∷ c ∷ [])

only_second : (a b c : ℤ) → (pos 0 *ℤ a +ℤ pos 1 *ℤ b) +ℤ pos 0 *ℤ c ≡ pos 1 *ℤ b
unfolding norm same
only_second a b c = solve (num (pos 0) :* var 0 :+ num (pos 1) :* var 1 :+ num (pos 0) :* var 2) (num (pos 1) :* var 1) tt (a ∷ b ∷ c ∷ [])

only_third : (a b c : ℤ) → (pos 0 *ℤ a +ℤ pos 0 *ℤ b) +ℤ pos 1 *ℤ c ≡ pos 1 *ℤ c
unfolding norm same
only_third a b c = solve (num (pos 0) :* var 0 :+ num (pos 0) :* var 1 :+ num (pos 1) :* var 2) (num (pos 1) :* var 2) tt (a ∷ b ∷ c ∷ [])

module _ (a b c : Corner) (ne : area a b c ≢ pos 0) where
  over_a : holds a b c a.x a.y ≡ true
  unfolding area beside
  over_a = corner_a a.x a.y b.x b.y c.x c.y ne

  over_b : holds a b c b.x b.y ≡ true
  unfolding area beside
  over_b = corner_b a.x a.y b.x b.y c.x c.y ne

  over_c : holds a b c c.x c.y ≡ true
  unfolding area beside
  over_c = corner_c a.x a.y b.x b.y c.x c.y ne

  pub height_a : height_at a b c a.x a.y ≡ a.z
  height_a =
      height_exact a b c a.x a.y over_a
      record { u = 1; v = 0; w = 0; some = omega arith; x = sym (only_first a.x b.x c.x); y = sym (only_first a.y b.y c.y) } a.z (only_first a.z b.z c.z)

  pub height_b : height_at a b c b.x b.y ≡ b.z
  height_b =
      height_exact a b c b.x b.y over_b
      record { u = 0; v = 1; w = 0; some = omega arith; x = sym (only_second a.x b.x c.x); y = sym (only_second a.y b.y c.y) } b.z (only_second a.z b.z c.z)

  pub height_c : height_at a b c c.x c.y ≡ c.z
  height_c =
      height_exact a b c c.x c.y over_c
      record { u = 0; v = 0; w = 1; some = omega arith; x = sym (only_third a.x b.x c.x); y = sym (only_third a.y b.y c.y) } c.z (only_third a.z b.z c.z)
