-- What follows from the weights: the order of the corners does not matter, corners and sides are held, and a point that is held lies
-- within every bound of the three corners, also after a scaling. Assumes nothing.
use mathlib.Core.Path.{◌≡◌, sym, ap, ◌∙◌}
use mathlib.Core.Logic.{◌≢◌}
use mathlib.Core.Bool.{true}
use mathlib.Core.List.{[], ◌∷◌}
use Prim.Native.Nat.{ℕ, ◌+◌, ◌<◌}
use native.Mathlib.Omega.{arith}
use lib.IntN.{ℤ, pos, neg_ℤ, neg_ℤ-neg_ℤ, ◌+ℤ◌, ◌*ℤ◌}
use lib.Signed.{le_z}
use Rattle.verdict.proofs.Bools.{same_test}
use Rattle.triangle.specs.Triangle.{cross, in_triangle}
use Rattle.whole.proofs.Ring.{var, num, ◌:+◌, ◌:*◌, norm, same, solve}
use Rattle.triangle.proofs.Crosses.{cross_turn, cross_swap}
use Rattle.whole.proofs.Mean.{Mean, mean_low, mean_high, times_low, times_high}
use Rattle.triangle.proofs.Weights.{weights, weighted_in, has_area, turn_weights, swap_weights}

-- ---- the order of the corners

module _ (ax ay bx by cx cy : ℤ) where
  -- an area that is not 0 is not 0 for the corners in another order
  pub turn_area : cross ax ay bx by cx cy ≢ pos 0 → cross bx by cx cy ax ay ≢ pos 0
  turn_area ne e = ne (sym (cross_turn ax ay bx by cx cy) ∙ e)

  pub swap_area : cross ax ay bx by cx cy ≢ pos 0 → cross ax ay cx cy bx by ≢ pos 0
  swap_area ne e = ne (sym (neg_ℤ-neg_ℤ (cross ax ay bx by cx cy)) ∙ ap neg_ℤ (sym (cross_swap ax ay bx by cx cy) ∙ e))

turn_in : (ax ay bx by cx cy px py : ℤ) → in_triangle ax ay bx by cx cy px py ≡ true → in_triangle bx by cx cy ax ay px py ≡ true
turn_in ax ay bx by cx cy px py h =
    weighted_in bx by cx cy ax ay px py (turn_area ax ay bx by cx cy (has_area ax ay bx by cx cy px py h)) (turn_weights ax ay bx by cx cy px py (weights ax ay bx by cx cy px py h))

swap_in : (ax ay bx by cx cy px py : ℤ) → in_triangle ax ay bx by cx cy px py ≡ true → in_triangle ax ay cx cy bx by px py ≡ true
swap_in ax ay bx by cx cy px py h =
    weighted_in ax ay cx cy bx by px py (swap_area ax ay bx by cx cy (has_area ax ay bx by cx cy px py h)) (swap_weights ax ay bx by cx cy px py (weights ax ay bx by cx cy px py h))

module _ (ax ay bx by cx cy px py : ℤ) where
  -- the corners in turn
  pub turned : in_triangle ax ay bx by cx cy px py ≡ in_triangle bx by cx cy ax ay px py
  turned =
      same_test (in_triangle ax ay bx by cx cy px py) (in_triangle bx by cx cy ax ay px py) (turn_in ax ay bx by cx cy px py)
      (λ h. turn_in cx cy ax ay bx by px py (turn_in bx by cx cy ax ay px py h))

  -- the corners the other way round
  pub swapped : in_triangle ax ay bx by cx cy px py ≡ in_triangle ax ay cx cy bx by px py
  swapped = same_test (in_triangle ax ay bx by cx cy px py) (in_triangle ax ay cx cy bx by px py) (swap_in ax ay bx by cx cy px py) (swap_in ax ay cx cy bx by px py)

  -- ---- sides: a mean of two corners is held

  pub side_ab : cross ax ay bx by cx cy ≢ pos 0 → (u v : ℕ) → 0 < u + v → pos (u + v) *ℤ px ≡ pos u *ℤ ax +ℤ pos v *ℤ bx → pos (u + v) *ℤ py ≡ pos u *ℤ ay +ℤ pos v *ℤ by
      → in_triangle ax ay bx by cx cy px py ≡ true
  unfolding norm same
  side_ab ne u v some x y =
      weighted_in ax ay bx by cx cy px py ne record { u = u; v = v; w = 0; some = omega arith; x = wider px ax bx cx x; y = wider py ay by cy y }
    where
      wider : (p a b c : ℤ) → pos (u + v) *ℤ p ≡ pos u *ℤ a +ℤ pos v *ℤ b → pos (u + v + 0) *ℤ p ≡ (pos u *ℤ a +ℤ pos v *ℤ b) +ℤ pos 0 *ℤ c
      wider p a b c e =
          ap (λ (n : ℕ). pos n *ℤ p) (omega arith) ∙ e
          ∙ solve (var 0 :* var 1 :+ var 2 :* var 3) (var 0 :* var 1 :+ var 2 :* var 3 :+ num (pos 0) :* var 4) tt (pos u ∷ a ∷ pos v ∷ b ∷ c ∷ [])

module _ (ax ay bx by cx cy px py : ℤ) (ne : cross ax ay bx by cx cy ≢ pos 0) (u v : ℕ) (some : 0 < u + v) where
  pub side_bc : pos (u + v) *ℤ px ≡ pos u *ℤ bx +ℤ pos v *ℤ cx → pos (u + v) *ℤ py ≡ pos u *ℤ by +ℤ pos v *ℤ cy → in_triangle ax ay bx by cx cy px py ≡ true
  side_bc x y = turned ax ay bx by cx cy px py ∙ side_ab bx by cx cy ax ay px py (turn_area ax ay bx by cx cy ne) u v some x y

  pub side_ca : pos (u + v) *ℤ px ≡ pos u *ℤ cx +ℤ pos v *ℤ ax → pos (u + v) *ℤ py ≡ pos u *ℤ cy +ℤ pos v *ℤ ay → in_triangle ax ay bx by cx cy px py ≡ true
  side_ca x y =
      turned ax ay bx by cx cy px py ∙ turned bx by cx cy ax ay px py
      ∙ side_ab cx cy ax ay bx by px py (turn_area bx by cx cy ax ay (turn_area ax ay bx by cx cy ne)) u v some x y

-- ---- corners

module _ (ax ay bx by cx cy : ℤ) (ne : cross ax ay bx by cx cy ≢ pos 0) where
  pub corner_a : in_triangle ax ay bx by cx cy ax ay ≡ true
  unfolding norm same
  corner_a = side_ab ax ay bx by cx cy ax ay ne 1 0 (omega arith) (only ax bx) (only ay by)
    where
      only : (a b : ℤ) → pos 1 *ℤ a ≡ pos 1 *ℤ a +ℤ pos 0 *ℤ b
      only a b = solve (num (pos 1) :* var 0) (num (pos 1) :* var 0 :+ num (pos 0) :* var 1) tt (a ∷ b ∷ [])

module _ (ax ay bx by cx cy : ℤ) (ne : cross ax ay bx by cx cy ≢ pos 0) where
  pub corner_b : in_triangle ax ay bx by cx cy bx by ≡ true
  corner_b = turned ax ay bx by cx cy bx by ∙ corner_a bx by cx cy ax ay (turn_area ax ay bx by cx cy ne)

  pub corner_c : in_triangle ax ay bx by cx cy cx cy ≡ true
  corner_c =
      turned ax ay bx by cx cy cx cy ∙ turned bx by cx cy ax ay cx cy
      ∙ corner_a cx cy ax ay bx by (turn_area bx by cx cy ax ay (turn_area ax ay bx by cx cy ne))

-- ---- range

module _ (ax ay bx by cx cy px py : ℤ) (h : in_triangle ax ay bx by cx cy px py ≡ true) where
  -- each coordinate of a point that is held is a mean of the corners': the laws of Mean.antt apply
  pub x_mean : Mean ax bx cx px
  x_mean = let m = weights ax ay bx by cx cy px py h in record { u = m.u; v = m.v; w = m.w; some = m.some; is = m.x }

  pub y_mean : Mean ay by cy py
  y_mean = let m = weights ax ay bx by cx cy px py h in record { u = m.u; v = m.v; w = m.w; some = m.some; is = m.y }

module _ (ax ay bx by cx cy px py : ℤ) where
  pub x_low : (lo : ℤ) → le_z lo ax ≡ true → le_z lo bx ≡ true → le_z lo cx ≡ true → in_triangle ax ay bx by cx cy px py ≡ true → le_z lo px ≡ true
  x_low lo a b c h = mean_low (x_mean ax ay bx by cx cy px py h) lo a b c

  pub x_high : (hi : ℤ) → le_z ax hi ≡ true → le_z bx hi ≡ true → le_z cx hi ≡ true → in_triangle ax ay bx by cx cy px py ≡ true → le_z px hi ≡ true
  x_high hi a b c h = mean_high (x_mean ax ay bx by cx cy px py h) hi a b c

  pub y_low : (lo : ℤ) → le_z lo ay ≡ true → le_z lo by ≡ true → le_z lo cy ≡ true → in_triangle ax ay bx by cx cy px py ≡ true → le_z lo py ≡ true
  y_low lo a b c h = mean_low (y_mean ax ay bx by cx cy px py h) lo a b c

  pub y_high : (hi : ℤ) → le_z ay hi ≡ true → le_z by hi ≡ true → le_z cy hi ≡ true → in_triangle ax ay bx by cx cy px py ≡ true → le_z py hi ≡ true
  y_high hi a b c h = mean_high (y_mean ax ay bx by cx cy px py h) hi a b c

  -- k times each coordinate; for a factor on the right, `low_times` and `high_times` of Mean.antt at `x_mean` and `y_mean`
  pub x_times_low : (k : ℕ) (lo : ℤ) → le_z lo (pos k *ℤ ax) ≡ true → le_z lo (pos k *ℤ bx) ≡ true → le_z lo (pos k *ℤ cx) ≡ true → in_triangle ax ay bx by cx cy px py ≡ true → le_z lo (pos k *ℤ px) ≡ true
  x_times_low k lo a b c h = times_low (x_mean ax ay bx by cx cy px py h) (pos k) lo a b c

  pub x_times_high : (k : ℕ) (hi : ℤ) → le_z (pos k *ℤ ax) hi ≡ true → le_z (pos k *ℤ bx) hi ≡ true → le_z (pos k *ℤ cx) hi ≡ true → in_triangle ax ay bx by cx cy px py ≡ true → le_z (pos k *ℤ px) hi ≡ true
  x_times_high k hi a b c h = times_high (x_mean ax ay bx by cx cy px py h) (pos k) hi a b c

  pub y_times_low : (k : ℕ) (lo : ℤ) → le_z lo (pos k *ℤ ay) ≡ true → le_z lo (pos k *ℤ by) ≡ true → le_z lo (pos k *ℤ cy) ≡ true → in_triangle ax ay bx by cx cy px py ≡ true → le_z lo (pos k *ℤ py) ≡ true
  y_times_low k lo a b c h = times_low (y_mean ax ay bx by cx cy px py h) (pos k) lo a b c

  pub y_times_high : (k : ℕ) (hi : ℤ) → le_z (pos k *ℤ ay) hi ≡ true → le_z (pos k *ℤ by) hi ≡ true → le_z (pos k *ℤ cy) hi ≡ true → in_triangle ax ay bx by cx cy px py ≡ true → le_z (pos k *ℤ py) hi ≡ true
  y_times_high k hi a b c h = times_high (y_mean ax ay bx by cx cy px py h) (pos k) hi a b c
