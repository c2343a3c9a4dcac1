-- Identities of the triangle's crosses, each one computed test of the normaliser. Assumes nothing.
use mathlib.Core.Path.{◌≡◌, ap₂, ◌∙◌}
use mathlib.Core.List.{[], ◌∷◌}
use lib.IntN.{ℤ, neg_ℤ, ◌+ℤ◌, ◌-ℤ◌, ◌*ℤ◌}
use Rattle.triangle.specs.Triangle.{cross}
use Rattle.whole.proofs.Ring.{Expr, var, ◌:+◌, ◌:-◌, ◌:*◌, neg, norm, same, solve}

-- the cross of three points as an expression
abbrev cross_of : Expr → Expr → Expr → Expr → Expr → Expr → Expr
cross_of ax ay bx by px py = (bx :- ax) :* (py :- ay) :- (by :- ay) :* (px :- ax)

-- the corners are variables 0 to 5, p is 6 and 7
abbrev area : Expr
area = cross_of (var 0) (var 1) (var 2) (var 3) (var 4) (var 5)

abbrev to_c : Expr
to_c = cross_of (var 0) (var 1) (var 2) (var 3) (var 6) (var 7)

abbrev to_a : Expr
to_a = cross_of (var 2) (var 3) (var 4) (var 5) (var 6) (var 7)

abbrev to_b : Expr
to_b = cross_of (var 4) (var 5) (var 0) (var 1) (var 6) (var 7)

module _ (ax ay bx by cx cy : ℤ) where
  -- a turn of the corners keeps the area, a swap of two reverses it
  pub cross_turn : cross bx by cx cy ax ay ≡ cross ax ay bx by cx cy
  unfolding norm same cross
  cross_turn = solve (cross_of (var 2) (var 3) (var 4) (var 5) (var 0) (var 1)) area tt (ax ∷ ay ∷ bx ∷ by ∷ cx ∷ cy ∷ [])

  pub cross_swap : cross ax ay cx cy bx by ≡ neg_ℤ (cross ax ay bx by cx cy)
  unfolding norm same cross
  cross_swap = solve (cross_of (var 0) (var 1) (var 4) (var 5) (var 2) (var 3)) (neg area) tt (ax ∷ ay ∷ bx ∷ by ∷ cx ∷ cy ∷ [])

module _ (ax ay bx by cx cy px py : ℤ) where
  -- the three crosses of p make up the area
  pub crosses_sum : (cross bx by cx cy px py +ℤ cross cx cy ax ay px py) +ℤ cross ax ay bx by px py ≡ cross ax ay bx by cx cy
  unfolding norm same cross
  crosses_sum = solve (to_a :+ to_b :+ to_c) area tt (ax ∷ ay ∷ bx ∷ by ∷ cx ∷ cy ∷ px ∷ py ∷ [])

  -- the area times p is the corners, each times the cross that lies over against it
  pub area_x : cross ax ay bx by cx cy *ℤ px ≡ (cross bx by cx cy px py *ℤ ax +ℤ cross cx cy ax ay px py *ℤ bx) +ℤ cross ax ay bx by px py *ℤ cx
  unfolding norm same cross
  area_x = solve (area :* var 6) (to_a :* var 0 :+ to_b :* var 2 :+ to_c :* var 4) tt (ax ∷ ay ∷ bx ∷ by ∷ cx ∷ cy ∷ px ∷ py ∷ [])

  pub area_y : cross ax ay bx by cx cy *ℤ py ≡ (cross bx by cx cy px py *ℤ ay +ℤ cross cx cy ax ay px py *ℤ by) +ℤ cross ax ay bx by px py *ℤ cy
  unfolding norm same cross
  area_y = solve (area :* var 7) (to_a :* var 1 :+ to_b :* var 3 :+ to_c :* var 5) tt (ax ∷ ay ∷ bx ∷ by ∷ cx ∷ cy ∷ px ∷ py ∷ [])

  -- where p is a mean with the weights u, v, w, the cross over against c is w parts of the area
  pub share : (u v w : ℤ) → (u +ℤ v +ℤ w) *ℤ px ≡ (u *ℤ ax +ℤ v *ℤ bx) +ℤ w *ℤ cx → (u +ℤ v +ℤ w) *ℤ py ≡ (u *ℤ ay +ℤ v *ℤ by) +ℤ w *ℤ cy
      → (u +ℤ v +ℤ w) *ℤ cross ax ay bx by px py ≡ w *ℤ cross ax ay bx by cx cy
  unfolding norm same cross
  share u v w ex ey =
      solve (var 4 :* cross_of (var 0) (var 1) (var 2) (var 3) (var 5) (var 6))
      ((var 2 :- var 0) :* (var 4 :* var 6 :- var 4 :* var 1) :- (var 3 :- var 1) :* (var 4 :* var 5 :- var 4 :* var 0)) tt
      (ax ∷ ay ∷ bx ∷ by ∷ (u +ℤ v +ℤ w) ∷ px ∷ py ∷ [])
      ∙ ap₂ (λ (x y : ℤ). (bx -ℤ ax) *ℤ (y -ℤ (u +ℤ v +ℤ w) *ℤ ay) -ℤ (by -ℤ ay) *ℤ (x -ℤ (u +ℤ v +ℤ w) *ℤ ax)) ex ey
      ∙ solve
      ((var 2 :- var 0) :* (mean (var 1) (var 3) (var 5) :- all :* var 1) :- (var 3 :- var 1) :* (mean (var 0) (var 2) (var 4) :- all :* var 0))
      (var 8 :* area) tt (ax ∷ ay ∷ bx ∷ by ∷ cx ∷ cy ∷ u ∷ v ∷ w ∷ [])
    where
      all : Expr
      all = var 6 :+ var 7 :+ var 8

      mean : Expr → Expr → Expr → Expr
      mean a b c = var 6 :* a :+ var 7 :* b :+ var 8 :* c
