-- The weights theorem: a triangle with an area holds exactly the weighted means of its corners, and one without holds nothing.
-- The weights of p are the sizes of its three crosses. Assumes nothing.
use mathlib.Core.Path.{◌≡◌, sym, ap, ap₂, subst, ◌∙◌}
use mathlib.Core.Logic.{◌⊎◌, inl, inr, ⊎_elim, ◌≢◌, ◌↔◌}
use mathlib.Core.Bool.{true, false, not, ◌&&◌}
use mathlib.Core.List.{[], ◌∷◌}
use Prim.Native.Nat.{ℕ, ◌+◌}
use native.Mathlib.Omega.{arith}
use borrow.Author.Tests.{not-true}
use lib.IntN.{ℤ, pos, negsuc, neg_ℤ, nat_abs, ◌+ℤ◌, ◌*ℤ◌}
use lib.Signed.{lt_z, ◌≤ℤ◌, ◌<ℤ◌}
use Rattle.verdict.proofs.Bools.{clash, test, and_true}
use Rattle.triangle.specs.Triangle.{cross, all_left, all_right, sides, in_triangle}
use Rattle.triangle.specs.Weighted.{Weighted}
use Rattle.whole.proofs.Laws.{one_*ℤ, *ℤ_assoc}
use Rattle.whole.proofs.Ring.{var, num, ◌:+◌, ◌:*◌, neg, norm, same, solve}
use Rattle.whole.proofs.Order.{<_yes, <_is, <_no, ≤_not, <→≤, ≢→<, negℤ_<, pos_≥0, pos_>0, >0_pos, abs_of, abs_of_neg, *ℤ_≥0, *ℤ_≥0_≤0, *ℤ_≥0_cancel, *ℤ_≤0_cancel}
use Rattle.triangle.proofs.Crosses.{cross_turn, crosses_sum, area_x, area_y, share}

-- ---- the test on the four crosses, as an order

-- the area is positive and no cross is negative; the area is negative and no cross is positive
pub record Left (area d e f : ℤ) : Type 0 where
  pub turn : pos 0 <ℤ area
  pub d≥0 : pos 0 ≤ℤ d
  pub e≥0 : pos 0 ≤ℤ e
  pub f≥0 : pos 0 ≤ℤ f

pub record Right (area d e f : ℤ) : Type 0 where
  pub turn : area <ℤ pos 0
  pub d≤0 : d ≤ℤ pos 0
  pub e≤0 : e ≤ℤ pos 0
  pub f≤0 : f ≤ℤ pos 0

module _ (area d e f : ℤ) where
  pub left_sides : Left area d e f → sides area d e f ≡ true
  unfolding sides all_left
  left_sides l = simp (<_is l.turn, ≤_not l.d≥0, ≤_not l.e≥0, ≤_not l.f≥0)

  pub right_sides : Right area d e f → sides area d e f ≡ true
  unfolding sides all_right
  right_sides r = simp (≤_not (<→≤ r.turn), <_is r.turn, ≤_not r.d≤0, ≤_not r.e≤0, ≤_not r.f≤0)

  pub sides_either : sides area d e f ≡ true → Left area d e f ⊎ Right area d e f
  unfolding sides all_left all_right
  sides_either h =
      test (lt_z (pos 0) area && all_left d e f)
      (λ y.
      let t = and_true (lt_z (pos 0) area) (all_left d e f) y in
      let a = and_true (not (lt_z d (pos 0)) && not (lt_z e (pos 0))) (not (lt_z f (pos 0))) t.1 in
      let b = and_true (not (lt_z d (pos 0))) (not (lt_z e (pos 0))) a.0 in
      inl record { turn = <_yes (pos 0) area t.0; d≥0 = <_no d (pos 0) (not-true _ b.0); e≥0 = <_no e (pos 0) (not-true _ b.1); f≥0 = <_no f (pos 0) (not-true _ a.1) })
      (λ n.
      let t = and_true (lt_z area (pos 0)) (all_right d e f) (simp n at h) in
      let a = and_true (not (lt_z (pos 0) d) && not (lt_z (pos 0) e)) (not (lt_z (pos 0) f)) t.1 in
      let b = and_true (not (lt_z (pos 0) d)) (not (lt_z (pos 0) e)) a.0 in
      inr record { turn = <_yes area (pos 0) t.0; d≤0 = <_no (pos 0) d (not-true _ b.0); e≤0 = <_no (pos 0) e (not-true _ b.1); f≤0 = <_no (pos 0) f (not-true _ a.1) })

-- ---- held means weighted

module _ (ax ay bx by cx cy px py : ℤ) where
  -- any numbers that are the crosses times s, s having the area's sign, are weights
  from_crosses : (u v w : ℕ) (s : ℤ) → pos u ≡ s *ℤ cross bx by cx cy px py → pos v ≡ s *ℤ cross cx cy ax ay px py → pos w ≡ s *ℤ cross ax ay bx by px py
      → pos 0 <ℤ (s *ℤ cross ax ay bx by cx cy) → Weighted ax ay bx by cx cy px py
  unfolding norm same
  from_crosses u v w s eu ev ew h =
      record {
        u = u;
        v = v;
        w = w;
        some = >0_pos (u + v + w) (subst (λ (z : ℤ). pos 0 <ℤ z) (sym total) h);
        x = mean px ax bx cx (area_x ax ay bx by cx cy px py);
        y = mean py ay by cy (area_y ax ay bx by cx cy px py);
      }
    where
      A : ℤ
      A = cross bx by cx cy px py

      B : ℤ
      B = cross cx cy ax ay px py

      C : ℤ
      C = cross ax ay bx by px py

      total : pos (u + v + w) ≡ s *ℤ cross ax ay bx by cx cy
      total =
          ap₂ (λ (x y : ℤ). x +ℤ y) (ap₂ (λ (x y : ℤ). x +ℤ y) eu ev) ew
          ∙ solve (var 0 :* var 1 :+ var 0 :* var 2 :+ var 0 :* var 3) (var 0 :* (var 1 :+ var 2 :+ var 3)) tt (s ∷ A ∷ B ∷ C ∷ [])
          ∙ ap (λ (x : ℤ). s *ℤ x) (crosses_sum ax ay bx by cx cy px py)

      mean : (p a b c : ℤ) → cross ax ay bx by cx cy *ℤ p ≡ (A *ℤ a +ℤ B *ℤ b) +ℤ C *ℤ c → pos (u + v + w) *ℤ p ≡ (pos u *ℤ a +ℤ pos v *ℤ b) +ℤ pos w *ℤ c
      mean p a b c e =
          ap (λ (x : ℤ). x *ℤ p) total
          ∙ *ℤ_assoc s (cross ax ay bx by cx cy) p
          ∙ ap (λ (x : ℤ). s *ℤ x) e
          ∙ solve (var 0 :* (var 1 :* var 4 :+ var 2 :* var 5 :+ var 3 :* var 6)) (var 0 :* var 1 :* var 4 :+ var 0 :* var 2 :* var 5 :+ var 0 :* var 3 :* var 6) tt
          (s ∷ A ∷ B ∷ C ∷ a ∷ b ∷ c ∷ [])
          ∙ sym (ap₂ (λ (x y : ℤ). x +ℤ y *ℤ c) (ap₂ (λ (x y : ℤ). x *ℤ a +ℤ y *ℤ b) eu ev) ew)

  -- a point that the triangle holds is a weighted mean of the corners
  pub weights : in_triangle ax ay bx by cx cy px py ≡ true → Weighted ax ay bx by cx cy px py
  unfolding norm same in_triangle
  weights h =
      ⊎_elim
      (λ (l : Left area d e f).
      from_crosses (nat_abs e) (nat_abs f) (nat_abs d) (pos 1)
      (abs_of l.e≥0 ∙ sym (one_*ℤ e)) (abs_of l.f≥0 ∙ sym (one_*ℤ f)) (abs_of l.d≥0 ∙ sym (one_*ℤ d))
      (subst (λ (z : ℤ). pos 0 <ℤ z) (sym (one_*ℤ area)) l.turn))
      (λ (r : Right area d e f).
      from_crosses (nat_abs e) (nat_abs f) (nat_abs d) (negsuc 0)
      (abs_of_neg r.e≤0 ∙ minus e) (abs_of_neg r.f≤0 ∙ minus f) (abs_of_neg r.d≤0 ∙ minus d)
      (subst (λ (z : ℤ). pos 0 <ℤ z) (minus area) (negℤ_< r.turn)))
      (sides_either area d e f h)
    where
      area : ℤ
      area = cross ax ay bx by cx cy

      d : ℤ
      d = cross ax ay bx by px py

      e : ℤ
      e = cross bx by cx cy px py

      f : ℤ
      f = cross cx cy ax ay px py

      minus : (z : ℤ) → neg_ℤ z ≡ negsuc 0 *ℤ z
      minus z = solve (neg (var 0)) (num (negsuc 0) :* var 0) tt (z ∷ [])

  -- ---- a weighted mean stays one when the corners turn, and when two are swapped

  pub turn_weights : Weighted ax ay bx by cx cy px py → Weighted bx by cx cy ax ay px py
  unfolding norm same
  turn_weights m =
      record { u = m.v; v = m.w; w = m.u; some = omega (arith, m.some); x = moved px ax bx cx m.x; y = moved py ay by cy m.y }
    where
      moved : (p a b c : ℤ) → pos (m.u + m.v + m.w) *ℤ p ≡ (pos m.u *ℤ a +ℤ pos m.v *ℤ b) +ℤ pos m.w *ℤ c
          → pos (m.v + m.w + m.u) *ℤ p ≡ (pos m.v *ℤ b +ℤ pos m.w *ℤ c) +ℤ pos m.u *ℤ a
      moved p a b c e =
          ap (λ (n : ℕ). pos n *ℤ p) (omega arith) ∙ e
          ∙ solve (var 0 :+ var 1 :+ var 2) (var 1 :+ var 2 :+ var 0) tt ((pos m.u *ℤ a) ∷ (pos m.v *ℤ b) ∷ (pos m.w *ℤ c) ∷ [])

  pub swap_weights : Weighted ax ay bx by cx cy px py → Weighted ax ay cx cy bx by px py
  unfolding norm same
  swap_weights m =
      record { u = m.u; v = m.w; w = m.v; some = omega (arith, m.some); x = moved px ax bx cx m.x; y = moved py ay by cy m.y }
    where
      moved : (p a b c : ℤ) → pos (m.u + m.v + m.w) *ℤ p ≡ (pos m.u *ℤ a +ℤ pos m.v *ℤ b) +ℤ pos m.w *ℤ c
          → pos (m.u + m.w + m.v) *ℤ p ≡ (pos m.u *ℤ a +ℤ pos m.w *ℤ c) +ℤ pos m.v *ℤ b
      moved p a b c e =
          ap (λ (n : ℕ). pos n *ℤ p) (omega arith) ∙ e
          ∙ solve (var 0 :+ var 1 :+ var 2) (var 0 :+ var 2 :+ var 1) tt ((pos m.u *ℤ a) ∷ (pos m.v *ℤ b) ∷ (pos m.w *ℤ c) ∷ [])

  -- ---- weighted means held

  -- the cross over against c has the area's sign, or is 0
  share_≥0 : Weighted ax ay bx by cx cy px py → pos 0 <ℤ cross ax ay bx by cx cy → pos 0 ≤ℤ cross ax ay bx by px py
  share_≥0 m h =
      *ℤ_≥0_cancel (pos (m.u + m.v + m.w)) (cross ax ay bx by px py) (pos_>0 (m.u + m.v + m.w) m.some)
      (subst (λ (z : ℤ). pos 0 ≤ℤ z) (sym (share ax ay bx by cx cy px py (pos m.u) (pos m.v) (pos m.w) m.x m.y)) (*ℤ_≥0 (pos_≥0 m.w) (<→≤ h)))

  share_≤0 : Weighted ax ay bx by cx cy px py → cross ax ay bx by cx cy <ℤ pos 0 → cross ax ay bx by px py ≤ℤ pos 0
  share_≤0 m h =
      *ℤ_≤0_cancel (pos (m.u + m.v + m.w)) (cross ax ay bx by px py) (pos_>0 (m.u + m.v + m.w) m.some)
      (subst (λ (z : ℤ). z ≤ℤ pos 0) (sym (share ax ay bx by cx cy px py (pos m.u) (pos m.v) (pos m.w) m.x m.y)) (*ℤ_≥0_≤0 (pos_≥0 m.w) (<→≤ h)))

  -- a triangle with no area holds nothing
  pub no_area : cross ax ay bx by cx cy ≡ pos 0 → in_triangle ax ay bx by cx cy px py ≡ false
  unfolding in_triangle sides
  no_area e = rw e

  pub has_area : in_triangle ax ay bx by cx cy px py ≡ true → cross ax ay bx by cx cy ≢ pos 0
  has_area h e = clash h (no_area e)

module _ (ax ay bx by cx cy px py : ℤ) where
  -- a triangle with an area holds every weighted mean of its corners
  pub weighted_in : cross ax ay bx by cx cy ≢ pos 0 → Weighted ax ay bx by cx cy px py → in_triangle ax ay bx by cx cy px py ≡ true
  unfolding in_triangle
  weighted_in ne m =
      ⊎_elim
      (λ (r : area <ℤ pos 0).
      right_sides area d e f record {
        turn = r;
        d≤0 = share_≤0 ax ay bx by cx cy px py m r;
        e≤0 = share_≤0 bx by cx cy ax ay px py ma (subst (λ (z : ℤ). z <ℤ pos 0) (sym first) r);
        f≤0 = share_≤0 cx cy ax ay bx by px py mb (subst (λ (z : ℤ). z <ℤ pos 0) (sym second) r);
      })
      (λ (l : pos 0 <ℤ area).
      left_sides area d e f record {
        turn = l;
        d≥0 = share_≥0 ax ay bx by cx cy px py m l;
        e≥0 = share_≥0 bx by cx cy ax ay px py ma (subst (λ (z : ℤ). pos 0 <ℤ z) (sym first) l);
        f≥0 = share_≥0 cx cy ax ay bx by px py mb (subst (λ (z : ℤ). pos 0 <ℤ z) (sym second) l);
      })
      (≢→< area (pos 0) ne)
    where
      area : ℤ
      area = cross ax ay bx by cx cy

      d : ℤ
      d = cross ax ay bx by px py

      e : ℤ
      e = cross bx by cx cy px py

      f : ℤ
      f = cross cx cy ax ay px py

      ma : Weighted bx by cx cy ax ay px py
      ma = turn_weights ax ay bx by cx cy px py m

      mb : Weighted cx cy ax ay bx by px py
      mb = turn_weights bx by cx cy ax ay px py ma

      first : cross bx by cx cy ax ay ≡ cross ax ay bx by cx cy
      first = cross_turn ax ay bx by cx cy

      second : cross cx cy ax ay bx by ≡ cross ax ay bx by cx cy
      second = cross_turn bx by cx cy ax ay ∙ first

  -- the whole theorem in one line
  pub held : (in_triangle ax ay bx by cx cy px py ≡ true) ↔ ((cross ax ay bx by cx cy ≢ pos 0) × Weighted ax ay bx by cx cy px py)
  held = (λ h. (has_area ax ay bx by cx cy px py h, weights ax ay bx by cx cy px py h), λ m. weighted_in m.0 m.1)
