-- Laws of the triangle's tests, for chains that leave at the first that fails. Assumes nothing.
use mathlib.Core.Path.{◌≡◌, refl, sym}
use mathlib.Core.Bool.{Bool, true, false, not, ◌||◌}
use Prim.Native.Nat.{zero-le}
use borrow.Author.Tests.{le-ltb}
use lib.IntN.{ℤ, pos, negsuc}
use lib.Signed.{lt_z}
use Rattle.triangle.specs.Triangle.{all_left, all_right, sides}

module _ (d e f : ℤ) where
  pub left_no : lt_z d (pos 0) ≡ true → false ≡ all_left d e f
  unfolding all_left
  left_no h = simp h

  pub left_no_2 : lt_z d (pos 0) ≡ false → lt_z e (pos 0) ≡ true → false ≡ all_left d e f
  unfolding all_left
  left_no_2 h k = simp (h, k)

  pub left_last : lt_z d (pos 0) ≡ false → lt_z e (pos 0) ≡ false → not (lt_z f (pos 0)) ≡ all_left d e f
  unfolding all_left
  left_last h k = simp (h, k)

  pub right_no : lt_z (pos 0) d ≡ true → false ≡ all_right d e f
  unfolding all_right
  right_no h = simp h

  pub right_no_2 : lt_z (pos 0) d ≡ false → lt_z (pos 0) e ≡ true → false ≡ all_right d e f
  unfolding all_right
  right_no_2 h k = simp (h, k)

  pub right_last : lt_z (pos 0) d ≡ false → lt_z (pos 0) e ≡ false → not (lt_z (pos 0) f) ≡ all_right d e f
  unfolding all_right
  right_last h k = simp (h, k)

  pub turn_left : (a : ℤ) → lt_z (pos 0) a ≡ true → lt_z a (pos 0) ≡ false → all_left d e f ≡ sides a d e f
  unfolding sides
  turn_left a h k = simp (h, k) (or_false (all_left d e f))
    where
      or_false : (b : Bool) → b ≡ (b || false)
      or_false true = refl
      or_false false = refl

  pub turn_right : (a : ℤ) → lt_z (pos 0) a ≡ false → lt_z a (pos 0) ≡ true → all_right d e f ≡ sides a d e f
  unfolding sides
  turn_right a h k = simp (h, k)

  pub no_area : (a : ℤ) → lt_z (pos 0) a ≡ false → lt_z a (pos 0) ≡ false → false ≡ sides a d e f
  unfolding sides
  no_area a h k = simp (h, k)

pub not_both : (a : ℤ) → lt_z (pos 0) a ≡ true → lt_z a (pos 0) ≡ false
not_both (pos a) h = le-ltb a 0 zero-le
not_both (negsuc a) h = sym h
