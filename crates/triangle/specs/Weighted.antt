-- What it is for a triangle to hold a point, in plain words: the point is a weighted mean of the corners.
use Rattle.std.specs.Prelude.{◌≡◌, ℕ, ◌+◌, ◌<◌, ℤ, pos, ◌+ℤ◌, ◌*ℤ◌}

-- p is a weighted mean of the three corners: natural weights, not all 0
pub record Weighted (ax ay bx by cx cy px py : ℤ) : Type 0 where
  pub u : ℕ
  pub v : ℕ
  pub w : ℕ
  pub some : 0 < u + v + w
  pub x : pos (u + v + w) *ℤ px ≡ (pos u *ℤ ax +ℤ pos v *ℤ bx) +ℤ pos w *ℤ cx
  pub y : pos (u + v + w) *ℤ py ≡ (pos u *ℤ ay +ℤ pos v *ℤ by) +ℤ pos w *ℤ cy
