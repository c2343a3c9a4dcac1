-- The height in the words of the paper, as plain statements: no division in them.
use Rattle.std.specs.Prelude.{ℕ, ◌+◌, Bool, ℤ, pos, ◌+ℤ◌, ◌*ℤ◌, ◌≤ℤ◌, ◌<ℤ◌}
use Rattle.wire.specs.Signed.{Within}
use Rattle.triangle.specs.Triangle.{in_triangle}
use Rattle.triangle.specs.Weighted.{Weighted}
use Rattle.slope.specs.declared.Corner.{Corner}

-- h is the fraction n / d rounded down: at most the fraction, and less than one unit below it. d is positive
pub record RoundedDown (n d h : ℤ) : Type 0 where
  pub low : (d *ℤ h) ≤ℤ n
  pub high : n <ℤ (d *ℤ (h +ℤ pos 1))

-- the triangle of a, b, c seen from above holds the point; the point is a weighted mean of a, b, c seen from above
abbrev pub holds : Corner → Corner → Corner → ℤ → ℤ → Bool
holds a b c x y = in_triangle a.x a.y b.x b.y c.x c.y x y

abbrev pub Mean : Corner → Corner → Corner → ℤ → ℤ → Type 0
Mean a b c x y = Weighted a.x a.y b.x b.y c.x c.y x y

-- the sum of the weights, and that of the corners' heights, each times its weight
abbrev pub weight : (a b c : Corner) (x y : ℤ) → Mean a b c x y → ℤ
weight a b c x y m = pos (m.u + m.v + m.w)

abbrev pub heights : (a b c : Corner) (x y : ℤ) → Mean a b c x y → ℤ
heights a b c x y m = (pos m.u *ℤ a.z +ℤ pos m.v *ℤ b.z) +ℤ pos m.w *ℤ c.z

-- h is the height of the plane over the point, rounded down: with whichever weights the point is a mean of the corners, the same
-- mean of their heights, rounded down, is h
pub record Stands (a b c : Corner) (x y h : ℤ) : Type 0 where
  pub mean : (m : Mean a b c x y) → RoundedDown (heights a b c x y m) (weight a b c x y m) h

-- ---- what the code goes by

-- a corner within the grid
pub record Near (a : Corner) : Type 0 where
  pub x : Within 65536 a.x
  pub y : Within 65536 a.y
  pub z : Within 65536 a.z

-- how large, within the grid, a cross is at most, a cross times a height, and three of these
abbrev pub most_cross : ℕ
most_cross = 34359738368

abbrev pub most_share : ℕ
most_share = 2251799813685248

abbrev pub most_lifted : ℕ
most_lifted = 6755399441055744
