-- Heights worked out: on slopes of either sign, over a side, and for corners either way round. Assumes nothing.
use mathlib.Core.Path.{◌≡◌, refl}
use lib.IntN.{ℤ, pos, negsuc}
use Rattle.triangle.specs.Triangle.{cross}
use Rattle.slope.specs.declared.Corner.{Corner}
use Rattle.slope.specs.Height.{rounded_down, beside, area, lifted, turned, numerator, denominator, height_at}

abbrev pub at : ℤ → ℤ → ℤ → Corner
at x y z = record { x = x; y = y; z = z }

-- the triangle (0, 0), (1, 0), (0, 1), that is 64 sixty-fourths along each axis, with the heights 0, 1, 0: half way up; and with one sixty-fourth
-- for the 1: 63/64 of a unit is 0
pub up : (height_at (at (pos 0) (pos 0) (pos 0)) (at (pos 64) (pos 0) (pos 64)) (at (pos 0) (pos 64) (pos 0)) (pos 32) (pos 0) ≡ pos 32)
    × (height_at (at (pos 0) (pos 0) (pos 0)) (at (pos 64) (pos 0) (pos 1)) (at (pos 0) (pos 64) (pos 0)) (pos 63) (pos 0) ≡ pos 0)
unfolding height_at numerator denominator turned lifted area beside cross rounded_down
up = (refl, refl)

-- down a slope of one unit: 1/64 of a unit below zero is -1, the same for the corners the other way round; over a side that does not slope it is 0
pub down : (height_at (at (pos 0) (pos 0) (pos 0)) (at (pos 64) (pos 0) (negsuc 0)) (at (pos 0) (pos 64) (pos 0)) (pos 1) (pos 0) ≡ negsuc 0)
    × (height_at (at (pos 0) (pos 0) (pos 0)) (at (pos 0) (pos 64) (pos 0)) (at (pos 64) (pos 0) (negsuc 0)) (pos 1) (pos 0) ≡ negsuc 0)
    × (height_at (at (pos 0) (pos 0) (pos 0)) (at (pos 0) (pos 64) (pos 0)) (at (pos 64) (pos 0) (negsuc 0)) (pos 0) (pos 5) ≡ pos 0)
unfolding height_at numerator denominator turned lifted area beside cross rounded_down
down = (refl, refl, refl)
