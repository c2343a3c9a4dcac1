-- The exact height of a triangle's plane over a point is a fraction of two whole numbers from the corners, and the answer is that
-- fraction rounded down. Definitions only; specs/Plain.antt says the same in plain words.
use Rattle.std.specs.Prelude.{ℕ, ◌/◌, cond, ℤ, pos, negsuc, neg_ℤ, nat_abs, ◌+ℤ◌, ◌*ℤ◌}
use Rattle.std.specs.Int.Signed.{lt_z}
use Rattle.triangle.specs.Triangle.{cross}
use Rattle.slope.specs.declared.Corner.{Corner}

-- n / d rounded down, whatever the sign of n (`negsuc n` is -1 - n)
unfoldable pub rounded_down : ℤ → ℕ → ℤ
rounded_down (pos n) d = pos (n / d)
rounded_down (negsuc n) d = negsuc (n / d)

-- twice the area of a, b and the point, seen from above: positive where the point lies to the left of the way from a to b
unfoldable pub beside : Corner → Corner → ℤ → ℤ → ℤ
beside a b x y = cross a.x a.y b.x b.y x y

-- twice the area of a, b, c seen from above: negative where they run clockwise
unfoldable pub area : Corner → Corner → Corner → ℤ
area a b c = beside a b c.x c.y

-- the area times the height of the plane over the point: the height of each corner, times the cross of the side over against it
unfoldable pub lifted : Corner → Corner → Corner → ℤ → ℤ → ℤ
lifted a b c x y = (beside b c x y *ℤ a.z +ℤ beside c a x y *ℤ b.z) +ℤ beside a b x y *ℤ c.z

-- n, or minus n where the area says that the corners run clockwise
unfoldable pub turned : ℤ → ℤ → ℤ
turned area n = cond (lt_z area (pos 0)) (neg_ℤ n) n

-- the exact height is numerator / denominator, the denominator being a positive number where there is an area
unfoldable pub numerator : Corner → Corner → Corner → ℤ → ℤ → ℤ
numerator a b c x y = turned (area a b c) (lifted a b c x y)

unfoldable pub denominator : Corner → Corner → Corner → ℕ
denominator a b c = nat_abs (area a b c)

-- the height over the point, rounded down
unfoldable pub height_at : Corner → Corner → Corner → ℤ → ℤ → ℤ
height_at a b c x y = rounded_down (numerator a b c x y) (denominator a b c)
