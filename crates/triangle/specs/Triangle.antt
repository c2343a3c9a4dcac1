-- The triangle seen from above, in sixty-fourths: a half-plane test for each side, whichever way the corners run.
-- Definitions only; specs/Weighted.antt says the same in plain words.
use Rattle.std.specs.Prelude.{Bool, not, ◌&&◌, ◌||◌, ℤ, pos, ◌-ℤ◌, ◌*ℤ◌}
use Rattle.std.specs.Int.Signed.{lt_z}

-- twice the area of a, b, p: positive where p lies to the left of the way from a to b
unfoldable pub cross : ℤ → ℤ → ℤ → ℤ → ℤ → ℤ → ℤ
cross ax ay bx by px py = (bx -ℤ ax) *ℤ (py -ℤ ay) -ℤ (by -ℤ ay) *ℤ (px -ℤ ax)

-- none of the three is negative
unfoldable pub all_left : ℤ → ℤ → ℤ → Bool
all_left d e f = not (lt_z d (pos 0)) && not (lt_z e (pos 0)) && not (lt_z f (pos 0))

-- none of the three is positive
unfoldable pub all_right : ℤ → ℤ → ℤ → Bool
all_right d e f = not (lt_z (pos 0) d) && not (lt_z (pos 0) e) && not (lt_z (pos 0) f)

-- on no side's outer side, whichever way the corners run; a triangle with no area holds nothing
unfoldable pub sides : ℤ → ℤ → ℤ → ℤ → Bool
sides area d e f = lt_z (pos 0) area && all_left d e f || lt_z area (pos 0) && all_right d e f

-- the triangle a b c holds p, corners and sides included
unfoldable pub in_triangle : ℤ → ℤ → ℤ → ℤ → ℤ → ℤ → ℤ → ℤ → Bool
in_triangle ax ay bx by cx cy px py =
    sides (cross ax ay bx by cx cy) (cross ax ay bx by px py) (cross bx by cx cy px py) (cross cx cy ax ay px py)
