-- The boxes of the tree that M-113 asks for, as tight as possible, and the plane that cuts a box: by float comparison and float subtraction.
-- Definitions only.
use Rattle.std.specs.Prelude.{ℕ, zero, suc, ◌+◌, ◌-◌, ◌/◌, cond, ◌&&◌, leb, Float}
use Rattle.std.specs.Float.Ieee.{le, sub, of_bits}
use Rattle.std.specs.Float.{binary32}
use Rattle.grid.specs.Grid.{plain}
use Rattle.tables.specs.Parts.{Parts, corner, vertex_word}
use Rattle.boxes.specs.declared.Box.{Box}

-- coordinate c of vertex v, negative zero written as zero
abbrev pub coordinate_of : Parts → ℕ → ℕ → Float
coordinate_of p v c = of_bits binary32 (plain (vertex_word p v c))

-- the lesser and the greater of two floats
unfoldable pub lesser : Float → Float → Float
lesser x y = cond (le x y) x y

unfoldable pub greater : Float → Float → Float
greater x y = cond (le x y) y x

-- the box of a point: it is both ends
unfoldable pub point_box : Float → Float → Float → Box
point_box x y z = record {
  least_x = x;
  least_y = y;
  least_z = z;
  greatest_x = x;
  greatest_y = y;
  greatest_z = z;
}

-- the tight box around two
unfoldable pub around : Box → Box → Box
around a b = record {
  least_x = lesser a.least_x b.least_x;
  least_y = lesser a.least_y b.least_y;
  least_z = lesser a.least_z b.least_z;
  greatest_x = greater a.greatest_x b.greatest_x;
  greatest_y = greater a.greatest_y b.greatest_y;
  greatest_z = greater a.greatest_z b.greatest_z;
}

-- the box of vertex v
unfoldable pub vertex_box : Parts → ℕ → Box
vertex_box p v = point_box (coordinate_of p v 0) (coordinate_of p v 1) (coordinate_of p v 2)

-- the box of face f: around its three corners
unfoldable pub face_box : Parts → ℕ → Box
face_box p f = around (around (vertex_box p (corner p f 0)) (vertex_box p (corner p f 1))) (vertex_box p (corner p f 2))

-- the box of n faces from face `from` on: around the boxes of the lower half, rounded down, and of the rest; d is at least how often
-- the range can be halved
unfoldable pub range_box : Parts → ℕ → ℕ → ℕ → Box
range_box p zero from n = face_box p from
range_box p (suc d) from n =
    let both = around (range_box p d from (n / 2)) (range_box p d (from + n / 2) (n - n / 2)) in
    cond (leb n 1) (face_box p from) both

-- the axis of the longest side, 1, 2 or 3, the first on a tie; an infinite side counts as longest
unfoldable pub longest : Float → Float → Float → ℕ
longest x y z = cond (le y x && le z x) 1 (cond (le z y) 2 3)

unfoldable pub plane_for : Box → ℕ
plane_for b =
    longest (sub binary32 b.greatest_x b.least_x) (sub binary32 b.greatest_y b.least_y)
    (sub binary32 b.greatest_z b.least_z)
