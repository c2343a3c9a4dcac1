-- A node's box: six floats by value, and what it holds, by plain float comparison, ends included. Definitions only.
-- `le` is lib.Ieee's comparison: the order of the numbers, minus zero equal to zero, and false where a NaN stands.
use Rattle.std.specs.Prelude.{ℕ, ◌≡◌, Bool, true, ◌&&◌, Float}
use Rattle.std.specs.Float.Ieee.{le, of_bits}
use Rattle.std.specs.Float.{binary32}
use Rattle.grid.specs.Grid.{finite}
use Rattle.boxes.specs.declared.Box.{Box}

-- x lies between two ends, ends included
unfoldable pub between : Float → Float → Float → Bool
between lo x hi = le lo x && le x hi

-- no coordinate of the point (a, b, c) is over that of (d, e, f)
unfoldable pub none_over : Float → Float → Float → Float → Float → Float → Bool
none_over a b c d e f = le a d && le b e && le c f

-- a leaf's box holds a corner of its face (rule 14)
unfoldable pub holds_point : Box → Float → Float → Float → Bool
holds_point b x y z = between b.least_x x b.greatest_x && between b.least_y y b.greatest_y && between b.least_z z b.greatest_z

-- an inner node's box holds a child's (rule 14): the child's least is not under the node's, nor its greatest over the node's, axis by axis
unfoldable pub holds_box : Box → Box → Bool
holds_box b c =
    none_over b.least_x b.least_y b.least_z c.least_x c.least_y c.least_z
    && none_over c.greatest_x c.greatest_y c.greatest_z b.greatest_x b.greatest_y b.greatest_z

-- a box holds the x and y of the point query
unfoldable pub holds_xy : Box → Float → Float → Bool
holds_xy b x y = between b.least_x x b.greatest_x && between b.least_y y b.greatest_y

-- the box of six floats by their bits: least x, y, z, greatest x, y, z
unfoldable pub box_of_bits : ℕ → ℕ → ℕ → ℕ → ℕ → ℕ → Box
box_of_bits a b c d e f = record {
  least_x = of_bits binary32 a;
  least_y = of_bits binary32 b;
  least_z = of_bits binary32 c;
  greatest_x = of_bits binary32 d;
  greatest_y = of_bits binary32 e;
  greatest_z = of_bits binary32 f;
}

-- six patterns of finite floats
pub record FiniteBits (a b c d e f : ℕ) : Type 0 where
  pub first : finite (of_bits binary32 a) ≡ true
  pub second : finite (of_bits binary32 b) ≡ true
  pub third : finite (of_bits binary32 c) ≡ true
  pub fourth : finite (of_bits binary32 d) ≡ true
  pub fifth : finite (of_bits binary32 e) ≡ true
  pub sixth : finite (of_bits binary32 f) ≡ true
