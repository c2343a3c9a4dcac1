-- Laws of what the small functions of the query test: x and y within reach, a vertex on the grid, a coordinate in sixty-fourths. Assumes nothing.
use mathlib.Core.Path.{◌≡◌, ap, ◌∙◌}
use mathlib.Core.Bool.{Bool, true, false, not, ◌&&◌}
use Prim.Native.Nat.{ℕ}
use lib.IntN.{ℤ, nat_abs}
use borrow.Author.Tests.{le-leb}
use mir.Syntax.{w32, w64}
use mir.Val.{SFits, to_z, of_z}
use mir.ValLaws.{to_z-of_z}
use Rattle.std.specs.Prelude.{Option, Some, is_some}
use Rattle.wire.specs.Signed.{Within}
use Rattle.wire.proofs.Signed.{read, read_is, read_within, wider}
use Rattle.grid.specs.Grid.{on_grid, scaled, within}
use Rattle.grid.specs.Answers.{scaled_at}
use Rattle.grid.proofs.Answers.{on_is, v_is, v_small}
use Rattle.triangle.specs.Triangle.{in_triangle}
use Rattle.tables.specs.Parts.{Parts, vertex_word, corner}
use Rattle.tree.specs.Boxes.{vertex_float}
use Rattle.query.specs.Rules.{off_grid}
use Rattle.query.specs.Points.{corner_at, face_holds}

-- a 32-bit number that was widened and passed on is read as it was handed in
pub handed : (x : ℤ) → SFits w32 x → (r : ℤ) → r ≡ to_z w32 (of_z w32 x) → read r ≡ x
handed x h r e = rw (e ∙ to_z-of_z w32 x h) (to_z-of_z w64 x (wider x h))

-- ---- x and y within reach, test by test

module _ (x y : ℤ) where
  pub beyond : within 65536 x ≡ false → false ≡ (within 65536 x && within 65536 y)
  beyond e = rw e

  pub by_second : within 65536 x ≡ true → within 65536 y ≡ (within 65536 x && within 65536 y)
  by_second e = rw e

pub bound_within : {z : ℤ} → Within 65536 z → within 65536 z ≡ true
bound_within {z} h = le-leb (nat_abs z) 65536 h.le

-- ---- a vertex, coordinate by coordinate

module _ (p : Parts) (v : ℕ) where
  pub off_first : on_grid (vertex_float p v 0) ≡ false → true ≡ off_grid p v
  unfolding off_grid
  off_first a = rw a

  pub off_second : on_grid (vertex_float p v 0) ≡ true → on_grid (vertex_float p v 1) ≡ false → true ≡ off_grid p v
  unfolding off_grid
  off_second a b = rw (a, b)

  pub by_third : on_grid (vertex_float p v 0) ≡ true → on_grid (vertex_float p v 1) ≡ true → (t : Bool) → t ≡ on_grid (vertex_float p v 2) → not t ≡ off_grid p v
  unfolding off_grid
  by_third a b t c = rw (a, b, c)

-- what scaled_of says of a vertex's word
pub coordinate_on : (p : Parts) (v e w : ℕ) (r : Option ℤ) → w ≡ vertex_word p v e → r ≡ scaled_at w → is_some r ≡ on_grid (vertex_float p v e)
coordinate_on p v e w r a q = rw q (on_is w ∙ rw a)

-- ---- a coordinate in sixty-fourths, as a local holds it

pub coordinate_is : (p : Parts) (v e w : ℕ) (z : ℤ) → scaled_at w ≡ Some z → w ≡ vertex_word p v e → read z ≡ scaled (vertex_float p v e)
coordinate_is p v e w z s q = read_is (v_small w z s) tt ∙ (v_is w z s ∙ rw q)

pub coordinate_small : (w : ℕ) (z : ℤ) → scaled_at w ≡ Some z → Within 65536 (read z)
coordinate_small w z s = read_within (v_small w z s) tt

-- that of a corner's vertex is the corner's
pub corner_read : (p : Parts) (f c e v : ℕ) {z : ℤ} → v ≡ corner p f c → z ≡ scaled (vertex_float p v e) → Within 65536 z → read z ≡ corner_at p f c e
unfolding corner_at
corner_read p f c e v a q small = read_is small tt ∙ q ∙ ap (λ (u : ℕ). scaled (vertex_float p u e)) a

-- ---- a corner in sixty-fourths, as a local holds it

pub corner_is : (p : Parts) (f c e v w : ℕ) (z : ℤ) → v ≡ corner p f c → w ≡ vertex_word p v e → scaled_at w ≡ Some z → read z ≡ corner_at p f c e
unfolding corner_at
corner_is p f c e v w z a q s = coordinate_is p v e w z s q ∙ rw a

pub corner_small : (w : ℕ) (z : ℤ) → scaled_at w ≡ Some z → Within 65536 (read z)
corner_small = coordinate_small

-- the triangle of a face, number by number
pub triangle : (p : Parts) (x y : ℤ) (f : ℕ) {a b c d e g h i : ℤ}
    → a ≡ corner_at p f 0 0 → b ≡ corner_at p f 0 1 → c ≡ corner_at p f 1 0 → d ≡ corner_at p f 1 1 → e ≡ corner_at p f 2 0 → g ≡ corner_at p f 2 1 → h ≡ x → i ≡ y
    → (r : Bool) → r ≡ in_triangle a b c d e g h i → r ≡ face_holds p x y f
unfolding face_holds
triangle p x y f a b c d e g h i r q = rw (a, b, c, d, e, g, h, i) at q
