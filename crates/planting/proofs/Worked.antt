-- A floor of two triangles, a square with corners (0, -0), (1, 0), (0, 2), (1, 2): its tree, computed from the definition.
use mathlib.Core.Path.{◌≡◌, refl}
use mathlib.Core.List.{[], ◌∷◌}
use Prim.Native.Nat.{ℕ, ◌+◌}
use lib.Ieee.{le, lt, eq, sub, add, neg, sum, round, of_bits, to_bits}
use Rattle.boxes.specs.Box.{box_of_bits}
use Rattle.boxes.specs.declared.Box.{Box}
use Rattle.grid.specs.Grid.{plain}
use Rattle.tables.specs.Parts.{none32, Parts, table_of, word_of}
use Rattle.planting.specs.Boxes.{lesser, greater, point_box, around, vertex_box, face_box, range_box, longest, plane_for}
use Rattle.planting.specs.Planting.{node_words, leaf_words, inner_words, range_words, tree_words, planted}

-- 1.0, 2.0 and -0.0
abbrev one : ℕ
one = 0x3F80_0000

abbrev two : ℕ
two = 0x4000_0000

abbrev minus : ℕ
minus = 0x8000_0000

square : Parts
square = record {
  floats = [];
  vertices = 4;
  faces = 2;
  nodes = 0;
  root = 7;
  adjacency = 0;
  edges = 0;
  perimeters = 0;
  tables =
      (0 ∷ minus ∷ 0 ∷ one ∷ 0 ∷ 0 ∷ 0 ∷ two ∷ 0 ∷ one ∷ two ∷ 0 ∷ []) ∷ (0 ∷ 1 ∷ 2 ∷ 2 ∷ 1 ∷ 3 ∷ []) ∷ (0 ∷ 0 ∷ []) ∷
      [] ∷ [] ∷ [] ∷ [] ∷ [] ∷ [] ∷ [];
}

-- a root over the two leaves; the longest side is that of y
square_tree : table_of (planted square) 5 ≡
    0 ∷ 0 ∷ 0 ∷ one ∷ two ∷ 0 ∷ none32 ∷ 4 ∷ 2 ∷ 1 ∷ 2 ∷
    0 ∷ 0 ∷ 0 ∷ one ∷ two ∷ 0 ∷ 0 ∷ 4 ∷ 0 ∷ none32 ∷ none32 ∷
    0 ∷ 0 ∷ 0 ∷ one ∷ two ∷ 0 ∷ 1 ∷ 4 ∷ 0 ∷ none32 ∷ none32 ∷ []
unfolding square planted tree_words range_words inner_words leaf_words node_words range_box face_box vertex_box around point_box lesser greater plain plane_for longest word_of le lt eq sub add neg sum round of_bits to_bits
square_tree = refl

-- a box from -3.4e38 to 3.4e38 on some axes, and of no length on the others: such a side is infinite
wide : ℕ → ℕ → ℕ → Box
wide x y z = box_of_bits (0x8000_0000 + x) (0x8000_0000 + y) (0x8000_0000 + z) x y z

abbrev far : ℕ
far = 0x7F7F_FFFF

one_infinite : plane_for (wide one far two) ≡ 2
unfolding wide box_of_bits plane_for longest le lt eq sub add neg sum round of_bits
one_infinite = refl

-- two infinite sides are a tie
two_infinite : plane_for (wide two far far) ≡ 2
unfolding wide box_of_bits plane_for longest le lt eq sub add neg sum round of_bits
two_infinite = refl

-- no length at all: the first
no_length : plane_for (wide 0 0 0) ≡ 1
unfolding wide box_of_bits plane_for longest le lt eq sub add neg sum round of_bits
no_length = refl
