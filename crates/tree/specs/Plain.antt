-- Rules 13 and 14 in the words of the paper, as plain statements: exactly one path to each node, of at most 64 steps, and exactly one
-- leaf for each face; boxes that hold. No search and no test in them.
use Rattle.std.specs.Prelude.{ℕ, ◌<◌, ◌≤◌, ◌≡◌, Bool, false, cond, List, [], ◌∷◌, length}
use Rattle.std.proofs.Math.Option.{Option, none, some}
use Rattle.boxes.specs.Plain.{HoldsBox, HoldsPoint}
use Rattle.tables.specs.Parts.{Parts, corner}
use Rattle.nodes.specs.Nodes.{Nodes, face_of, left_of, right_of, nodes_of}
use Rattle.nodes.specs.Plain.{Leaf, Inner}
use Rattle.tree.specs.Boxes.{box_of, vertex_float}

-- where steps (true: left) lead from n, if each can be taken: from inner nodes only
unfoldable pub follow : Nodes → List Bool → ℕ → Option ℕ
follow t [] n = some n
follow t (s ∷ p) n = let on = follow t p (cond s (t.left n) (t.right n)) in cond (t.inner n) on none

-- exactly one list of steps leads from the root to n, and it has at most 64 steps
pub record OnePath (t : Nodes) (root n : ℕ) : Type 0 where
  pub steps : List Bool
  pub leads : follow t steps root ≡ some n
  pub short : length steps ≤ 64
  pub only : (q : List Bool) → follow t q root ≡ some n → q ≡ steps

-- face f stands in exactly one leaf of N nodes
pub record OneLeaf (t : Nodes) (face : ℕ → ℕ) (N f : ℕ) : Type 0 where
  pub node : ℕ
  pub under : node < N
  pub leaf : t.inner node ≡ false
  pub here : face node ≡ f
  pub only : (m : ℕ) → m < N → t.inner m ≡ false → face m ≡ f → m ≡ node

-- 13: from the root every node is reached by exactly one path, of at most 64 steps, and every face stands in exactly one leaf
pub record OneTree (t : Nodes) (face : ℕ → ℕ) (root N F : ℕ) : Type 0 where
  pub paths : (n : ℕ) → n < N → OnePath t root n
  pub leaves : (f : ℕ) → f < F → OneLeaf t face N f

-- the same of a floor: its tree hangs from the node that the root field names
abbrev pub FloorTree : Parts → Type 0
FloorTree p = OneTree (nodes_of p) (face_of p) p.root p.nodes p.faces

-- 14: a leaf's box holds its face's three corners, an inner node's box both children's
pub record BoxesHold (p : Parts) : Type 0 where
  pub corners : (n e : ℕ) → n < p.nodes → Leaf p n → e < 3
      → HoldsPoint (box_of p n) (vertex_float p (corner p (face_of p n) e) 0) (vertex_float p (corner p (face_of p n) e) 1) (vertex_float p (corner p (face_of p n) e) 2)
  pub left : (n : ℕ) → n < p.nodes → Inner p n → HoldsBox (box_of p n) (box_of p (left_of p n))
  pub right : (n : ℕ) → n < p.nodes → Inner p n → HoldsBox (box_of p n) (box_of p (right_of p n))
