-- The tree that M-113 asks for, as plain statements over a floor's parts: cut in half, at most 12 steps down, boxes as tight as possible, the
-- longest side; and that all but the tree stays. Definitions only.
use Rattle.std.specs.Prelude.{ℕ, ◌+◌, ◌*◌, ◌-◌, ◌/◌, ◌<◌, ◌≤◌, ◌≡◌, Bool, true, false, List, [], ◌∷◌, length, get_or, Float}
use Rattle.std.proofs.Math.Option.{some}
use Rattle.std.specs.Float.{nan, binary32}
use Rattle.std.specs.Float.Ieee.{le, eq, sub}
use Rattle.tables.specs.Parts.{Parts, table_of, corner, node_word}
use Rattle.boxes.specs.declared.Box.{Box}
use Rattle.boxes.specs.Plain.{HoldsBox}
use Rattle.mesh.specs.Mesh.{IsFinite}
use Rattle.nodes.specs.Nodes.{nodes_of, face_of, plane_of, left_of, right_of}
use Rattle.nodes.specs.Plain.{Leaf, Inner, SoundNodes}
use Rattle.tree.specs.Boxes.{box_of, vertex_float}
use Rattle.tree.specs.Plain.{follow, FloorTree, BoxesHold}
use Rattle.planting.specs.Sides.{Sides, HoldsCorner}

-- node k and those that follow it are the tree of n faces from face `from` on: one face is a leaf; more are cut in half, the lower half,
-- rounded down, on the left, and the numbers go parent, left subtree (of 2 * (n / 2) - 1 nodes), right subtree
pub data Halved (p : Parts) : ℕ → ℕ → ℕ → Type 0 where
  uncut : {k from n : ℕ} → n ≡ 1 → Leaf p k → face_of p k ≡ from → Halved p k from n
  cut : {k from n : ℕ} → 2 ≤ n → Inner p k → left_of p k ≡ k + 1 → right_of p k ≡ k + 2 * (n / 2)
      → Halved p (k + 1) from (n / 2) → Halved p (k + 2 * (n / 2)) (from + n / 2) (n - n / 2) → Halved p k from n

-- no node, leaf or not, is more than 12 steps below node 0
pub record Twelve (p : Parts) : Type 0 where
  pub short : (n : ℕ) → n < p.nodes → (steps : List Bool) → follow (nodes_of p) steps 0 ≡ some n → length steps ≤ 12

-- a leaf with face f hangs below node k, or is it
pub record Below (p : Parts) (k f : ℕ) : Type 0 where
  pub node : ℕ
  pub steps : List Bool
  pub leads : follow (nodes_of p) steps k ≡ some node
  pub leaf : Leaf p node
  pub here : face_of p node ≡ f

-- x is coordinate c of some corner of a face below node k, by float comparison, so that zero's two signs are one
pub record OfCorner (p : Parts) (k c : ℕ) (x : Float) : Type 0 where
  pub face : ℕ
  pub below : Below p k face
  pub end : ℕ
  pub three : end < 3
  pub here : eq x (vertex_float p (corner p face end) c) ≡ true

-- node k's box is as tight as possible: it holds all corners of the faces below, and every box that does holds it; so each end of each
-- side is a coordinate of some corner
pub record Tightest (p : Parts) (k : ℕ) : Type 0 where
  pub holds : (f e : ℕ) → Below p k f → e < 3 → HoldsCorner p (box_of p k) f e
  pub least : (b : Box) → ((f e : ℕ) → Below p k f → e < 3 → HoldsCorner p b f e) → HoldsBox b (box_of p k)
  pub ends : Sides (OfCorner p k) (box_of p k)

-- the length of a box's side on an axis, by float subtraction
abbrev pub side_of : Box → ℕ → Float
side_of b c =
    get_or (sub binary32 b.greatest_x b.least_x ∷ sub binary32 b.greatest_y b.least_y ∷ sub binary32 b.greatest_z b.least_z ∷ []) c nan

-- the plane is that of the longest side, the first on a tie
pub record Longest (b : Box) (plane : ℕ) : Type 0 where
  pub axis : ℕ
  pub three : axis < 3
  pub here : plane ≡ axis + 1
  pub most : (c : ℕ) → c < 3 → le (side_of b c) (side_of b axis) ≡ true
  pub first : (c : ℕ) → c < axis → le (side_of b axis) (side_of b c) ≡ false

-- the tree that was asked for: the reader's rules of nodes, and the plain words of the request
pub record GoodTree (p : Parts) : Type 0 where
  pub nodes : SoundNodes p  -- 11 and 12
  pub root : p.root ≡ 0
  pub tree : FloorTree p  -- 13
  pub halved : 1 ≤ p.faces → Halved p 0 0 p.faces
  pub twelve : Twelve p
  pub boxes : BoxesHold p  -- 14
  pub finite : (n e : ℕ) → n < p.nodes → e < 6 → IsFinite (node_word p n e)  -- 7, of the boxes
  pub tightest : (n : ℕ) → n < p.nodes → Tightest p n
  pub zeros : (n e : ℕ) → n < p.nodes → e < 6 → node_word p n e ≡ 0x8000_0000 → ⊥  -- no negative zero
  pub unknown : (n : ℕ) → n < p.nodes → node_word p n 7 ≡ 4
  pub planes : (n : ℕ) → n < p.nodes → Inner p n → Longest (box_of p n) (plane_of p n)

-- q is p with other nodes and another root, and all else stays
pub record OtherNodes (p q : Parts) : Type 0 where
  pub floats : q.floats ≡ p.floats
  pub vertices : q.vertices ≡ p.vertices
  pub faces : q.faces ≡ p.faces
  pub adjacency : q.adjacency ≡ p.adjacency
  pub edges : q.edges ≡ p.edges
  pub perimeters : q.perimeters ≡ p.perimeters
  pub tables : (k : ℕ) → k < 9 → (k ≡ 5 → ⊥) → table_of q k ≡ table_of p k
