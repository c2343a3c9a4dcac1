-- Rules 11 and 12 in the words of the paper, as plain statements: leaf and inner node, how many nodes there are, the root one of them, and
-- what both rules have shown when rule 13 is asked. No search and no test in them.
use Rattle.std.specs.Prelude.{ℕ, ◌*◌, ◌-◌, ◌<◌, ◌≡◌, ◌⊎◌, true, false}
use Rattle.tables.specs.Parts.{none32, Parts}
use Rattle.nodes.specs.Nodes.{face_of, plane_of, left_of, right_of, nodes_of}

-- plane 1, 2, 3 or -1, -2, -3 as 32 bits
abbrev pub Plane : ℕ → Type 0
Plane w = (w ≡ 1) ⊎ (w ≡ 2) ⊎ (w ≡ 3) ⊎ (w ≡ 4294967295) ⊎ (w ≡ 4294967294) ⊎ (w ≡ 4294967293)

-- node n is a leaf
pub record Leaf (p : Parts) (n : ℕ) : Type 0 where
  pub face : face_of p n < p.faces
  pub plane : plane_of p n ≡ 0
  pub left : left_of p n ≡ none32
  pub right : right_of p n ≡ none32

-- node n is inner
pub record Inner (p : Parts) (n : ℕ) : Type 0 where
  pub face : face_of p n ≡ none32
  pub plane : Plane (plane_of p n)
  pub left : left_of p n < p.nodes
  pub right : right_of p n < p.nodes

-- 11 at 108: where nodes exist, the root is under the node count
abbrev pub Rooted : Parts → Type 0
Rooted p = 0 < p.nodes → p.root < p.nodes

-- 11 and 12: 2F-1 nodes (none for none), the root one of them where there are any, each node a leaf or inner
pub record SoundNodes (p : Parts) : Type 0 where
  pub count : p.nodes ≡ 2 * p.faces - 1
  pub root : Rooted p
  pub kinds : (n : ℕ) → n < p.nodes → Leaf p n ⊎ Inner p n

-- what 11 and 12 have shown when rule 13 is asked: the root is a node where there are any, children are nodes, leaves name faces
pub record Closed (p : Parts) : Type 0 where
  pub root : Rooted p
  pub left : (n : ℕ) → n < p.nodes → (nodes_of p).inner n ≡ true → left_of p n < p.nodes
  pub right : (n : ℕ) → n < p.nodes → (nodes_of p).inner n ≡ true → right_of p n < p.nodes
  pub face : (n : ℕ) → n < p.nodes → (nodes_of p).inner n ≡ false → face_of p n < p.faces
