-- What mending a floor keeps and what it gives, as plain statements over the parts as they were and as they are: no search in them.
-- Definitions only.
use Rattle.std.specs.Prelude.{ℕ, ◌<◌, ◌≤◌, ◌≡◌, true, ◌⊎◌, List, ◌++◌}
use Rattle.std.specs.Float.Ieee.{eq, of_bits}
use Rattle.std.specs.Float.{binary32}
use Rattle.tables.specs.Parts.{Parts, table_of, vertex_word, corner, edge_of, transition}
use Rattle.pairs.specs.Halves.{halves}
use Rattle.seams.specs.Mended.{mended}
use Rattle.seams.specs.Changes.{lost_record, changes}

-- vertices u and v have equal coordinates, by float comparison
pub record SamePlace (p : Parts) (u v : ℕ) : Type 0 where
  pub x : eq (of_bits binary32 (vertex_word p u 0)) (of_bits binary32 (vertex_word p v 0)) ≡ true
  pub y : eq (of_bits binary32 (vertex_word p u 1)) (of_bits binary32 (vertex_word p v 1)) ≡ true
  pub z : eq (of_bits binary32 (vertex_word p u 2)) (of_bits binary32 (vertex_word p v 2)) ≡ true

-- m is p mended: what stays ..
pub record Stays (p m : Parts) : Type 0 where
  pub floats : m.floats ≡ p.floats
  pub vertices : m.vertices ≡ p.vertices
  pub faces : m.faces ≡ p.faces
  pub nodes : m.nodes ≡ p.nodes
  pub root : m.root ≡ p.root
  pub adjacency : m.adjacency ≡ p.adjacency
  pub vertex_table : table_of m 0 ≡ table_of p 0
  pub materials : table_of m 2 ≡ table_of p 2
  pub normals : table_of m 3 ≡ table_of p 3
  pub distances : table_of m 4 ≡ table_of p 4
  pub node_table : table_of m 5 ≡ table_of p 5

-- .. and what is so of the corners: each has the coordinates of the old one and is the lowest such vertex, so no two with equal
-- coordinates have different numbers
pub record Sewn (p m : Parts) : Type 0 where
  pub place : (f e : ℕ) → f < p.faces → e < 3 → SamePlace p (corner p f e) (corner m f e)
  pub lowest : (f e v : ℕ) → f < p.faces → e < 3 → v < p.vertices → SamePlace p (corner p f e) v → corner m f e ≤ v
  pub one : (f e g d : ℕ) → f < m.faces → e < 3 → g < m.faces → d < 3 → SamePlace m (corner m f e) (corner m g d) → corner m f e ≡ corner m g d

-- entry i of p is valid: it names a walkable half-edge and has a transition that 18 allows; here one of 0 or more
pub record Leads (p : Parts) (i : ℕ) : Type 0 where
  pub entry : i < p.edges
  pub walkable : edge_of p i < halves p
  pub room : transition p i ≤ 63

-- half-edge h has an edge in m with transition t
pub record HasEdge (m : Parts) (h t : ℕ) : Type 0 where
  pub at : ℕ
  pub inside : at < m.edges
  pub half : edge_of m at ≡ h
  pub leads : transition m at ≡ t

-- a part stands in a list, whatever stands before and behind it
pub record PartOf (part whole : List ℕ) : Type 0 where
  pub before : List ℕ
  pub behind : List ℕ
  pub is : whole ≡ before ++ (part ++ behind)

-- a transition of 0 or more in a valid entry is kept or listed, never lost silently
abbrev pub KeptOrListed : Parts → Type 0
KeptOrListed p = (i : ℕ) → Leads p i → HasEdge (mended p) (edge_of p i) (transition p i) ⊎ PartOf (lost_record (edge_of p i)) (changes p)
