-- The query's answer in the words of the paper, as plain statements: no search and no test of ours in them.
use Rattle.std.specs.Prelude.{ℕ, ◌<◌, ◌≤◌, ◌≡◌, ◌⊎◌, ◌≢◌, Bool, true, List, ◌∷◌, length, ℤ, pos, nat_abs}
use Rattle.std.proofs.Math.Option.{some}
use Rattle.verdict.specs.Lists.{times}
use Rattle.verdict.specs.Memory.{work_size}
use Rattle.std.specs.Float.Ieee.{le}
use Rattle.grid.specs.Grid.{grid_float}
use Rattle.grid.specs.Plain.{OnGrid}
use Rattle.triangle.specs.Triangle.{cross}
use Rattle.triangle.specs.Weighted.{Weighted}
use Rattle.tables.specs.Parts.{Parts, parts_of}
use Rattle.nodes.specs.Nodes.{Nodes, nodes_of}
use Rattle.tree.specs.Boxes.{box_of, vertex_float}
use Rattle.tree.specs.Plain.{follow}
use Rattle.floor.specs.Sound.{Sound}
use Rattle.query.specs.declared.Point.{Point}
use Rattle.query.specs.Points.{corner_at}

-- what is not refused: enough work memory, a sound floor, x and y within ±65,536, every coordinate of every vertex on the grid
pub record Askable (b : List ℕ) (size : ℕ) (x y : ℤ) : Type 0 where
  pub room : work_size ≤ size
  pub floor : Sound b
  pub near_x : nat_abs x ≤ 65536
  pub near_y : nat_abs y ≤ 65536
  pub grid : (v e : ℕ) → v < (parts_of b).vertices → e < 3 → OnGrid (vertex_float (parts_of b) v e)

-- face f holds the point: seen from above it has an area, and the point is a weighted mean of its three corners, border included
pub record Holds (p : Parts) (x y : ℤ) (f : ℕ) : Type 0 where
  pub area : cross (corner_at p f 0 0) (corner_at p f 0 1) (corner_at p f 1 0) (corner_at p f 1 1) (corner_at p f 2 0) (corner_at p f 2 1) ≢ pos 0
  pub mean : Weighted (corner_at p f 0 0) (corner_at p f 0 1) (corner_at p f 1 0) (corner_at p f 1 1) (corner_at p f 2 0) (corner_at p f 2 1) x y

-- f is the lowest of all faces that hold the point
pub record LowestHolding (p : Parts) (x y : ℤ) (f : ℕ) : Type 0 where
  pub under : f < p.faces
  pub holds : Holds p x y f
  pub first : (g : ℕ) → g < f → Holds p x y g → ⊥

-- node n's box holds x and y: each lies between the box's ends, ends included, by plain float comparison
pub record BoxHolds (p : Parts) (x y : ℤ) (n : ℕ) : Type 0 where
  pub least_x : le (box_of p n).least_x (grid_float x) ≡ true
  pub greatest_x : le (grid_float x) (box_of p n).greatest_x ≡ true
  pub least_y : le (box_of p n).least_y (grid_float y) ≡ true
  pub greatest_y : le (grid_float y) (box_of p n).greatest_y ≡ true

-- m is an ancestor of n: a path of at least one step leads from m to n
pub record Ancestor (t : Nodes) (m n : ℕ) : Type 0 where
  pub first : Bool
  pub rest : List Bool
  pub leads : follow t (first ∷ rest) m ≡ some n

-- a node visited: the root, or one all of whose ancestors' boxes hold x and y
abbrev pub Visited : Parts → ℤ → ℤ → ℕ → Type 0
Visited p x y n = (n ≡ p.root) ⊎ ((m : ℕ) → m < p.nodes → Ancestor (nodes_of p) m n → BoxHolds p x y m)

-- k is how many numbers under n have a property: they stand in a list, each once and no other, that is k long
pub record HowMany (n : ℕ) (P : ℕ → Type 0) (k : ℕ) : Type 0 where
  pub them : List ℕ
  pub long : length them ≡ k
  pub once : (i : ℕ) → times i them ≤ 1
  pub all : (i : ℕ) → i < n → P i → 0 < times i them
  pub only : (i : ℕ) → 0 < times i them → (i < n) × P i

-- what an answer that does not refuse says
pub record Says (p : Parts) (x y : ℤ) (r : Point) : Type 0 where
  pub one : (r.found ≡ 0) ⊎ (r.found ≡ 1)
  pub found : r.found ≡ 1 → LowestHolding p x y r.face
  pub none : r.found ≡ 0 → (r.face ≡ 0) × ((f : ℕ) → f < p.faces → Holds p x y f → ⊥)
  pub visited : HowMany p.nodes (Visited p x y) r.visited
