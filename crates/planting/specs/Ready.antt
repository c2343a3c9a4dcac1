-- What is asked of a file and of an output before the nodes of a range are written. Definitions only.
use Rattle.std.specs.Prelude.{ℕ, ◌+◌, ◌*◌, ◌-◌, ◌≤◌, List, length}
use Rattle.tables.specs.Header.{RightHeader}
use Rattle.tables.specs.Parts.{parts_of}
use Rattle.mesh.specs.Mesh.{Finite, Cornered}

-- rules 1 to 8 are met
pub record Ready (b : List ℕ) : Type 0 where
  pub right : RightHeader b
  pub finite : Finite (parts_of b)
  pub cornered : Cornered (parts_of b)

-- b has n faces from face `from` on, and out has room for their nodes, from node `at` of a table that starts at `start`
pub record Range (b out : List ℕ) (start from n at : ℕ) : Type 0 where
  pub some : 1 ≤ n
  pub faces : from + n ≤ (parts_of b).faces
  pub few : from + n ≤ 4096
  pub nodes : at + (2 * n - 1) ≤ 8191
  pub room : start + 44 * (at + (2 * n - 1)) ≤ length out
