-- Laws of rule 8's test of one corner. Assumes nothing.
use mathlib.Core.Path.{◌≡◌}
use mathlib.Core.Bool.{true}
use Prim.Native.Nat.{ℕ, ◌+◌, ◌%◌, ◌≤◌, ◌<◌}
use lib.Dec.{eqb}
use borrow.Author.Tests.{le-leb, lt-leb}
use Rattle.tables.specs.Parts.{Parts, corner}
use Rattle.mesh.specs.Faces.{wrong_corner}

module _ (p : Parts) (f e : ℕ) where
  pub too_large : p.vertices ≤ corner p f e → true ≡ wrong_corner p f e
  unfolding wrong_corner
  too_large h = rw (le-leb p.vertices (corner p f e) h)

  pub by_next : corner p f e < p.vertices → eqb (corner p f e) (corner p f ((e + 1) % 3)) ≡ wrong_corner p f e
  unfolding wrong_corner
  by_next h = rw (lt-leb p.vertices (corner p f e) h)
