-- What the call answers in the words of the paper, as a plain statement: no division and no test of ours in it.
use Rattle.std.specs.Prelude.{◌≡◌, ℤ, pos}
use Rattle.slope.specs.Plain.{Stands}
use Rattle.tables.specs.Parts.{Parts}
use Rattle.query.specs.declared.Point.{Point}
use Rattle.query.specs.Plain.{Says}
use Rattle.height.specs.declared.Height.{Height}
use Rattle.height.specs.Feet.{corner_of}

-- the query's part of an answer
abbrev pub point_of : Height → Point
point_of r = record { number = r.number; place = r.place; found = r.found; face = r.face; visited = r.visited }

-- what an answer that does not refuse says: what the query says of the point; where a face is found, the height of its plane there, rounded
-- down; no face, no height
pub record Feet (p : Parts) (x y : ℤ) (r : Height) : Type 0 where
  pub point : Says p x y (point_of r)
  pub stands : r.found ≡ 1 → Stands (corner_of p r.face 0) (corner_of p r.face 1) (corner_of p r.face 2) x y r.height
  pub none : r.found ≡ 0 → r.height ≡ pos 0
