-- What is said of boxes: of both ends on each axis, and of the corners of a face. Definitions only.
use Rattle.std.specs.Prelude.{ℕ, ◌≡◌, true, T, Float}
use Rattle.std.specs.Float.Ieee.{fits}
use Rattle.std.specs.Float.{binary32}
use Rattle.grid.specs.Grid.{finite}
use Rattle.boxes.specs.declared.Box.{Box}
use Rattle.boxes.specs.Plain.{HoldsPoint}
use Rattle.tables.specs.Parts.{Parts, corner}
use Rattle.tree.specs.Boxes.{vertex_float}

-- something holds of both ends of a box on each axis
pub record Sides (P : ℕ → Float → Type 0) (b : Box) : Type 0 where
  pub least_x : P 0 b.least_x
  pub least_y : P 1 b.least_y
  pub least_z : P 2 b.least_z
  pub greatest_x : P 0 b.greatest_x
  pub greatest_y : P 1 b.greatest_y
  pub greatest_z : P 2 b.greatest_z

-- a finite float of 32 bits, on whichever axis
pub record Good (c : ℕ) (x : Float) : Type 0 where
  pub finite : finite x ≡ true
  pub fits : T (fits binary32 x)

-- a box holds corner e of face f
abbrev pub HoldsCorner : Parts → Box → ℕ → ℕ → Type 0
HoldsCorner p b f e = HoldsPoint b (vertex_float p (corner p f e) 0) (vertex_float p (corner p f e) 1) (vertex_float p (corner p f e) 2)
