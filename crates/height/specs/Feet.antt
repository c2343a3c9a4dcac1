-- Where the feet stand: the query's answer, and the height of the face that it found. Definitions only.
use Rattle.std.specs.Prelude.{ℕ, cond, List, eqb, ℤ, pos}
use Rattle.slope.specs.declared.Corner.{Corner}
use Rattle.slope.specs.Height.{height_at}
use Rattle.tables.specs.Parts.{Parts, parts_of}
use Rattle.query.specs.declared.Point.{Point}
use Rattle.query.specs.Points.{corner_at, point_answer}
use Rattle.height.specs.declared.Height.{Height}

-- corner c of face f, in sixty-fourths
unfoldable pub corner_of : Parts → ℕ → ℕ → Corner
corner_of p f c = record { x = corner_at p f c 0; y = corner_at p f c 1; z = corner_at p f c 2 }

-- the height of face f's plane over x, y, rounded down
unfoldable pub height_on : Parts → ℕ → ℤ → ℤ → ℤ
height_on p f x y = height_at (corner_of p f 0) (corner_of p f 1) (corner_of p f 2) x y

-- an answer: all as the query has it, and a height
unfoldable pub with_height : Point → ℤ → Height
with_height q h = record { number = q.number; place = q.place; found = q.found; face = q.face; visited = q.visited; height = h }

-- no face, no height
unfoldable pub standing : Parts → ℤ → ℤ → Point → Height
standing p x y q = with_height q (cond (eqb q.found 0) (pos 0) (height_on p q.face x y))

unfoldable pub height_answer : List ℕ → ℕ → ℤ → ℤ → Height
height_answer b size x y = standing (parts_of b) x y (point_answer b size x y)
