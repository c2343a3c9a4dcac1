-- The answer to a point query: the lowest face of all that holds the point, and the number of nodes visited. Definitions only.
use Rattle.std.specs.Prelude.{ℕ, ◌<◌, ◌≡◌, Bool, false, cond, List, ℤ, ltb}
use Rattle.verdict.specs.Lists.{bit}
use Rattle.verdict.specs.Lowest.{lowest}
use Rattle.verdict.specs.Verdict.{if_accepted}
use Rattle.verdict.specs.declared.Answer.{Answer}
use Rattle.wire.specs.Signed.{Within}
use Rattle.grid.specs.Grid.{scaled, grid_float}
use Rattle.boxes.specs.Box.{holds_xy}
use Rattle.triangle.specs.Triangle.{in_triangle}
use Rattle.tables.specs.Parts.{Parts, parts_of, corner}
use Rattle.nodes.specs.Nodes.{nodes_of}
use Rattle.tree.specs.Boxes.{box_of, vertex_float}
use Rattle.tree.specs.Visits.{visited_count}
use Rattle.floor.specs.Accepted.{Accepted}
use Rattle.query.specs.declared.Point.{Point}
use Rattle.query.specs.declared.Spot.{Spot}
use Rattle.query.specs.Rules.{off_grid, query_verdict}

-- coordinate e (0: x, 1: y) of corner c of face f in sixty-fourths
unfoldable pub corner_at : Parts → ℕ → ℕ → ℕ → ℤ
corner_at p f c e = scaled (vertex_float p (corner p f c) e)

-- face f holds the point if, seen from above, its triangle does, border included; a face with no area from above holds none
unfoldable pub face_holds : Parts → ℤ → ℤ → ℕ → Bool
face_holds p x y f =
    in_triangle (corner_at p f 0 0) (corner_at p f 0 1) (corner_at p f 1 0) (corner_at p f 1 1) (corner_at p f 2 0) (corner_at p f 2 1) x y

-- node n's box holds x and y
unfoldable pub box_holds : Parts → ℤ → ℤ → ℕ → Bool
box_holds p x y n = holds_xy (box_of p n) (grid_float x) (grid_float y)

-- the lowest face, of all, that holds the point, or the number of faces where none does
unfoldable pub lowest_face : Parts → ℤ → ℤ → ℕ
lowest_face p x y = lowest p.faces (face_holds p x y)

-- the number of nodes visited: the root, and every node all of whose ancestors' boxes hold x and y
unfoldable pub visited_nodes : Parts → ℤ → ℤ → ℕ
visited_nodes p x y = visited_count (nodes_of p) (box_holds p x y) p.root p.nodes

-- an answer: number, place, whether a face was found, the face (0 where none), the nodes visited; the last three are 0 on refusal.
-- `face` is the lowest face, or the number of faces where there is none
unfoldable pub reply_of : Answer → ℕ → ℕ → ℕ → Point
reply_of a face faces visited = record {
  number = a.number;
  place = a.place;
  found = if_accepted a (bit (ltb face faces));
  face = if_accepted a (cond (ltb face faces) face 0);
  visited = if_accepted a visited;
}

unfoldable pub point_of : Answer → Parts → ℤ → ℤ → Point
point_of a p x y = reply_of a (lowest_face p x y) p.faces (visited_nodes p x y)

unfoldable pub point_answer : List ℕ → ℕ → ℤ → ℤ → Point
point_answer b room x y = point_of (query_verdict b room x y) (parts_of b) x y

-- ---- what the walk goes by

-- an accepted floor with every vertex on the grid
pub record Ready (b : List ℕ) : Type 0 where
  pub floor : Accepted b
  pub grid : (v : ℕ) → v < (parts_of b).vertices → off_grid (parts_of b) v ≡ false

-- a point within reach, with its floats
pub record Placed (s : Spot) : Type 0 where
  pub x : Within 65536 s.x
  pub y : Within 65536 s.y
  pub fx : s.fx ≡ grid_float s.x
  pub fy : s.fy ≡ grid_float s.y
