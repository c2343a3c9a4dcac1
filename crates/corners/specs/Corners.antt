-- Mended corners (M-109): each corner number becomes the lowest vertex with equal coordinates by float comparison. Definitions only.
use Rattle.std.specs.Prelude.{ℕ, Bool, List, [], ◌∷◌, map}
use Rattle.std.specs.Float.Ieee.{eq, of_bits}
use Rattle.std.specs.Float.{binary32}
use Rattle.verdict.specs.Lowest.{lowest, all_under}
use Rattle.tables.specs.Parts.{Parts, table_of, vertex_word}

-- coordinate e of vertices u and v is equal by float comparison: minus zero equals zero
unfoldable pub level : Parts → ℕ → ℕ → ℕ → Bool
level p u v e = eq (of_bits binary32 (vertex_word p u e)) (of_bits binary32 (vertex_word p v e))

-- vertices u and v have equal coordinates
unfoldable pub same_point : Parts → ℕ → ℕ → Bool
same_point p u v = all_under 3 (level p u v)

-- the lowest vertex with the coordinates of vertex v
unfoldable pub lowest_same : Parts → ℕ → ℕ
lowest_same p v = lowest p.vertices (same_point p v)

-- the parts with these corners, adjacency, edge entries and perimeter entries; all else stays
unfoldable pub relinked : Parts → List ℕ → List ℕ → ℕ → List ℕ → ℕ → List ℕ → Parts
relinked p corners adjacent edges entries perimeters ends = record {
  floats = p.floats;
  vertices = p.vertices;
  faces = p.faces;
  nodes = p.nodes;
  root = p.root;
  adjacency = p.adjacency;
  edges = edges;
  perimeters = perimeters;
  tables = table_of p 0 ∷ corners ∷ table_of p 2 ∷ table_of p 3 ∷ table_of p 4 ∷ table_of p 5 ∷ adjacent ∷ entries ∷ ends ∷ [];
}

-- every corner, walkable face or not
unfoldable pub mended_corners : Parts → List ℕ
mended_corners p = map (lowest_same p) (table_of p 1)

-- the floor with the changed corners, and nothing else changed
unfoldable pub recornered : Parts → Parts
recornered p = relinked p (mended_corners p) (table_of p 6) p.edges (table_of p 7) p.perimeters (table_of p 8)
