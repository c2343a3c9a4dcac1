-- Cases by computation: W5 and W6 of document 01, two triangles at one vertex, and no face at all. Assumes nothing.
use Prim.Native.Nat.{ℕ}
use mathlib.Core.Path.{◌≡◌, refl}
use mathlib.Core.List.{List, [], ◌∷◌}
use Rattle.verdict.specs.Lowest.{lowest}
use Rattle.verdict.specs.Lists.{times}
use Rattle.wire.specs.Words.{joined}
use Rattle.tables.specs.Parts.{Parts, word_of}
use Rattle.pairs.specs.Halves.{from, to, runs, partner, border}
use Rattle.rings.specs.Rings.{unused, unused_at, first, onward, ring, next_ring, rings, ends_from, all_rings, edge_list, end_list}
use Rattle.rings.specs.Afresh.{web_of}

-- parts with these walkable faces and nothing else
corners_only : ℕ → List ℕ → Parts
corners_only n c = record {
  floats = [];
  vertices = 5;
  faces = n;
  nodes = 0;
  root = 0;
  adjacency = n;
  edges = 0;
  perimeters = 0;
  tables = [] ∷ c ∷ [];
}

two : Parts
two = corners_only 2 (0 ∷ 1 ∷ 2 ∷ 2 ∷ 1 ∷ 3 ∷ [])

w5w6 : (edge_list (web_of two) ≡ 0 ∷ 4 ∷ 5 ∷ 2 ∷ []) × (end_list (web_of two) ≡ 4 ∷ [])
unfolding edge_list end_list all_rings rings next_ring ring joined ends_from first onward unused unused_at times lowest from to runs partner border word_of two corners_only
w5w6 = (refl, refl)

bowtie : Parts
bowtie = corners_only 2 (0 ∷ 1 ∷ 2 ∷ 0 ∷ 3 ∷ 4 ∷ [])

at_one_vertex : (edge_list (web_of bowtie) ≡ 0 ∷ 1 ∷ 2 ∷ 3 ∷ 4 ∷ 5 ∷ []) × (end_list (web_of bowtie) ≡ 3 ∷ 6 ∷ [])
unfolding edge_list end_list all_rings rings next_ring ring joined ends_from first onward unused unused_at times lowest from to runs partner border word_of bowtie corners_only
at_one_vertex = (refl, refl)

none : Parts
none = corners_only 0 []

no_face : (edge_list (web_of none) ≡ []) × (end_list (web_of none) ≡ [])
unfolding edge_list end_list all_rings rings next_ring joined ends_from none corners_only
no_face = (refl, refl)
