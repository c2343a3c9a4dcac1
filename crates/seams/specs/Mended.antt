-- A floor's parts, mended (M-109): corners that are stored twice become one, and adjacency, edges and perimeters are worked out afresh.
-- Definitions only.
use Rattle.std.specs.Prelude.{ℕ, zero, suc, List, [], ◌∷◌, ◌++◌, map, length}
use Rattle.wire.specs.Words.{joined}
use Rattle.tables.specs.Parts.{Parts}
use Rattle.pairs.specs.Halves.{halves, pairing}
use Rattle.corners.specs.Corners.{relinked, mended_corners, recornered}
use Rattle.rings.specs.Rings.{edge_list, end_list}
use Rattle.rings.specs.Afresh.{web_of}
use Rattle.kept.specs.Kept.{kept}

-- what is listed for 0, for 1, .. for each number under n, one after another
unfoldable pub each : ℕ → (ℕ → List ℕ) → List ℕ
each zero f = []
each (suc n) f = each n f ++ f n

-- adjacency entry h is the partner's number, else -1, for each walkable half-edge
unfoldable pub adjacency_of : Parts → List ℕ
adjacency_of q = each (halves q) (λ h. pairing q h ∷ [])

-- the entries of these edges: each half-edge with the transition that it keeps by the old entries
unfoldable pub entries_for : Parts → List ℕ → List ℕ
entries_for p edges = joined (map (λ h. h ∷ kept p h ∷ []) edges)

-- the mended floor: q is the floor with the changed corners, whose loops these are
unfoldable pub mended : Parts → Parts
mended p =
    let q = recornered p in
    relinked p (mended_corners p) (adjacency_of q) (length (edge_list (web_of q))) (entries_for p (edge_list (web_of q))) (length (end_list (web_of q))) (end_list (web_of q))
