-- Rings of borders: the edge list and the perimeter ends, worked out afresh. Definitions only.
use Rattle.std.specs.Prelude.{ℕ, zero, suc, ◌+◌, Bool, cond, ◌&&◌, List, [], ◌∷◌, ◌++◌, length, eqb, ltb}
use Rattle.verdict.specs.Lowest.{lowest}
use Rattle.verdict.specs.Lists.{times}
use Rattle.wire.specs.Words.{joined}

-- half-edges: how many there are, which of them are borders, and from which vertex to which each runs
pub record Web : Type 0 where
  pub halves : ℕ
  pub border : ℕ → Bool
  pub from : ℕ → ℕ
  pub to : ℕ → ℕ

-- h is a border and not yet used: l lists those used so far
unfoldable pub unused : Web → List ℕ → ℕ → Bool
unused w l h = w.border h && eqb (times h l) 0

-- .. and starts at vertex v
unfoldable pub unused_at : Web → List ℕ → ℕ → ℕ → Bool
unused_at w l v h = unused w l h && eqb (w.from h) v

-- the lowest border not yet used, or the number of half-edges where there is none
unfoldable pub first : Web → List ℕ → ℕ
first w l = lowest w.halves (unused w l)

-- the lowest unused border that starts at vertex v, or the number of half-edges where there is none
unfoldable pub onward : Web → List ℕ → ℕ → ℕ
onward w l v = lowest w.halves (unused_at w l v)

-- the ring that goes on with border h, after the borders l, and stops on first return to vertex v: at most d borders
unfoldable pub ring : Web → ℕ → ℕ → List ℕ → ℕ → List ℕ
ring w v zero l h = []
ring w v (suc d) l h =
    let used = l ++ (h ∷ []) in
    let rest = ring w v d used (onward w used (w.to h)) in
    h ∷ cond (eqb (w.to h) v) [] rest

-- the next ring starts at the lowest border not yet used
unfoldable pub next_ring : Web → List ℕ → List ℕ
next_ring w l = let h = first w l in ring w (w.from h) w.halves l h

-- the rings after the borders l, while a border is unused: at most d rings
unfoldable pub rings : Web → ℕ → List ℕ → List (List ℕ)
rings w zero l = []
rings w (suc d) l =
    let one = next_ring w l in
    let more = one ∷ rings w d (l ++ one) in
    cond (ltb (first w l) w.halves) more []

-- where each ring ends in the list of all, counted from s
unfoldable pub ends_from : ℕ → List (List ℕ) → List ℕ
ends_from s [] = []
ends_from s (r ∷ rs) = let t = s + length r in t ∷ ends_from t rs

-- all rings; the edge list; the perimeter ends
unfoldable pub all_rings : Web → List (List ℕ)
all_rings w = rings w w.halves []

unfoldable pub edge_list : Web → List ℕ
edge_list w = joined (all_rings w)

unfoldable pub end_list : Web → List ℕ
end_list w = ends_from 0 (all_rings w)
