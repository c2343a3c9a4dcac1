-- Where the work memory has the heads of the chains and the edges of the rings, and what is read there. No rule speaks of it. Definitions only.
use Rattle.std.specs.Prelude.{ℕ, zero, suc, ◌+◌, ◌*◌, ◌-◌, ◌%◌, ◌≡◌, cond, List, [], ◌∷◌, ◌++◌, drop, leb}
use Rattle.wire.specs.Bytes.{u16_at}
use Rattle.corners.specs.Memory.{mates_at, mate_place, loose}

-- there is room for so many vertices and half-edges
abbrev pub most_vertices : ℕ
most_vertices = 4096

abbrev pub most_halves : ℕ
most_halves = 12288

-- where the head of vertex v stands, and behind all heads edge i
abbrev pub head_place : ℕ → ℕ
head_place v = 2 * v

abbrev pub edges_at : ℕ
edges_at = 8192

abbrev pub edge_place : ℕ → ℕ
edge_place i = edges_at + 2 * i

-- the head of vertex v's chain of borders, and the one behind border h in its chain
abbrev pub head_in : List ℕ → ℕ → ℕ
head_in m v = u16_at m (head_place v)

abbrev pub link_in : List ℕ → ℕ → ℕ
link_in m h = u16_at m (mate_place h) - loose

-- the last edge of a ring is marked: so much is added to its number
abbrev pub mark : ℕ
mark = 32768

-- the first n edges
unfoldable pub edges_in : List ℕ → ℕ → List ℕ
edges_in m zero = []
edges_in m (suc n) = edges_in m n ++ (u16_at m (edge_place n) % mark ∷ [])

-- where rings end among them: behind each edge that is marked
unfoldable pub ends_in : List ℕ → ℕ → List ℕ
ends_in m zero = []
ends_in m (suc n) = ends_in m n ++ cond (leb mark (u16_at m (edge_place n))) (suc n ∷ []) []

-- what is kept of half-edges, the map, and all that lies past it; and that it is the same in two memories
unfoldable pub mates : List ℕ → List ℕ
mates m = drop mates_at m

abbrev pub SameMates : List ℕ → List ℕ → Type 0
SameMates k m = mates k ≡ mates m
