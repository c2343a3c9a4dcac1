-- What the work memory holds while a floor is mended: the map of vertices at its end, and before it what is known of each half-edge.
-- No rule speaks of it. Definitions only.
use Rattle.std.specs.Prelude.{ℕ, ◌+◌, ◌*◌, ◌<◌, ◌≤◌, ◌≡◌, true, false, List, drop}
use Rattle.wire.specs.Bytes.{u16_at}
use Rattle.tables.specs.Parts.{Parts}
use Rattle.pairs.specs.Halves.{halves, border, partner}
use Rattle.corners.specs.Corners.{lowest_same}

-- where the map of vertices starts: the last 8,192 bytes of the work memory
abbrev pub map_at : ℕ
map_at = 57344

-- the map and all that lies past it; and that it is the same in two memories
unfoldable pub top : List ℕ → List ℕ
top w = drop map_at w

abbrev pub SameTop : List ℕ → List ℕ → Type 0
SameTop v w = top v ≡ top w

-- number v of the map is the lowest vertex with the coordinates of vertex v
pub record Mapped (p : Parts) (t : List ℕ) : Type 0 where
  pub at : (v : ℕ) → v < p.vertices → u16_at t (2 * v) ≡ lowest_same p v

-- where the number kept of half-edge h stands
abbrev pub mates_at : ℕ
mates_at = 32768

abbrev pub mate_place : ℕ → ℕ
mate_place h = mates_at + 2 * h

-- numbers from here on are a border's
abbrev pub loose : ℕ
loose = 32768

-- the number kept of a half-edge is its partner's; a border's says that it is one
pub record Mated (q : Parts) (w : List ℕ) : Type 0 where
  pub partners : (h : ℕ) → h < halves q → border q h ≡ false → u16_at w (mate_place h) ≡ partner q h
  pub borders : (h : ℕ) → h < halves q → border q h ≡ true → loose ≤ u16_at w (mate_place h)
