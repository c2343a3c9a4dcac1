-- What the work memory holds on the way: vertices mapped up to one, half-edges' numbers kept up to one, and both at the end. Definitions only.
use Rattle.std.specs.Prelude.{ℕ, ◌*◌, ◌<◌, ◌≤◌, ◌≡◌, true, false, List}
use Rattle.wire.specs.Bytes.{u16_at}
use Rattle.chains.specs.Chains.{Chained}
use Rattle.tables.specs.Parts.{Parts}
use Rattle.pairs.specs.Halves.{border, partner}
use Rattle.corners.specs.Corners.{lowest_same, recornered}
use Rattle.corners.specs.Memory.{top, Mapped, mate_place, loose, Mated}
use Rattle.mates.specs.Keys.{point_chains, point_key}

-- the vertices under s stand in their chains, and the map has the lowest equal vertex of each
pub record MappedTo (p : Parts) (w : List ℕ) (s : ℕ) : Type 0 where
  pub chained : Chained point_chains (point_key p) w s
  pub at : (v : ℕ) → v < s → u16_at (top w) (2 * v) ≡ lowest_same p v

-- m is what is kept of half-edge h: its partner's number, or one that says that it is a border
pub record IsMate (q : Parts) (h m : ℕ) : Type 0 where
  pub paired : border q h ≡ false → m ≡ partner q h
  pub alone : border q h ≡ true → loose ≤ m
  pub small : m < 65536

-- it is kept of each half-edge under s
pub record MatedTo (q : Parts) (w : List ℕ) (s : ℕ) : Type 0 where
  pub at : (h : ℕ) → h < s → IsMate q h (u16_at w (mate_place h))

-- the map of vertices stands in the memory, and what is kept of the half-edges with the changed corners
pub record Ready (p : Parts) (w : List ℕ) : Type 0 where
  pub mapped : Mapped p (top w)
  pub mated : Mated (recornered p) w
