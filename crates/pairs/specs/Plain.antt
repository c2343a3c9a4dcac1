-- What rules 15 and 16 say, as plain statements with no search in them: neighbours paired, and what a border is.
use Rattle.std.specs.Prelude.{ℕ, ◌<◌, ◌≡◌}
use Rattle.tables.specs.Parts.{none32, Parts, adjacent_to}
use Rattle.pairs.specs.Halves.{halves, from, to}

-- g and h run opposite ways between the same two vertex numbers: they are partners
pub record Opposite (p : Parts) (g h : ℕ) : Type 0 where
  pub there : from p g ≡ to p h
  pub back : to p g ≡ from p h

-- no half-edge of a walkable face is a partner of h
pub record Alone (p : Parts) (h : ℕ) : Type 0 where
  pub none : (g : ℕ) → g < halves p → Opposite p g h → ⊥

-- 15: no two half-edges run the same way
pub record Apart (p : Parts) : Type 0 where
  pub same : (g h : ℕ) → g < halves p → h < halves p → from p g ≡ from p h → to p g ≡ to p h → g ≡ h

-- 15 and 16: adjacency entry h is the partner's number, else -1
pub record Paired (p : Parts) : Type 0 where
  pub apart : Apart p
  pub linked : (g h : ℕ) → g < halves p → h < halves p → Opposite p g h → adjacent_to p h ≡ g
  pub alone : (h : ℕ) → h < halves p → Alone p h → adjacent_to p h ≡ none32

-- a half-edge of a walkable face without partner is a border
pub record Border (p : Parts) (h : ℕ) : Type 0 where
  pub inside : h < halves p
  pub alone : Alone p h
