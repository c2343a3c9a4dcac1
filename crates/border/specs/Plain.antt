-- What rules 17 to 19 say, as plain statements with no search in them: borders in closed loops; and all of 15 to 19 together.
use Rattle.std.specs.Prelude.{ℕ, ◌+◌, ◌<◌, ◌≤◌, ◌≡◌, ◌⊎◌}
use Rattle.tables.specs.Parts.{none32, Parts, edge_of, transition, loop_end}
use Rattle.pairs.specs.Halves.{from, to}
use Rattle.pairs.specs.Plain.{Paired, Border}
use Rattle.border.specs.Loops.{loop_start}

-- half-edge h stands in exactly one edge entry
pub record OneEntry (p : Parts) (h : ℕ) : Type 0 where
  pub at : ℕ
  pub below : at < p.edges
  pub here : edge_of p at ≡ h
  pub only : (i : ℕ) → i < p.edges → edge_of p i ≡ h → i ≡ at

-- 17: the edge entries are the borders, each once
pub record Bordered (p : Parts) : Type 0 where
  pub borders : (i : ℕ) → i < p.edges → Border p (edge_of p i)
  pub once : (h : ℕ) → Border p h → OneEntry p h

-- 18: each transition is -1 to 63
pub record Linked (p : Parts) : Type 0 where
  pub each : (i : ℕ) → i < p.edges → (transition p i ≤ 63) ⊎ (transition p i ≡ none32)

-- each edge of the run from s up to t ends where the next starts, the last where the first starts
pub record ClosedChain (p : Parts) (s t : ℕ) : Type 0 where
  pub step : (i : ℕ) → s ≤ i → i + 1 < t → to p (edge_of p i) ≡ from p (edge_of p (i + 1))
  pub last : (i : ℕ) → s ≤ i → i + 1 ≡ t → to p (edge_of p i) ≡ from p (edge_of p s)

-- 19: each perimeter entry is above the one before, at most the edge count, its run a closed chain, and the last is the edge count
pub record Looped (p : Parts) : Type 0 where
  pub rising : (j : ℕ) → j < p.perimeters → loop_start p j < loop_end p j
  pub within : (j : ℕ) → j < p.perimeters → loop_end p j ≤ p.edges
  pub closed : (j : ℕ) → j < p.perimeters → ClosedChain p (loop_start p j) (loop_end p j)
  pub full : loop_start p p.perimeters ≡ p.edges

-- 15 to 19
pub record SoundBorders (p : Parts) : Type 0 where
  pub paired : Paired p
  pub bordered : Bordered p
  pub transitions : Linked p
  pub looped : Looped p

-- edge entry i lies in exactly one loop
pub record OneLoop (p : Parts) (i : ℕ) : Type 0 where
  pub at : ℕ
  pub below : at < p.perimeters
  pub after : loop_start p at ≤ i
  pub before : i < loop_end p at
  pub only : (j : ℕ) → j < p.perimeters → loop_start p j ≤ i → i < loop_end p j → j ≡ at

-- half-edge h stands in exactly one edge entry, and that lies in exactly one loop
pub record Placed (p : Parts) (h : ℕ) : Type 0 where
  pub entry : OneEntry p h
  pub ring : OneLoop p entry.at
