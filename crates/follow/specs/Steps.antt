-- What each function goes by and leaves in the work memory. Definitions only.
use Rattle.std.specs.Prelude.{ℕ, ◌+◌, ◌-◌, ◌<◌, ◌≤◌, ◌≡◌, true, false, ◌&&◌, List, [], ◌∷◌, ◌++◌, length, eqb, leb}
use Rattle.verdict.specs.Lowest.{lowest}
use Rattle.wire.specs.Bytes.{u16_at}
use Rattle.rings.specs.Rings.{Web, unused, next_ring}
use Rattle.rings.specs.Heads.{next, Heads, InOrder, AtHead}
use Rattle.rings.specs.Turns.{Between}
use Rattle.follow.specs.Memory.{most_vertices, most_halves, edge_place, head_in, link_in, mark, edges_in, ends_in, SameMates}

-- as many half-edges and vertices as the memory has room for
pub record Small (w : Web) : Type 0 where
  pub few : w.halves ≤ most_halves
  pub start : (h : ℕ) → h < w.halves → w.from h < most_vertices
  pub finish : (h : ℕ) → h < w.halves → w.to h < most_vertices

-- the lowest border from s on that starts at vertex v
unfoldable pub from_on : Web → ℕ → ℕ → ℕ
from_on w s v = lowest w.halves (λ g. leb s g && (w.border g && eqb (w.from g) v))

-- the borders from s on are chained
pub record Chained (w : Web) (m : List ℕ) (s : ℕ) : Type 0 where
  pub heads : (v : ℕ) → v < most_vertices → head_in m v ≡ from_on w s v
  pub links : (h : ℕ) → s ≤ h → h < w.halves → w.border h ≡ true → link_in m h ≡ next w h

-- the memory holds the chains as they are after the borders l
abbrev pub Held : Web → List ℕ → List ℕ → Type 0
Held w m l = Heads w most_vertices l (head_in m) (link_in m)

-- border h is the next to be put, at place i of the edges
pub record Due (w : Web) (m : List ℕ) (i h : ℕ) : Type 0 where
  pub held : Held w m (edges_in m i)
  pub order : InOrder w (edges_in m i)
  pub head : AtHead w (edges_in m i) h
  pub room : i < most_halves

-- there are edges, and the last of the first n is not marked
pub record Unmarked (m : List ℕ) (n : ℕ) : Type 0 where
  pub some : 0 < n
  pub plain : u16_at m (edge_place (n - 1)) < mark

-- border h was put at place i of the edges, and its vertex's head moved on
pub record Stepped (w : Web) (m k : List ℕ) (i h : ℕ) : Type 0 where
  pub before : edges_in k i ≡ edges_in m i
  pub list : edges_in k (i + 1) ≡ edges_in m i ++ (h ∷ [])
  pub ends : ends_in k (i + 1) ≡ ends_in m i
  pub last : Unmarked k (i + 1)
  pub held : Held w k (edges_in k (i + 1))
  pub same : SameMates k m

-- the next ring was put behind the first i edges, its end not yet marked: they are n then
pub record Rung (w : Web) (m k : List ℕ) (i n : ℕ) : Type 0 where
  pub list : edges_in k n ≡ edges_in m i ++ next_ring w (edges_in m i)
  pub ends : ends_in k n ≡ ends_in m i
  pub last : Unmarked k n
  pub held : Held w k (edges_in k n)
  pub order : InOrder w (edges_in k n)
  pub within : n ≤ most_halves
  pub same : SameMates k m

-- all rings that start under c are in the memory: i edges and j ends
pub record Passed (w : Web) (m : List ℕ) (i j c : ℕ) : Type 0 where
  pub between : Between w (edges_in m i) (ends_in m i)
  pub count : j ≡ length (ends_in m i)
  pub held : Held w m (edges_in m i)
  pub used : (h : ℕ) → h < c → unused w (edges_in m i) h ≡ false
