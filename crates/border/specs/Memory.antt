-- Marks for rule 17: the work memory in which the borders of edge entries are marked, and what the marks say. Definitions only.
use Rattle.std.specs.Prelude.{ℕ, zero, suc, Bool, not, ◌&&◌, ◌||◌, List, set}
use Rattle.verdict.specs.Memory.{is_marked}
use Rattle.tables.specs.Parts.{Parts, edge_of}
use Rattle.pairs.specs.Halves.{border}

-- a memory in which the half-edges of the first n edge entries are marked
unfoldable pub marks_of : Parts → ℕ → List ℕ → List ℕ
marks_of p zero w = w
marks_of p (suc n) w = set (marks_of p n w) (edge_of p n) 1

-- edge entry i is no border, or is marked already
unfoldable pub wrong_by : Parts → List ℕ → ℕ → Bool
wrong_by p w i = not (border p (edge_of p i)) || is_marked w (edge_of p i)

-- half-edge h is a border without a mark
unfoldable pub unmarked : Parts → List ℕ → ℕ → Bool
unmarked p w h = border p h && not (is_marked w h)
