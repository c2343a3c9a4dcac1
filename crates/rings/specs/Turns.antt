-- The rings as code makes them, a border at a time: what is so far, and how it goes on. Definitions only.
use Rattle.std.specs.Prelude.{ℕ, ◌+◌, ◌≤◌, ◌≡◌, cond, List, [], ◌++◌, length, eqb}
use Rattle.wire.specs.Words.{joined}
use Rattle.rings.specs.Rings.{Web, onward, ring, rings, ends_from, edge_list, end_list}
use Rattle.rings.specs.Heads.{InOrder}
use Rattle.rings.specs.Walk.{left, Good, Even, Off}

-- what is left of a ring from v that has come to vertex c: nothing where that is v
unfoldable pub rest : Web → ℕ → ℕ → List ℕ → ℕ → List ℕ
rest w v d l c = let more = ring w v d l (onward w l c) in cond (eqb c v) [] more

-- a ring from v has come to vertex c with the borders l, and will end with the list whole
pub record Going (w : Web) (v c : ℕ) (l whole : List ℕ) : Type 0 where
  pub fuel : ℕ
  pub few : left w l ≤ fuel
  pub room : left w l + length l ≤ w.halves
  pub off : Off w v c l
  pub good : Good w l
  pub order : InOrder w l
  pub goal : l ++ rest w v fuel l c ≡ whole

-- between two rings, with the borders l and the ends es
pub record Between (w : Web) (l es : List ℕ) : Type 0 where
  pub fuel : ℕ
  pub few : left w l ≤ fuel
  pub room : left w l + length l ≤ w.halves
  pub even : Even w l
  pub good : Good w l
  pub order : InOrder w l
  pub edges : l ++ joined (rings w fuel l) ≡ edge_list w
  pub ends : es ++ ends_from (length l) (rings w fuel l) ≡ end_list w
  pub thin : length es ≤ length l
