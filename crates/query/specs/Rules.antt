-- Rules 29 and 30 of the point query, and its refusals in order. A query's x and y are whole numbers of sixty-fourths. Definitions only.
use Rattle.std.specs.Prelude.{ℕ, Bool, not, ◌&&◌, List, [], ◌∷◌, ◌++◌, ℤ}
use Rattle.verdict.specs.Verdict.{rule, rule_of_each, in_order}
use Rattle.verdict.specs.declared.Answer.{Answer}
use Rattle.grid.specs.Grid.{on_grid, within}
use Rattle.tables.specs.Parts.{Parts, parts_of}
use Rattle.tree.specs.Boxes.{vertex_float}
use Rattle.floor.specs.Reader.{reader_rules}

-- 29: x or y beyond ±65,536 (in sixty-fourths)
unfoldable pub rule29 : ℤ → ℤ → Answer
rule29 x y = rule 29 (not (within 65536 x && within 65536 y)) 0

-- a vertex off the grid: not each of its coordinates, 64 times, is a whole number within ±65,536
unfoldable pub off_grid : Parts → ℕ → Bool
off_grid p v = not (on_grid (vertex_float p v 0) && on_grid (vertex_float p v 1) && on_grid (vertex_float p v 2))

-- 30: a vertex off the grid; place the lowest
unfoldable pub rule30 : Parts → Answer
rule30 p = rule_of_each 30 p.vertices (off_grid p) (λ v. v)

-- the query's refusals, in order: the reader's, then 29, then 30
unfoldable pub query_rules : List ℕ → ℕ → ℤ → ℤ → List Answer
query_rules b room x y = reader_rules b room ++ (rule29 x y ∷ rule30 (parts_of b) ∷ [])

unfoldable pub query_verdict : List ℕ → ℕ → ℤ → ℤ → Answer
query_verdict b room x y = in_order (query_rules b room x y)
