-- The reader's refusals in groups: what the code of a group may assume is that the groups before it accept. proofs/Order.antt shows that
-- the groups one after another are the table of Reader. Definitions only.
use Rattle.std.specs.Prelude.{ℕ, List}
use Rattle.verdict.specs.Verdict.{◌then◌}
use Rattle.verdict.specs.declared.Answer.{Answer}
use Rattle.tables.specs.Header.{header_verdict}
use Rattle.tables.specs.Parts.{Parts, parts_of, word_place}
use Rattle.mesh.specs.Mesh.{rules7to10}
use Rattle.nodes.specs.Nodes.{rules11to12}
use Rattle.tree.specs.Boxes.{rules13to14}
use Rattle.pairs.specs.Halves.{rule15, rules15to16}
use Rattle.border.specs.Loops.{rules17to19}

unfoldable pub rules7to12 : (ℕ → ℕ → ℕ) → Parts → Answer
rules7to12 place p = rules7to10 place p then rules11to12 p

unfoldable pub rules15to19 : Parts → Answer
rules15to19 p = rules15to16 p then rules17to19 p

-- 1 to 14: all that stands before half-edges
unfoldable pub rules1to14 : List ℕ → Answer
rules1to14 b = header_verdict b then (rules7to12 (word_place b) (parts_of b) then rules13to14 (parts_of b))

-- 1 to 15: the reader's but 16 to 19, and but the work memory
unfoldable pub rules1to15 : List ℕ → Answer
rules1to15 b = rules1to14 b then rule15 (parts_of b)

-- 1 to 19: all but the work memory
unfoldable pub rules1to19 : List ℕ → Answer
rules1to19 b = rules1to14 b then rules15to19 (parts_of b)
