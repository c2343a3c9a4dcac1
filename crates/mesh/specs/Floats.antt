-- Rule 7: no float is infinite or not a number. The test goes by the parts; the place is the byte of the first in the order header,
-- vertices, normals, distances, boxes, so the rule takes a function from tables and words to bytes. Definitions only.
use Rattle.std.specs.Prelude.{ℕ, ◌+◌, ◌*◌, ◌/◌, ◌%◌, Bool, not, List, get_or}
use Rattle.std.specs.Float.{binary32}
use Rattle.std.specs.Float.Ieee.{of_bits}
use Rattle.verdict.specs.Verdict.{rule_of_each, ◌then◌}
use Rattle.verdict.specs.declared.Answer.{Answer}
use Rattle.wire.specs.Bytes.{u32_at}
use Rattle.grid.specs.Grid.{finite}
use Rattle.tables.specs.Parts.{Parts, count_of, word_of, word_index}

-- the float with these bits is infinite or not a number
unfoldable pub wild : ℕ → Bool
wild w = not (finite (of_bits binary32 w))

-- header's float i, and float j of table k, each entry of which starts with `per` floats
unfoldable pub wild_head : Parts → ℕ → Bool
wild_head p i = wild (get_or p.floats i 0)

unfoldable pub wild_in : Parts → ℕ → ℕ → ℕ → Bool
wild_in p k per j = wild (word_of p k (j / per) (j % per))

-- word j of those from a place of a file on: what a search through the bytes goes by
unfoldable pub wild_from : List ℕ → ℕ → ℕ → Bool
wild_from b at j = wild (u32_at b (at + 4 * j))

-- where float j of table k lies
abbrev pub float_place : (ℕ → ℕ → ℕ) → ℕ → ℕ → ℕ → ℕ
float_place place k per j = place k (word_index k (j / per) (j % per))

-- 7, of one table
unfoldable pub rule7_in : (ℕ → ℕ → ℕ) → Parts → ℕ → ℕ → Answer
rule7_in place p k per = rule_of_each 7 (count_of p k * per) (wild_in p k per) (float_place place k per)

-- 7, of the header
unfoldable pub rule7_head : Parts → Answer
rule7_head p = rule_of_each 7 15 (wild_head p) (λ i. 12 + 4 * i)

-- 7: header, vertices, normals, distances, boxes
unfoldable pub rule7 : (ℕ → ℕ → ℕ) → Parts → Answer
rule7 place p =
    rule7_head p then rule7_in place p 0 3 then rule7_in place p 3 3 then rule7_in place p 4 1 then rule7_in place p 5 6
