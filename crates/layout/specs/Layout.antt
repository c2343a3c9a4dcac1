-- A layout: its verdict (rules 31 to 38), and its entries as they were typed. Definitions only.
use Rattle.std.specs.Prelude.{ℕ, cond, List, eqb}
use Rattle.verdict.specs.declared.Answer.{Answer}
use Rattle.verdict.specs.Verdict.{◌then◌}
use Rattle.text.specs.Sound.{rules31to32}
use Rattle.text.specs.Written.{word_lines}
use Rattle.layout.specs.Grammar.{Typed, nothing, Reading, read_from, start}

-- what the grammar says of a text
unfoldable pub grammar : List ℕ → Reading
grammar s = read_from 0 start (word_lines s)

-- rules 31 and 32, then 33 to 38
unfoldable pub layout_verdict : List ℕ → Answer
layout_verdict s = rules31to32 s then (grammar s).verdict

-- the entries as they were typed, none on refusal
unfoldable pub layout_of : List ℕ → Typed
layout_of s = cond (eqb (layout_verdict s).number 0) (grammar s).typed nothing
