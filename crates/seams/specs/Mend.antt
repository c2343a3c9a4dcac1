-- Mending a floor (M-109): its refusals in order, the answer, and what is left in the two outputs. Definitions only.
use Rattle.std.specs.Prelude.{ℕ, List, [], ◌∷◌, ◌++◌, length, ltb}
use Rattle.verdict.specs.Verdict.{rule, ◌then◌, in_order, if_accepted}
use Rattle.verdict.specs.Output.{form_memory}
use Rattle.verdict.specs.declared.Answer.{Answer}
use Rattle.tables.specs.Parts.{parts_of, word_place}
use Rattle.tables.specs.Fixed.{form_of}
use Rattle.floor.specs.Groups.{rules1to15}
use Rattle.floor.specs.Reader.{early_rules, early_reader_rules}
use Rattle.corners.specs.Corners.{recornered}
use Rattle.seams.specs.Mended.{mended}
use Rattle.seams.specs.Changes.{changes}
use Rattle.seams.specs.declared.Mended.{Mended}

-- what is written: the mended floor's fixed form, and the list of changes
unfoldable pub mended_form : List ℕ → List ℕ
mended_form b = form_of (mended (parts_of b))

unfoldable pub mended_list : List ℕ → List ℕ
mended_list b = changes (parts_of b)

-- the reader's but 16 to 19, run again on the changed corners (1 to 6 read no corner), then 40 for either output.
-- `room` is the work memory's length, `out` and `list` the outputs'
unfoldable pub mend_rules : List ℕ → ℕ → ℕ → ℕ → List Answer
mend_rules b room out list =
    early_reader_rules b room ++ (early_rules (word_place b) (recornered (parts_of b)) ++
    (rule 40 (ltb out (length (mended_form b))) 0 ∷ rule 40 (ltb list (length (mended_list b))) 0 ∷ []))

unfoldable pub mend_verdict : List ℕ → ℕ → ℕ → ℕ → Answer
mend_verdict b room out list = in_order (mend_rules b room out list)

-- the two of 40 alone: what is left to ask of a floor whose rules are met
unfoldable pub room_verdict : List ℕ → ℕ → ℕ → Answer
room_verdict b out list = rule 40 (ltb out (length (mended_form b))) 0 then rule 40 (ltb list (length (mended_list b))) 0

-- all but the work memory, in groups: the rules of the floor and of the changed corners, then 40. mend/proofs/Outputs.antt shows that they are the table
unfoldable pub rules_and_room : List ℕ → ℕ → ℕ → Answer
rules_and_room b out list =
    (rules1to15 b then in_order (early_rules (word_place b) (recornered (parts_of b)))) then room_verdict b out list

-- the answer by a verdict: number, place, and how many bytes were written to each output, 0 on refusal
unfoldable pub answer_by : Answer → List ℕ → Mended
answer_by a b = record {
  number = a.number;
  place = a.place;
  length = if_accepted a (length (mended_form b));
  listed = if_accepted a (length (mended_list b));
}

unfoldable pub mend_answer : List ℕ → ℕ → ℕ → ℕ → Mended
mend_answer b room out list = answer_by (mend_verdict b room out list) b

-- the outputs on return: the form, or the list, and then its old bytes; all its old bytes on refusal
unfoldable pub mend_output : List ℕ → ℕ → List ℕ → List ℕ → List ℕ
mend_output b room out list = form_memory (mend_verdict b room (length out) (length list)) (mended_form b) out

unfoldable pub mend_list : List ℕ → ℕ → List ℕ → List ℕ → List ℕ
mend_list b room out list = form_memory (mend_verdict b room (length out) (length list)) (mended_list b) list
