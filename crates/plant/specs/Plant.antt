-- A tree for a floor that comes without one (M-113), as a call: its refusals in order, the answer, and what is left in the output.
-- Definitions only.
use Rattle.std.specs.Prelude.{ℕ, not, List, [], ◌∷◌, ◌++◌, length, eqb, ltb}
use Rattle.verdict.specs.Verdict.{rule, ◌then◌, in_order}
use Rattle.verdict.specs.Output.{form_answer, form_memory}
use Rattle.verdict.specs.declared.Answer.{Answer}
use Rattle.verdict.specs.declared.Form.{Form}
use Rattle.tables.specs.Header.{header_rules, header_verdict}
use Rattle.tables.specs.Parts.{Parts, parts_of, word_place}
use Rattle.tables.specs.Fixed.{form_of}
use Rattle.mesh.specs.Floats.{rule7}
use Rattle.mesh.specs.Faces.{rule8, rule9, rule10}
use Rattle.mesh.specs.Mesh.{rules7to10}
use Rattle.pairs.specs.Halves.{rule15, rule16}
use Rattle.border.specs.Loops.{rule17, rule18, rule19}
use Rattle.floor.specs.Reader.{rule20}
use Rattle.floor.specs.Groups.{rules15to19}
use Rattle.planting.specs.Planting.{planted}

-- what is written: the fixed form of the floor with its tree
unfoldable pub planted_form : List ℕ → List ℕ
planted_form b = form_of (planted (parts_of b))

-- 49: the floor has nodes; the place is the field of their count
unfoldable pub rule49 : Parts → Answer
rule49 p = rule 49 (not (eqb p.nodes 0)) 100

-- 40: an output shorter than the form
unfoldable pub rule40 : List ℕ → ℕ → Answer
rule40 b out = rule 40 (ltb out (length (planted_form b))) 0

-- the reader's but 11 to 14, with 49 after 10, then 40. `room` is the work memory's length, `out` the output's
unfoldable pub plant_rules : List ℕ → ℕ → ℕ → List Answer
plant_rules b room out =
    let p = parts_of b in
    rule20 room ∷ (header_rules b ++
    (rule7 (word_place b) p ∷ rule8 p ∷ rule9 p ∷ rule10 p ∷ rule49 p ∷ rule15 p ∷ rule16 p ∷ rule17 p ∷ rule18 p ∷ rule19 p ∷ rule40 b out ∷ []))

unfoldable pub plant_verdict : List ℕ → ℕ → ℕ → Answer
plant_verdict b room out = in_order (plant_rules b room out)

-- 1 to 10, 49, 15 to 19: all that is asked of the floor, in groups. proofs/Order.antt shows that they are the table
unfoldable pub bare_verdict : List ℕ → Answer
bare_verdict b = header_verdict b then ((rules7to10 (word_place b) (parts_of b) then rule49 (parts_of b)) then rules15to19 (parts_of b))

unfoldable pub plant_answer : List ℕ → ℕ → ℕ → Form
plant_answer b room out = form_answer (plant_verdict b room out) (planted_form b)

-- the output on return: the form and then its old bytes, or all its old bytes on refusal
unfoldable pub plant_output : List ℕ → ℕ → List ℕ → List ℕ
plant_output b room out = form_memory (plant_verdict b room (length out)) (planted_form b) out
