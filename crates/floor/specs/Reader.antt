-- The reader of a floor: document 01's table of refusals in order, the answer with the counts, and what is left in the work memory.
-- Definitions only.
use Rattle.std.specs.Prelude.{ℕ, cond, List, [], ◌∷◌, ◌++◌, length, ltb}
use Rattle.verdict.specs.Lists.{tally}
use Rattle.verdict.specs.Verdict.{rule, in_order, if_accepted}
use Rattle.verdict.specs.Memory.{work_size, cleared_to}
use Rattle.verdict.specs.declared.Answer.{Answer}
use Rattle.tables.specs.Header.{header_rules}
use Rattle.tables.specs.Parts.{Parts, parts_of, word_place, material}
use Rattle.mesh.specs.Floats.{rule7}
use Rattle.mesh.specs.Faces.{rule8, rule9, rule10, walkable}
use Rattle.nodes.specs.Nodes.{rule11, rule12}
use Rattle.tree.specs.Tree.{rule13}
use Rattle.tree.specs.Boxes.{rule14}
use Rattle.pairs.specs.Halves.{rule15, rule16}
use Rattle.border.specs.Loops.{rule17, rule18, rule19}
use Rattle.floor.specs.declared.Floor.{Floor}

-- 20: work memory under 65,536 bytes. `room` is its length
unfoldable pub rule20 : ℕ → Answer
rule20 room = rule 20 (ltb room work_size) 0

-- 7 to 15, of the parts; `place` tells where a word of a table lies
unfoldable pub early_rules : (ℕ → ℕ → ℕ) → Parts → List Answer
early_rules place p =
    rule7 place p ∷
    rule8 p ∷
    rule9 p ∷
    rule10 p ∷
    rule11 p ∷
    rule12 p ∷
    rule13 p ∷
    rule14 p ∷
    rule15 p ∷ []

-- 7 to 19
unfoldable pub part_rules : (ℕ → ℕ → ℕ) → Parts → List Answer
part_rules place p = early_rules place p ++ (rule16 p ∷ rule17 p ∷ rule18 p ∷ rule19 p ∷ [])

-- the reader's refusals, in order: 20, 1 to 6, 7 to 19
unfoldable pub reader_rules : List ℕ → ℕ → List Answer
reader_rules b room = rule20 room ∷ (header_rules b ++ part_rules (word_place b) (parts_of b))

-- the reader's but 16 to 19, in order
unfoldable pub early_reader_rules : List ℕ → ℕ → List Answer
early_reader_rules b room = rule20 room ∷ (header_rules b ++ early_rules (word_place b) (parts_of b))

unfoldable pub reader_verdict : List ℕ → ℕ → Answer
reader_verdict b room = in_order (reader_rules b room)

-- how many faces are walkable
unfoldable pub walkable_faces : Parts → ℕ
walkable_faces p = tally p.faces (λ f. walkable (material p f))

-- the answer: number, place, and the counts, which are 0 on refusal
unfoldable pub answer_of : Answer → Parts → Floor
answer_of a p = record {
  number = a.number;
  place = a.place;
  faces = if_accepted a p.faces;
  walkable = if_accepted a (walkable_faces p);
  edges = if_accepted a p.edges;
  perimeters = if_accepted a p.perimeters;
}

unfoldable pub reader_answer : List ℕ → ℕ → Floor
reader_answer b room = answer_of (reader_verdict b room) (parts_of b)

-- the work memory on return: its first 65,536 bytes zero and the rest untouched; with 20 all of it untouched
unfoldable pub reader_memory : List ℕ → List ℕ
reader_memory w = cond (ltb (length w) work_size) w (cleared_to work_size w)
