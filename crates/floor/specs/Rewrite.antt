-- The rewriter of a floor: the reader's refusals, then 40; the answer, and what is left in the output. Definitions only.
use Rattle.std.specs.Prelude.{ℕ, List, length, ltb}
use Rattle.verdict.specs.Verdict.{rule, ◌then◌}
use Rattle.verdict.specs.Output.{form_answer, form_memory}
use Rattle.verdict.specs.declared.Answer.{Answer}
use Rattle.verdict.specs.declared.Form.{Form}
use Rattle.tables.specs.Parts.{parts_of}
use Rattle.tables.specs.Fixed.{form_of}
use Rattle.floor.specs.Reader.{reader_verdict}

-- a floor's fixed form
unfoldable pub fixed_form : List ℕ → List ℕ
fixed_form b = form_of (parts_of b)

-- 40: an output shorter than the form. `room` is the work memory's length, `out` the output's
unfoldable pub rewrite_verdict : List ℕ → ℕ → ℕ → Answer
rewrite_verdict b room out = reader_verdict b room then rule 40 (ltb out (length (fixed_form b))) 0

unfoldable pub rewrite_answer : List ℕ → ℕ → ℕ → Form
rewrite_answer b room out = form_answer (rewrite_verdict b room out) (fixed_form b)

-- the output on return: the form and then its old bytes, or all its old bytes on refusal
unfoldable pub rewrite_memory : List ℕ → ℕ → List ℕ → List ℕ
rewrite_memory b room out = form_memory (rewrite_verdict b room (length out)) (fixed_form b) out
