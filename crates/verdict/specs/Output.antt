-- An output that a caller lends to a rewriting: the answer, and what is left in it. Definitions only.
use Rattle.std.specs.Prelude.{ℕ, cond, List, ◌++◌, length, drop, eqb}
use Rattle.verdict.specs.Verdict.{if_accepted}
use Rattle.verdict.specs.declared.Answer.{Answer}
use Rattle.verdict.specs.declared.Form.{Form}

-- memory with bytes written over its start; what lies past them stays
unfoldable pub over : List ℕ → List ℕ → List ℕ
over done o = done ++ drop (length done) o

-- a rewriting that is refused: it writes nothing
unfoldable pub no_form : ℕ → ℕ → Form
no_form number place = record { number = number; place = place; length = 0 }

-- the verdict, and the length of the form, 0 on refusal
unfoldable pub form_answer : Answer → List ℕ → Form
form_answer a form = record { number = a.number; place = a.place; length = if_accepted a (length form) }

-- the output: the form followed by its old rest, or what it was on refusal
unfoldable pub form_memory : Answer → List ℕ → List ℕ → List ℕ
form_memory a form o = cond (eqb a.number 0) (over form o) o
