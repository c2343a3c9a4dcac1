-- What a rewriting hands over: the form, where it is not refused; and a text that is accepted is refused with 40 or not at all.
-- Assumes nothing.
use mathlib.Core.Path.{◌≡◌, refl}
use mathlib.Core.Logic.{◌≢◌}
use mathlib.Core.Bool.{Bool, true, false, ◌||◌}
use mathlib.Core.List.{List}
use Prim.Native.Nat.{ℕ}
use lib.Dec.{ltb}
use lib.ListN.{length, take}
use borrow.Author.Tests.{eq-eqb}
use Rattle.verdict.specs.declared.Answer.{Answer}
use Rattle.verdict.specs.declared.Form.{Form}
use Rattle.verdict.specs.Verdict.{rule, ◌then◌}
use Rattle.verdict.specs.Output.{form_answer, form_memory}
use Rattle.verdict.proofs.Output.{Answers, take_over}
use Rattle.verdict.proofs.Verdict.{then_next}
use Rattle.text.specs.Written.{rule40}
use Rattle.screens.specs.Calls.{handed_over}

-- whatever answer and output the contract of a rewriting admits, that is what they hand over
pub handed_over_lem : (f : Form) (new : List ℕ) (a : Answer) (form out : List ℕ) → Answers f new a form out → take f.length new ≡ handed_over a form out
unfolding handed_over
handed_over_lem f new a form out (p, q) = rw (p, q)

pub handed_form : (a : Answer) (form out : List ℕ) → a.number ≡ 0 → handed_over a form out ≡ form
unfolding handed_over form_answer form_memory
handed_form a form out z = rw (eq-eqb a.number 0 z) (take_over form out (length form) refl)

-- rule 40 alone refuses with 40
only_40 : (text : List ℕ) (room : ℕ) → (rule40 text room).number ≢ 40 → (rule40 text room).number ≡ 0
unfolding rule40 rule
only_40 text room n = go (ltb room (length text) || ltb 65536 (length text)) n
  where
    go : (b : Bool) → (rule 40 b 0).number ≢ 40 → (rule 40 b 0).number ≡ 0
    go true h = absurd (h refl)
    go false h = refl

pub not_40 : (a : Answer) (text : List ℕ) (room : ℕ) → a.number ≡ 0 → (a then rule40 text room).number ≢ 40 → (a then rule40 text room).number ≡ 0
not_40 a text room z n = rw (then_next a (rule40 text room) z) (only_40 text room (rw (then_next a (rule40 text room) z) at n))
