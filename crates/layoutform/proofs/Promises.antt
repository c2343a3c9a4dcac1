-- What a caller may rely on: refused calls leave the output, and two admitted answers are equal. Assumes nothing.
use mathlib.Core.Path.{◌≡◌, sym, ◌∙◌}
use mathlib.Core.List.{List}
use Prim.Native.Nat.{ℕ}
use lib.ListN.{length}
use Rattle.verdict.specs.declared.Answer.{Answer}
use Rattle.verdict.specs.declared.Form.{Form}
use Rattle.verdict.specs.Output.{form_memory}
use Rattle.verdict.proofs.Output.{form_refused, Answers}
use Rattle.text.specs.Reading.{Word}
use Rattle.layoutform.specs.Form.{parts_of, form_text}
use Rattle.layoutform.specs.Rewrite.{renamed_form, rewrite_verdict, rename_verdict}

-- a refused rewriting, with a name or without, leaves the output as it was
pub rewrite_kept : (s o : List ℕ) → ((rewrite_verdict s (length o)).number ≡ 0 → ⊥) → form_memory (rewrite_verdict s (length o)) (form_text (parts_of s)) o ≡ o
rewrite_kept s o z = sym (form_refused (rewrite_verdict s (length o)) (form_text (parts_of s)) o z).1

pub rename_kept : (s : List ℕ) (i : ℕ) (w : Word) (o : List ℕ) → ((rename_verdict s i w (length o)).number ≡ 0 → ⊥) → form_memory (rename_verdict s i w (length o)) (renamed_form s i w) o ≡ o
rename_kept s i w o z = sym (form_refused (rename_verdict s i w (length o)) (renamed_form s i w) o z).1

-- two answers and outputs that the contract of a rewriting admits are equal
pub one_answer : (f g : Form) (a b : List ℕ) (v : Answer) (text o : List ℕ) → Answers f a v text o → Answers g b v text o → (f ≡ g) × (a ≡ b)
one_answer f g a b v text o (p, q) (x, y) = (p ∙ sym x, q ∙ sym y)
