-- Laws of outputs: writing over the start of memory, part by part; and the answer and the memory of a rewriting, case by case.
-- Assumes nothing.
use mathlib.Core.Path.{◌≡◌, refl, ap, ◌∙◌, subst}
use mathlib.Core.List.{List, [], ◌++◌}
use Prim.Native.Nat.{ℕ, ◌+◌, ◌-◌, ◌≤◌}
use native.Mathlib.Omega.{arith}
use lib.ListN.{length, take, drop, length-append, length-drop}
use lib.Seq.{paste, take_at, drop-append-add, drop-drop, length-take-le}
use borrow.Author.Tests.{ne_eqb}
use Rattle.verdict.specs.Verdict.{accepted, refused, ◌then◌}
use Rattle.verdict.specs.Output.{over, no_form, form_answer, form_memory}
use Rattle.verdict.specs.declared.Answer.{Answer}
use Rattle.verdict.specs.declared.Form.{Form}
use Rattle.verdict.proofs.Verdict.{then_next, then_stop}

-- ---- memory written over

pub over_is : (d o : List ℕ) (k : ℕ) → length d ≡ k → d ++ drop k o ≡ over d o
unfolding over
over_is d o k f = rw f

pub over_none : (o : List ℕ) → o ≡ over [] o
unfolding over
over_none o = refl

pub length_over : (done o : List ℕ) → length done ≤ length o → length (over done o) ≡ length o
unfolding over
length_over done o l = length-append done (drop (length done) o) ∙ rw (length-drop (length done) o) (omega arith)

-- what is written goes on where the last part ended
module _ (done o : List ℕ) (at : ℕ) (e : length done ≡ at) where
  pub drop_over : (n : ℕ) → drop (at + n) (over done o) ≡ drop (at + n) o
  unfolding over
  drop_over n = rw (← e) (drop-append-add done (drop (length done) o) n ∙ drop-drop n (length done) o)

  pub take_over : take at (over done o) ≡ done
  unfolding over
  take_over = take_at done (drop (length done) o) at e

  pub over_paste : (s : List ℕ) (n : ℕ) → n ≤ length s → paste (over done o) at s n ≡ over (done ++ take n s) o
  over_paste s n l =
      rw (take_over, drop_over n) (over_is (done ++ take n s) o (at + n) (length-append done (take n s) ∙ rw (length-take-le n s l) (omega arith)))

pub over_over : (c d o : List ℕ) → length c ≤ length d → over d (over c o) ≡ over d o
unfolding over
over_over c d o l =
    let e : length c + (length d - length c) ≡ length d = omega arith in
    ap (λ (r : List ℕ). d ++ r) (subst (λ (m : ℕ). drop m (over c o) ≡ drop m o) e (drop_over c o (length c) refl (length d - length c)))

-- ---- a rewriting that is refused, and one that is not

module _ (a : Answer) (form o : List ℕ) where
  pub form_refused : (a.number ≡ 0 → ⊥) → (no_form a.number a.place ≡ form_answer a form) × (o ≡ form_memory a form o)
  unfolding no_form form_answer form_memory
  form_refused z = rw (ne_eqb a.number 0 z) (refl, refl)

  pub form_written : (n : ℕ) → a.number ≡ 0 → a.place ≡ 0 → n ≡ length form
      → (◌≡◌ {A = Form} (record { number = 0; place = 0; length = n }) (form_answer a form)) × (over form o ≡ form_memory a form o)
  unfolding form_answer form_memory
  form_written n z p e = rw (z, p, e) (refl, refl)

-- ---- the two together, behind verdicts one after the other

-- an answer and the output
abbrev pub Answers : Form → List ℕ → Answer → List ℕ → List ℕ → Type 0
Answers f new v text o = (f ≡ form_answer v text) × (new ≡ form_memory v text o)

pub refused_form : (v : Answer) (text o : List ℕ) (n p : ℕ) → v ≡ refused n p → (n ≡ 0 → ⊥) → (f : Form) → f ≡ no_form n p → Answers f o v text o
refused_form v text o n p e z f ef = rw (e, ef) (form_refused (refused n p) text o z)

-- three verdicts, one after the other: the first that refuses is answered, and where two accept the third decides
module _ (u v b : Answer) where
  pub first_refuses : (text o : List ℕ) (n p : ℕ) → u ≡ refused n p → (n ≡ 0 → ⊥) → (f : Form) → f ≡ no_form n p → Answers f o (u then v then b) text o
  first_refuses text o n p e z = refused_form (u then v then b) text o n p (rw (e, then_stop (refused n p) z v) (then_stop (refused n p) z b)) z

  pub second_refuses : (text o : List ℕ) (a : Answer) → u ≡ accepted → a ≡ v → (a.number ≡ 0 → ⊥) → (f : Form) → f ≡ no_form a.number a.place → Answers f o (u then v then b) text o
  second_refuses text o a e ea z = refused_form (u then v then b) text o _ _ (rw (e, ← ea, then_next accepted a refl) (then_stop a z b)) z

  pub third_decides : (f : Form) (new text o : List ℕ) (a : Answer) → u ≡ accepted → a ≡ v → a.number ≡ 0 → Answers f new b text o → Answers f new (u then v then b) text o
  third_decides f new text o a e ea z h = rw (e, ← ea, then_next accepted a refl, then_next a b z) h
