-- Planting's answer, memory and output, case by case: refused before 40, by 40, or written. Assumes nothing.
use Prim.Native.Nat.{ℕ, ◌<◌, ◌≤◌}
use native.Mathlib.Omega.{arith}
use mathlib.Core.Path.{◌≡◌, sym, ap, ◌∙◌}
use mathlib.Core.List.{List}
use lib.ListN.{length}
use borrow.Author.Tests.{lt-ltb, le-ltb}
use Rattle.verdict.specs.Verdict.{accepted, refused, rule, ◌then◌}
use Rattle.verdict.specs.Memory.{work_size, cleared_to, SamePast}
use Rattle.verdict.specs.Output.{over, no_form}
use Rattle.verdict.specs.declared.Answer.{Answer}
use Rattle.verdict.specs.declared.Form.{Form}
use Rattle.verdict.proofs.Verdict.{then_assoc, met}
use Rattle.verdict.proofs.Memory.{cleared_past}
use Rattle.verdict.proofs.Output.{Answers, form_written, refused_form, first_refuses, second_refuses, third_decides}
use Rattle.floor.specs.Reader.{rule20, reader_memory}
use Rattle.floor.proofs.Answers.{too_little, enough}
use Rattle.floor.proofs.Meaning.{room_enough}
use Rattle.plant.specs.Plant.{planted_form, rule40, plant_verdict, bare_verdict, plant_answer, plant_output}
use Rattle.plant.proofs.Order.{plant_groups}

-- ---- 40

module _ (b o : List ℕ) where
  pub no_room : length o < length (planted_form b) → (f : Form) → f ≡ no_form 40 0 → Answers f o (rule40 b (length o)) (planted_form b) o
  no_room l = refused_form (rule40 b (length o)) (planted_form b) o 40 0 (unfold rule40 rule in rw (lt-ltb (length o) (length (planted_form b)) l)) (λ z. omega arith)

  pub form_fits : length (planted_form b) ≤ length o → (n : ℕ) (new : List ℕ) → n ≡ length (planted_form b) → new ≡ over (planted_form b) o
      → Answers (record { number = 0; place = 0; length = n }) new (rule40 b (length o)) (planted_form b) o
  form_fits l n new e q =
      let a : rule40 b (length o) ≡ accepted = unfold rule40 in rw (le-ltb (length o) (length (planted_form b)) l) (met 40 0) in
      let h = form_written (rule40 b (length o)) (planted_form b) o n (ap (λ (x : Answer). x.number) a) (ap (λ (x : Answer). x.place) a) e in
      (h.0, q ∙ h.1)

-- ---- the call

module _ (b w o : List ℕ) where
  -- what is promised of an answer, the work memory and the output
  abbrev Done : Form → List ℕ → List ℕ → Type 0
  Done r m n = (r ≡ plant_answer b (length w) (length o)) × ((m ≡ reader_memory w) × (n ≡ plant_output b (length w) o))

  three : plant_verdict b (length w) (length o) ≡ (rule20 (length w) then bare_verdict b then rule40 b (length o))
  three = plant_groups b (length w) (length o) ∙ sym (then_assoc (rule20 (length w)) (bare_verdict b) (rule40 b (length o)))

  done : (r : Form) (m n : List ℕ) → Answers r n (rule20 (length w) then bare_verdict b then rule40 b (length o)) (planted_form b) o → m ≡ reader_memory w → Done r m n
  unfolding plant_answer plant_output
  done r m n h e = rw three (h.0, (e, h.1))

  pub little_memory : length w < work_size → (r : Form) → r ≡ no_form 20 0 → Done r w o
  little_memory l r e =
      let short : rule20 (length w) ≡ refused 20 0 = unfold rule20 rule in rw (lt-ltb (length w) work_size l) in
      done r w o (first_refuses _ _ _ (planted_form b) o 20 0 short (λ z. omega arith) r e) (too_little b w l).1

  -- the memory is cleared, whatever the rules did with it
  module _ (l : work_size ≤ length w) (v m : List ℕ) (past : SamePast v w) (clear : m ≡ cleared_to work_size v) (so : Answer) (e : so ≡ bare_verdict b) where
    cleared : m ≡ reader_memory w
    cleared = clear ∙ cleared_past v w past ∙ (enough b w l).1

    pub rule_refuses : (so.number ≡ 0 → ⊥) → (r : Form) → r ≡ no_form so.number so.place → Done r m o
    rule_refuses z r q = done r m o (second_refuses _ _ _ (planted_form b) o so (room_enough (length w) l) e z r q) cleared

    pub room_decides : so.number ≡ 0 → (r : Form) (n : List ℕ) → Answers r n (rule40 b (length o)) (planted_form b) o → Done r m n
    room_decides z r n h = done r m n (third_decides _ _ _ r n (planted_form b) o so (room_enough (length w) l) e z h) cleared
