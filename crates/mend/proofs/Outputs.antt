-- Mending's answer, memory and outputs, case by case: refused before 40, by 40, or written. Assumes nothing.
use Prim.Native.Nat.{ℕ, ◌<◌, ◌≤◌}
use native.Mathlib.Omega.{arith}
use mathlib.Core.Path.{◌≡◌, refl, sym, ap, ◌∙◌}
use mathlib.Core.List.{List}
use lib.ListN.{length}
use lib.Dec.{ltb}
use borrow.Author.Tests.{lt-ltb, le-ltb, ne_eqb}
use Rattle.verdict.specs.Verdict.{refused, accepted, rule, ◌then◌, in_order}
use Rattle.verdict.specs.Memory.{work_size, cleared_to, SamePast}
use Rattle.verdict.specs.Output.{over, form_memory}
use Rattle.verdict.specs.declared.Answer.{Answer}
use Rattle.verdict.specs.declared.Refused.{Refused}
use Rattle.verdict.specs.Refusals.{number_of}
use Rattle.verdict.proofs.Results.{here, past, refused_memory}
use Rattle.verdict.proofs.Verdict.{then_next, then_stop, then_assoc, then_both, met}
use Rattle.verdict.proofs.Memory.{cleared_past}
use Rattle.wire.specs.Bytes.{Bytes}
use Rattle.tables.specs.Parts.{parts_of, word_place}
use Rattle.tables.specs.Fixed.{Sized}
use Rattle.tables.proofs.Reading.{whole_of}
use Rattle.tables.proofs.Reform.{whole_length, length_form}
use Rattle.fixed.specs.Written.{numbers_of, start_by, Few}
use Rattle.fixed.specs.declared.Numbers.{Numbers}
use Rattle.fixed.proofs.Parted.{start_by_lem, few_numbers}
use Rattle.mesh.specs.Mesh.{Meshed}
use Rattle.floor.specs.Groups.{rules1to15}
use Rattle.floor.specs.Reader.{rule20, early_rules, reader_memory}
use Rattle.floor.proofs.Answers.{too_little, enough}
use Rattle.corners.specs.Corners.{recornered}
use Rattle.follow.specs.Ready.{Ready}
use Rattle.seams.specs.Mended.{mended}
use Rattle.seams.specs.Mend.{rules_and_room, mended_form, mended_list, room_verdict, mend_verdict, answer_by, mend_answer, mend_output, mend_list}
use Rattle.seams.specs.declared.Mended.{Mended}
use Rattle.seams.proofs.Result.{whole}
use Rattle.seams.proofs.Order.{mend_groups}

-- ---- the form's length

pub sized_mended : (b w : List ℕ) → Bytes b → Ready b w → Meshed (parts_of b) → Sized (mended (parts_of b))
sized_mended b w y r mesh = (whole (parts_of b) (whole_of b r.right y) mesh r.mended r.apart).fit

module _ (b : List ℕ) (s : Sized (mended (parts_of b))) (n : Numbers) (e : n ≡ numbers_of (mended (parts_of b))) where
  pub few_mended : Few n
  few_mended = rw e (few_numbers (mended (parts_of b)) s)

  pub form_size : (r : ℕ) → r ≡ start_by n 9 → r ≡ length (mended_form b)
  unfolding mended_form
  form_size r q =
      let p = mended (parts_of b) in
      let k : r ≡ start_by (numbers_of p) 9 = rw e at q in
      omega (arith, start_by_lem p s 9 (omega arith), whole_length p s, length_form p s)

-- ---- 40

module _ (b : List ℕ) (out list : ℕ) where
  pub no_room : out < length (mended_form b) → room_verdict b out list ≡ refused 40 0
  unfolding room_verdict rule
  no_room l = rw (lt-ltb out (length (mended_form b)) l) (then_stop (refused 40 0) (λ z. omega arith) (rule 40 (ltb list (length (mended_list b))) 0))

  pub no_list : length (mended_form b) ≤ out → list < length (mended_list b) → room_verdict b out list ≡ refused 40 0
  unfolding room_verdict rule
  no_list l m = rw (le-ltb out (length (mended_form b)) l, lt-ltb list (length (mended_list b)) m) (then_next accepted (refused 40 0) refl)

  pub both_fit : length (mended_form b) ≤ out → length (mended_list b) ≤ list → room_verdict b out list ≡ accepted
  unfolding room_verdict
  both_fit l m = then_both (rw (le-ltb out (length (mended_form b)) l) (met 40 0)) (rw (le-ltb list (length (mended_list b)) m) (met 40 0))

-- what 40 leaves, and what is left where both fit
pub refused_room : (v : Answer) (b o t : List ℕ) (r : Mended) → v ≡ refused 40 0 → r ≡ answer_by (refused 40 0) b
    → (r ≡ answer_by v b) × ((o ≡ form_memory v (mended_form b) o) × (t ≡ form_memory v (mended_list b) t))
unfolding form_memory
refused_room v b o t r e q = rw e (q, (refl, refl))

pub written_room : (v : Answer) (b o t o₁ t₁ : List ℕ) (n k : ℕ) → v ≡ accepted → n ≡ length (mended_form b) → k ≡ length (mended_list b) → o₁ ≡ over (mended_form b) o → t₁ ≡ over (mended_list b) t
    → (◌≡◌ {A = Mended} (record { number = 0; place = 0; length = n; listed = k }) (answer_by v b)) × ((o₁ ≡ form_memory v (mended_form b) o) × (t₁ ≡ form_memory v (mended_list b) t))
unfolding form_memory answer_by
written_room v b o t o₁ t₁ n k e f g x z = rw (e, f, g) (refl, (x, z))

-- ---- the call

module _ (b w o t : List ℕ) where
  abbrev verdict : Answer
  verdict = mend_verdict b (length w) (length o) (length t)

  -- what is promised of an answer, the work memory, the output and the list
  abbrev Done : Mended → List ℕ → List ℕ → List ℕ → Type 0
  Done r m n l = (r ≡ mend_answer b (length w) (length o) (length t)) × ((m ≡ reader_memory w) × ((n ≡ mend_output b (length w) o t) × (l ≡ mend_list b (length w) o t)))

  by_refusal : (r : Mended) (m : List ℕ) (number place : ℕ) → verdict ≡ refused number place → (number ≡ 0 → ⊥) → r ≡ answer_by (refused number place) b → m ≡ reader_memory w → Done r m o t
  unfolding mend_answer mend_output mend_list form_memory
  by_refusal r m number place e z q k = rw (e, ne_eqb number 0 z) (q, (k, (refl, refl)))

  too_little_verdict : length w < work_size → verdict ≡ refused 20 0
  unfolding rule20 rule
  too_little_verdict l = mend_groups b (length w) (length o) (length t) ∙ rw (lt-ltb (length w) work_size l) (then_stop (refused 20 0) (λ z. omega arith) _)

  enough_verdict : work_size ≤ length w → verdict ≡ rules_and_room b (length o) (length t)
  unfolding rule20 rule rules_and_room
  enough_verdict l = mend_groups b (length w) (length o) (length t) ∙ rw (le-ltb (length w) work_size l) (then_next accepted _ refl ∙ sym (then_assoc (rules1to15 b) _ _))

  pub little_memory : length w < work_size → (r : Mended) → r ≡ answer_by (refused 20 0) b → Done r w o t
  little_memory l r q = by_refusal r w 20 0 (too_little_verdict l) (λ z. omega arith) q (too_little b w l).1

  -- the memory is cleared at the end
  pub all_decides : work_size ≤ length w → (v m : List ℕ) → SamePast v w → m ≡ cleared_to work_size v → (r : Mended) (n k : List ℕ) → let x = rules_and_room b (length o) (length t) in
      r ≡ answer_by x b → n ≡ form_memory x (mended_form b) o → k ≡ form_memory x (mended_list b) t → Done r m n k
  unfolding mend_answer mend_output mend_list
  all_decides l v m past clear r n k q f g = rw (enough_verdict l) (q, (clear ∙ cleared_past v w past ∙ (enough b w l).1, (f, g)))

-- a verdict that refuses, and one that lets 40 decide
module _ (b o t : List ℕ) where
  pub rules_refuse : (r : Refused) → refused (number_of r.refusal) r.place ≡ (rules1to15 b then in_order (early_rules (word_place b) (recornered (parts_of b)))) → let x = rules_and_room b (length o) (length t) in
      (answer_by (refused (number_of r.refusal) r.place) b ≡ answer_by x b) × ((o ≡ form_memory x (mended_form b) o) × (t ≡ form_memory x (mended_list b) t))
  unfolding rules_and_room
  rules_refuse r e =
      let x = here r (room_verdict b (length o) (length t)) e in
      (ap (λ (a : Answer). answer_by a b) x, (refused_memory (mended_form b) o r x, refused_memory (mended_list b) t r x))

  pub room_decides : accepted ≡ (rules1to15 b then in_order (early_rules (word_place b) (recornered (parts_of b)))) → room_verdict b (length o) (length t) ≡ rules_and_room b (length o) (length t)
  unfolding rules_and_room
  room_decides e = past e refl
