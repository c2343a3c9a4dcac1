-- What the call gives, as theorems about its answers: the floor that is written is accepted with the counts of the one handed in, has the tree
-- that was asked for, and is else what it was; asked of again, it has a tree. Assumes nothing.
use Prim.Native.Nat.{ℕ, ◌<◌, ◌≤◌}
use native.Mathlib.Omega.{arith}
use mathlib.Core.Path.{◌≡◌, refl, sym, ap, subst, ◌∙◌}
use mathlib.Core.List.{List}
use lib.ListN.{length}
use borrow.Author.Tests.{ne_eqb}
use Rattle.verdict.specs.Verdict.{accepted, refused, rule, ◌then◌}
use Rattle.verdict.specs.Memory.{work_size}
use Rattle.verdict.specs.declared.Answer.{Answer}
use Rattle.verdict.proofs.Verdict.{then_next, then_stop}
use Rattle.verdict.proofs.Output.{form_refused}
use Rattle.wire.specs.Bytes.{Bytes}
use Rattle.tables.specs.Parts.{Parts, parts_of, word_place, word_of, vertex_word}
use Rattle.tables.specs.Fixed.{Whole, form_of}
use Rattle.tables.proofs.Right.{sound_header}
use Rattle.tables.proofs.Reading.{whole_of}
use Rattle.tables.proofs.Reform.{reads_back}
use Rattle.mesh.specs.Mesh.{rules7to10}
use Rattle.mesh.proofs.Plain.{met_mesh}
use Rattle.floor.specs.Reader.{reader_verdict, walkable_faces, answer_of, reader_answer}
use Rattle.floor.specs.Groups.{rules15to19}
use Rattle.floor.specs.Sound.{Sound}
use Rattle.floor.proofs.Meaning.{room_enough}
use Rattle.planting.specs.Planting.{planted}
use Rattle.planting.proofs.Writing.{no_words}
use Rattle.grown.specs.Plain.{GoodTree, OtherNodes}
use Rattle.grown.proofs.Kept.{others_stay}
use Rattle.grown.proofs.Good.{good_tree}
use Rattle.grown.proofs.Accepted.{whole_planted, sound_planted, planted_accepted}
use Rattle.plant.specs.Plant.{planted_form, rule49, rule40, plant_verdict, bare_verdict, plant_output}
use Rattle.plant.specs.Plain.{Bare}
use Rattle.plant.proofs.Order.{plant_groups, plant_met}

has_nodes : (q : Parts) → (q.nodes ≡ 0 → ⊥) → rule49 q ≡ refused 49 100
unfolding rule49 rule
has_nodes q n = rw (ne_eqb q.nodes 0 n)

-- ---- a floor that gets a tree

module _ (b : List ℕ) (y : Bytes b) (room out : ℕ) (z : (plant_verdict b room out).number ≡ 0) where
  abbrev p : Parts
  p = parts_of b

  floor : Bare b
  floor = (plant_met b room out z).0

  whole : Whole p
  whole = whole_of b (ap (λ (a : Answer). a.number) (sound_header b floor.header)) y

  -- the parts of what is written
  pub planted_parts : parts_of (planted_form b) ≡ planted p
  unfolding planted_form
  planted_parts = reads_back (planted p) (whole_planted p whole floor.mesh)

  -- the reader accepts it, with the counts of the floor that was handed in
  verdict : (room' : ℕ) → work_size ≤ room' → reader_verdict (planted_form b) room' ≡ accepted
  unfolding planted_form
  verdict room' l = planted_accepted p whole floor.mesh floor.borders room' l

  same_counts : answer_of accepted (planted p) ≡ answer_of accepted p
  unfolding planted answer_of walkable_faces word_of
  same_counts = refl

  pub plant_accepted : (room' : ℕ) → work_size ≤ room' → reader_answer (planted_form b) room' ≡ answer_of accepted p
  unfolding reader_answer
  plant_accepted room' l = rw (verdict room' l, planted_parts) same_counts

  -- it has the tree that was asked for, and is else what it was
  word : (v e : ℕ) → vertex_word p v e < 4294967296
  unfolding word_of
  word v e = (whole.tables_words 0 (omega arith)).word _

  pub plant_tree : GoodTree (parts_of (planted_form b))
  plant_tree = subst GoodTree (sym planted_parts) (good_tree p whole.fit.faces floor.mesh.finite.vertex floor.mesh.cornered.under word)

  pub plant_stays : OtherNodes p (parts_of (planted_form b))
  plant_stays = subst (OtherNodes p) (sym planted_parts) (others_stay p)

  -- ---- asked of again

  sound : Sound (planted_form b)
  unfolding planted_form
  sound = sound_planted p whole floor.mesh floor.borders

  -- 49 after 10
  refusal : rule49 (parts_of (planted_form b)) ≡ refused 49 100 → bare_verdict (planted_form b) ≡ refused 49 100
  unfolding bare_verdict
  refusal e =
      let q = parts_of (planted_form b) in
      ap (λ (a : Answer). a then ((rules7to10 (word_place (planted_form b)) q then rule49 q) then rules15to19 q)) (sound_header (planted_form b) sound.header)
      ∙ then_next accepted _ refl
      ∙ ap (λ (a : Answer). (a then rule49 q) then rules15to19 q) (met_mesh (word_place (planted_form b)) q sound.mesh)
      ∙ ap (λ (a : Answer). a then rules15to19 q) (then_next accepted (rule49 q) refl ∙ e)
      ∙ then_stop (refused 49 100) (λ z. omega arith) _

  nodes_are : 1 ≤ p.faces → (planted p).nodes ≡ 0 → ⊥
  unfolding planted
  nodes_are some e = omega arith

  -- where there are faces it has a tree: 49
  pub plant_again : (room' out' : ℕ) → work_size ≤ room' → 1 ≤ p.faces → plant_verdict (planted_form b) room' out' ≡ refused 49 100
  plant_again room' out' l some =
      let q = parts_of (planted_form b) in
      let tree : q.nodes ≡ 0 → ⊥ = λ e. nodes_are some (sym (ap (λ (x : Parts). x.nodes) planted_parts) ∙ e) in
      plant_groups (planted_form b) room' out'
      ∙ ap (λ (a : Answer). a then (bare_verdict (planted_form b) then rule40 (planted_form b) out')) (room_enough room' l)
      ∙ then_next accepted _ refl
      ∙ ap (λ (a : Answer). a then rule40 (planted_form b) out') (refusal (has_nodes q tree))
      ∙ then_stop (refused 49 100) (λ e. omega arith) _

  -- where there are none it is the same floor
  twice : p.faces ≡ 0 → planted (planted p) ≡ planted p
  unfolding planted
  twice none = rw (no_words (planted p) (unfold planted in whole.fit.faces) (unfold planted in none), no_words p whole.fit.faces none)

  pub form_again : p.faces ≡ 0 → planted_form (planted_form b) ≡ planted_form b
  unfolding planted_form
  form_again none = ap (λ (q : Parts). form_of (planted q)) (unfold planted_form in planted_parts) ∙ ap form_of (twice none)

-- ---- a refused call writes nothing

pub plant_refused : (b : List ℕ) (room : ℕ) (o : List ℕ) → ((plant_verdict b room (length o)).number ≡ 0 → ⊥) → plant_output b room o ≡ o
unfolding plant_output
plant_refused b room o z = sym (form_refused (plant_verdict b room (length o)) (planted_form b) o z).1
