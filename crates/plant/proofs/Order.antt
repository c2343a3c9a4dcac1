-- The order of planting's refusals: by groups, as the first broken rule, and what is so exactly where none is broken. Assumes nothing.
use Prim.Native.Nat.{ℕ, ◌≤◌}
use mathlib.Core.Path.{◌≡◌, ap, ◌∙◌}
use mathlib.Core.Bool.{not}
use mathlib.Core.List.{List, [], ◌∷◌}
use lib.ListN.{length}
use lib.Dec.{eqb, ltb}
use borrow.Author.Tests.{eqb-true, eq-eqb, ltb-false, le-ltb, not-false}
use Rattle.verdict.specs.Verdict.{accepted, ◌then◌, in_order, FirstBroken}
use Rattle.verdict.specs.Memory.{work_size}
use Rattle.verdict.specs.declared.Answer.{Answer}
use Rattle.verdict.proofs.Verdict.{then_assoc, then_both, then_last, passed, unbroken, met, rule_proper, order_append, first_broken, first_only}
use Rattle.tables.specs.Header.{header_rules, header_verdict, RightHeader}
use Rattle.tables.specs.Parts.{Parts, parts_of, word_place}
use Rattle.tables.proofs.Right.{header_sound, sound_header}
use Rattle.tables.proofs.Reading.{sized_of}
use Rattle.mesh.specs.Floats.{rule7}
use Rattle.mesh.specs.Faces.{rule8, rule9, rule10}
use Rattle.mesh.specs.Mesh.{Meshed, rules7to10}
use Rattle.mesh.proofs.Plain.{mesh_met, met_mesh}
use Rattle.pairs.specs.Halves.{rule15, rule16, rules15to16}
use Rattle.border.specs.Loops.{rule17, rule18, rule19, rules17to19}
use Rattle.border.proofs.Sound.{borders_sound, sound_borders}
use Rattle.floor.specs.Groups.{rules15to19}
use Rattle.floor.specs.Reader.{rule20}
use Rattle.floor.proofs.Meaning.{room_enough}
use Rattle.plant.specs.Plant.{planted_form, rule49, rule40, plant_rules, plant_verdict, bare_verdict}
use Rattle.plant.specs.Plain.{Bare}

-- ---- the verdict by groups, as code goes

module _ (b : List ℕ) (room out : ℕ) where
  abbrev p : Parts
  p = parts_of b

  -- 7 to 10, 49, 15 to 19, 40
  abbrev late : List Answer
  late = rule7 (word_place b) p ∷ rule8 p ∷ rule9 p ∷ rule10 p ∷ rule49 p ∷ rule15 p ∷ rule16 p ∷ rule17 p ∷ rule18 p ∷ rule19 p ∷ rule40 b out ∷ []

  late_groups : in_order late ≡ (((rules7to10 (word_place b) p then rule49 p) then rules15to19 p) then rule40 b out)
  unfolding in_order rules7to10 rules15to19 rules15to16 rules17to19 rule40
  late_groups = simp (then_assoc, then_last (rule40 b out) (rule_proper 39 (ltb out (length (planted_form b))) 0))

  pub plant_groups : plant_verdict b room out ≡ (rule20 room then (bare_verdict b then rule40 b out))
  unfolding plant_verdict plant_rules in_order bare_verdict header_verdict
  plant_groups =
      ap (λ (r : Answer). rule20 room then r)
      (order_append (header_rules b) late ∙ ap (λ (r : Answer). in_order (header_rules b) then r) late_groups ∙ simp then_assoc)

  -- it is the first broken rule in order, and no other answer is
  pub plant_first : FirstBroken (plant_rules b room out) (plant_verdict b room out)
  unfolding plant_verdict
  plant_first = first_broken (plant_rules b room out)

  pub plant_only : (a : Answer) → FirstBroken (plant_rules b room out) a → a ≡ plant_verdict b room out
  plant_only a f = first_only (plant_rules b room out) a (plant_verdict b room out) f plant_first

-- ---- exactly the bare floors

pub bare_met : (b : List ℕ) → (bare_verdict b).number ≡ 0 → Bare b
unfolding bare_verdict rules15to19 rule49
bare_met b z =
    let h = passed _ _ z in
    let k = passed _ _ h.1 in
    let m = passed _ _ k.0 in
    let e = passed _ _ k.1 in
    record {
      header = header_sound b h.0;
      mesh = mesh_met (word_place b) (parts_of b) (sized_of b h.0).adjacency m.0;
      bare = eqb-true (parts_of b).nodes 0 (not-false _ (unbroken 48 (not (eqb (parts_of b).nodes 0)) 100 m.1));
      borders = borders_sound (parts_of b) e.0 e.1;
    }

-- what the code goes by once they are met
pub bare_right : (b : List ℕ) → (bare_verdict b).number ≡ 0 → RightHeader b × Meshed (parts_of b)
unfolding bare_verdict
bare_right b z = ((passed _ _ z).0, (bare_met b z).mesh)

pub met_bare : (b : List ℕ) → Bare b → bare_verdict b ≡ accepted
unfolding bare_verdict rules15to19 rule49
met_bare b s =
    let e = sound_borders (parts_of b) s.borders in
    then_both (sound_header b s.header)
    (then_both (then_both (met_mesh (word_place b) (parts_of b) s.mesh) (rw (eq-eqb (parts_of b).nodes 0 s.bare) (met 49 100))) (then_both e.0 e.1))

-- the call writes a form exactly for these, with work memory enough and room for the form
module _ (b : List ℕ) (room out : ℕ) where
  pub plant_met : (plant_verdict b room out).number ≡ 0 → Bare b × (work_size ≤ room) × (length (planted_form b) ≤ out)
  unfolding rule20 rule40
  plant_met z =
      let h = passed _ _ (rw (plant_groups b room out) at z) in
      let k = passed _ _ h.1 in
      (bare_met b k.0, ltb-false room work_size (unbroken 19 (ltb room work_size) 0 h.0), ltb-false out (length (planted_form b)) (unbroken 39 (ltb out (length (planted_form b))) 0 k.1))

  pub met_plant : Bare b → work_size ≤ room → length (planted_form b) ≤ out → plant_verdict b room out ≡ accepted
  unfolding rule40
  met_plant s l m =
      plant_groups b room out
      ∙ then_both (room_enough room l) (then_both (met_bare b s) (rw (le-ltb out (length (planted_form b)) m) (met 40 0)))
