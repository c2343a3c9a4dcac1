-- The order of mending's refusals: by groups, as the first broken rule, and what is so where none is broken. Assumes nothing.
use Prim.Native.Nat.{ℕ, suc, ◌≤◌}
use mathlib.Core.Path.{◌≡◌, refl, ap, ◌∙◌}
use mathlib.Core.Bool.{Bool, false}
use mathlib.Core.List.{List, [], ◌∷◌, ◌++◌}
use lib.ListN.{length}
use lib.Dec.{ltb}
use borrow.Author.Tests.{ltb-false, le-ltb}
use Rattle.verdict.specs.Verdict.{accepted, rule, ◌then◌, in_order, FirstBroken}
use Rattle.verdict.specs.Memory.{work_size}
use Rattle.verdict.specs.declared.Answer.{Answer}
use Rattle.verdict.proofs.Verdict.{then_next, then_assoc, then_both, passed, unbroken, met, each_met, then_last, rule_proper, order_append, first_broken, first_only}
use Rattle.tables.specs.Parts.{Parts, parts_of, word_place}
use Rattle.mesh.specs.Mesh.{Cornered}
use Rattle.mesh.specs.Faces.{rule8}
use Rattle.mesh.proofs.Plain.{finite_all, all_cornered, cornered_all, painted_all}
use Rattle.nodes.specs.Plain.{SoundNodes}
use Rattle.nodes.proofs.Rule12.{met_rule11, met_rule12, sound_closed}
use Rattle.tree.specs.Plain.{BoxesHold}
use Rattle.tree.proofs.Theorem.{met_rule13}
use Rattle.tree.proofs.Held.{met_boxes}
use Rattle.pairs.specs.Halves.{halves, repeats, rule15}
use Rattle.pairs.specs.Plain.{Apart}
use Rattle.pairs.proofs.Paired.{apart_of, apart_met}
use Rattle.floor.specs.Groups.{rules1to14, rules1to15}
use Rattle.floor.specs.Reader.{rule20, early_rules, early_reader_rules}
use Rattle.floor.proofs.Order.{early_reader, run_proper}
use Rattle.floor.proofs.Meaning.{Early, early_met}
use Rattle.corners.specs.Corners.{relinked, mended_corners, recornered}
use Rattle.seams.specs.Mend.{mended_form, mended_list, room_verdict, mend_rules, mend_verdict}
use Rattle.seams.proofs.Relinked.{finite_re, painted_re, nodes_re, tree_re, boxes_re}
use Rattle.seams.proofs.Result.{place_kept}

-- ---- the rules run again: those that read no corner hold as they did, and boxes hold what they held

accepted_then : (b : Answer) → (accepted then b) ≡ b
accepted_then b = then_next accepted b refl

module _ (b : List ℕ) (e : Early b) where
  abbrev p : Parts
  p = parts_of b

  abbrev q : Parts
  q = recornered p

  boxes_again : BoxesHold q
  unfolding recornered
  boxes_again = boxes_re p (mended_corners p) _ _ _ _ _ (λ f i d l k n. unfold recornered in place_kept p e.sized e.mesh f i d l k n) e.boxes

  pub run_again : (place : ℕ → ℕ → ℕ) → in_order (early_rules place q) ≡ (rule8 q then rule15 q)
  unfolding early_rules in_order
  run_again place =
      let nodes : SoundNodes q = unfold recornered in nodes_re p _ _ _ _ _ _ e.nodes in
      let faces : q.faces ≤ 4096 = unfold recornered relinked in e.sized.faces in
      let painted = painted_all q (unfold recornered in painted_re p _ _ _ _ _ _ e.mesh.painted) in
      rw (
        finite_all place q (unfold recornered in finite_re p _ _ _ _ _ _ e.mesh.finite),
        painted.0,
        painted.1,
        met_rule11 q nodes.count nodes.root,
        met_rule12 q nodes.kinds,
        met_rule13 q (sound_closed q faces nodes) (unfold recornered in tree_re p _ _ _ _ _ _ e.tree),
        met_boxes q faces nodes.kinds boxes_again,
        then_last (rule15 q) (run_proper q),
      )
      (simp accepted_then)

-- ---- the verdict by groups, as code goes

-- 40 of one output
abbrev forty : ℕ → List ℕ → Answer
forty room bytes = rule 40 (ltb room (length bytes)) 0

two_rules : (b : List ℕ) (out list : ℕ) → in_order (forty out (mended_form b) ∷ forty list (mended_list b) ∷ []) ≡ room_verdict b out list
unfolding in_order room_verdict
two_rules b out list =
    ap (λ (r : Answer). forty out (mended_form b) then r) (then_last (forty list (mended_list b)) (rule_proper 39 (ltb list (length (mended_list b))) 0))

module _ (b : List ℕ) (room out list : ℕ) where
  pub mend_groups : mend_verdict b room out list ≡
      (rule20 room then (rules1to15 b then (in_order (early_rules (word_place b) (recornered (parts_of b))) then room_verdict b out list)))
  unfolding mend_verdict mend_rules
  mend_groups =
      let again = early_rules (word_place b) (recornered (parts_of b)) in
      let last = forty out (mended_form b) ∷ forty list (mended_list b) ∷ [] in
      order_append (early_reader_rules b room) (again ++ last)
      ∙ ap (λ (r : Answer). r then in_order (again ++ last)) (early_reader b room)
      ∙ ap (λ (r : Answer). (rule20 room then rules1to15 b) then r) (order_append again last ∙ ap (λ (r : Answer). in_order again then r) (two_rules b out list))
      ∙ then_assoc (rule20 room) (rules1to15 b) _

  -- it is the first broken rule in order, and no other answer is
  pub mend_first : FirstBroken (mend_rules b room out list) (mend_verdict b room out list)
  unfolding mend_verdict
  mend_first = first_broken (mend_rules b room out list)

  pub mend_only : (a : Answer) → FirstBroken (mend_rules b room out list) a → a ≡ mend_verdict b room out list
  mend_only a f = first_only (mend_rules b room out list) a (mend_verdict b room out list) f mend_first

-- ---- what is so where nothing is refused

pub record Mendable (b : List ℕ) (room out list : ℕ) : Type 0 where
  pub early : Early b
  pub run : Apart (parts_of b)
  pub cornered : Cornered (recornered (parts_of b))
  pub apart : Apart (recornered (parts_of b))
  pub memory : work_size ≤ room
  pub form : length (mended_form b) ≤ out
  pub changes : length (mended_list b) ≤ list

-- rule 15 and its plain statement
pub run_met : (p : Parts) → (rule15 p).number ≡ 0 → Apart p
unfolding rule15
run_met p z = apart_of p (λ h l. each_met 14 (halves p) (repeats p) (λ k. k) z h l)

-- enough memory, or an output with room
room_met : (n : ℕ) (t : Bool) → (rule (suc n) t 0).number ≡ 0 → t ≡ false
room_met n t z = unbroken n t 0 z

module _ (b : List ℕ) (room out list : ℕ) where
  pub mend_met : (mend_verdict b room out list).number ≡ 0 → Mendable b room out list
  unfolding rules1to15 rule20 room_verdict
  mend_met z =
      let h0 = passed _ _ (rw (mend_groups b room out list) at z) in
      let h1 = passed _ _ h0.1 in
      let h2 = passed _ _ h1.1 in
      let h3 = passed _ _ h2.1 in
      let r = passed _ _ h1.0 in
      let e = early_met b r.0 in
      let k = passed _ _ (rw (run_again b e (word_place b)) at h2.0) in
      record {
        early = e;
        run = run_met (parts_of b) r.1;
        cornered = all_cornered (recornered (parts_of b)) k.0;
        apart = run_met (recornered (parts_of b)) k.1;
        memory = ltb-false room work_size (room_met 19 (ltb room work_size) h0.0);
        form = ltb-false out (length (mended_form b)) (room_met 39 (ltb out (length (mended_form b))) h3.0);
        changes = ltb-false list (length (mended_list b)) (room_met 39 (ltb list (length (mended_list b))) h3.1);
      }

  pub met_mend : rules1to14 b ≡ accepted → Mendable b room out list → mend_verdict b room out list ≡ accepted
  unfolding rules1to15 rule20 room_verdict
  met_mend r m =
      mend_groups b room out list
      ∙ then_both (rw (le-ltb room work_size m.memory) (met 20 0))
      (then_both (then_both r (apart_met (parts_of b) m.run))
      (then_both (run_again b m.early (word_place b) ∙ then_both (cornered_all (recornered (parts_of b)) m.cornered) (apart_met (recornered (parts_of b)) m.apart))
      (then_both (rw (le-ltb out (length (mended_form b)) m.form) (met 40 0)) (rw (le-ltb list (length (mended_list b)) m.changes) (met 40 0)))))
