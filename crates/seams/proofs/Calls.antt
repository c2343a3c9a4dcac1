-- What mending a floor gives, as theorems about the call's answers: the result is accepted, mended again it is the same, what stays, how corners
-- are sewn, and that no transition is lost silently. Assumes nothing.
use Prim.Native.Nat.{ℕ, zero, suc, ◌<◌, ◌≤◌}
use native.Mathlib.Omega.{arith}
use native.Mathlib.Decide.{dec_lt}
use mathlib.Core.Path.{◌≡◌, refl, sym, ap, subst, ◌∙◌}
use mathlib.Core.Logic.{inl, inr}
use mathlib.Core.Bool.{true, false, not, cond}
use mathlib.Core.List.{List, [], ◌++◌, append_assoc}
use lib.ListN.{length}
use lib.Dec.{ltb, leb}
use borrow.Author.Tests.{lt-ltb, le-leb, le-ltb, leb-true, not-false}
use Rattle.verdict.specs.Lowest.{lowest}
use Rattle.verdict.specs.Lists.{bit}
use Rattle.verdict.specs.Verdict.{accepted}
use Rattle.verdict.specs.Memory.{work_size}
use Rattle.verdict.specs.Output.{over, form_memory}
use Rattle.verdict.specs.declared.Answer.{Answer}
use Rattle.verdict.proofs.Bools.{clash, test, decided, and_true, true_and, not_of_false}
use Rattle.verdict.proofs.Lowest.{lowest_is, all_true, true_all, some_under}
use Rattle.verdict.proofs.Output.{over_none, form_refused}
use Rattle.wire.specs.Bytes.{Bytes}
use Rattle.tables.specs.Parts.{Parts, parts_of, word_of, corner, edge_of, transition}
use Rattle.tables.specs.Fixed.{Sized, Whole, form_of}
use Rattle.mesh.specs.Mesh.{Cornered, Meshed}
use Rattle.pairs.specs.Halves.{halves, border}
use Rattle.pairs.specs.Plain.{Apart}
use Rattle.border.specs.Loops.{wrong_transition}
use Rattle.floor.specs.Groups.{rules1to14}
use Rattle.floor.specs.Reader.{answer_of, reader_answer}
use Rattle.floor.proofs.Meaning.{early_met, sound_early}
use Rattle.corners.specs.Corners.{level, same_point, lowest_same, relinked, recornered}
use Rattle.corners.proofs.Corners.{lowest_vertex, lowest_same_point, lowest_one, lowest_own, mended_corner}
use Rattle.rings.specs.Afresh.{web_of}
use Rattle.rings.proofs.Afresh.{balanced}
use Rattle.rings.proofs.Complete.{each_once}
use Rattle.rings.proofs.Places.{one_place}
use Rattle.kept.specs.Kept.{valid_entry, entry_of, leads_of, led_by, kept, led, lost}
use Rattle.kept.proofs.Entries.{entry_own, kept_entry}
use Rattle.seams.specs.Mended.{mended}
use Rattle.seams.specs.Changes.{lost_record, corner_changes, lost_changes, changes}
use Rattle.seams.specs.Mend.{mended_form, mended_list, mend_verdict, answer_by, mend_answer, mend_output, mend_list}
use Rattle.seams.specs.Plain.{SamePlace, Stays, Sewn, Leads, PartOf, KeptOrListed}
use Rattle.seams.proofs.Lists.{each_part}
use Rattle.seams.proofs.Result.{L, edge_count, edge_at, transition_at, apart_mended, whole_file, form_parts, form_sound, form_answer}
use Rattle.seams.proofs.Twice.{mended_twice, no_changes, cornered_again, apart_again}
use Rattle.seams.proofs.Order.{Mendable, mend_met, met_mend}

-- ---- what stays

pub stays : (p : Parts) → Stays p (mended p)
unfolding mended relinked
stays p = record {
  floats = refl;
  vertices = refl;
  faces = refl;
  nodes = refl;
  root = refl;
  adjacency = refl;
  vertex_table = refl;
  materials = refl;
  normals = refl;
  distances = refl;
  node_table = refl;
}

-- ---- corners

module _ (p : Parts) where
  place_of : (u v : ℕ) → same_point p u v ≡ true → SamePlace p u v
  unfolding same_point level
  place_of u v e = record {
    x = all_true (level p u v) 3 e 0 (omega arith);
    y = all_true (level p u v) 3 e 1 (omega arith);
    z = all_true (level p u v) 3 e 2 (omega arith);
  }

  of_place : (u v : ℕ) → SamePlace p u v → same_point p u v ≡ true
  unfolding same_point level
  of_place u v s = true_all (level p u v) 3 (three s)
    where
      three : SamePlace p u v → (e : ℕ) → e < 3 → level p u v e ≡ true
      three s zero l = s.x
      three s (suc zero) l = s.y
      three s (suc (suc zero)) l = s.z
      three s (suc (suc (suc e))) l = absurd (omega arith)

  module _ (s : Sized p) (mesh : Meshed p) where
    corner_is : (f e : ℕ) → f < p.faces → e < 3 → corner (mended p) f e ≡ lowest_same p (corner p f e)
    corner_is f e l k = unfold mended recornered relinked word_of in mended_corner p s f e l k

    old : (f e : ℕ) → f < p.faces → e < 3 → corner p f e < p.vertices
    old f e l k = mesh.cornered.under f e l k

    -- the lowest vertex with these coordinates is at most any of them
    at_most : (u v : ℕ) → v < p.vertices → same_point p u v ≡ true → lowest_same p u ≤ v
    unfolding lowest_same
    at_most u v l e = decided (dec_lt v (lowest p.vertices (same_point p u))) (λ b. clash e ((lowest_is (same_point p u) p.vertices).before v b)) (λ b. omega arith)

    place_back : (u v : ℕ) → SamePlace (mended p) u v → SamePlace p u v
    unfolding mended relinked word_of
    place_back u v a = record { x = a.x; y = a.y; z = a.z }

    pub sewn : Sewn p (mended p)
    sewn = record {
      place = λ f e l k. rw (corner_is f e l k) (place_of (corner p f e) (lowest_same p (corner p f e)) (lowest_same_point p mesh.finite (corner p f e) (old f e l k)));
      lowest = λ f e v l k b a. rw (corner_is f e l k) (at_most (corner p f e) v b (of_place (corner p f e) v a));
      one = λ f e g d l k n o a. same f e g d (unfold mended relinked in l) k (unfold mended relinked in n) o (place_back _ _ a);
    }
      where
        same : (f e g d : ℕ) → f < p.faces → e < 3 → g < p.faces → d < 3 → SamePlace p (corner (mended p) f e) (corner (mended p) g d) → corner (mended p) f e ≡ corner (mended p) g d
        same f e g d l k n o a =
            let u = corner p f e in
            let v = corner p g d in
            let fin = mesh.finite in
            let lu = lowest_vertex p fin u (old f e l k) in
            let lv = lowest_vertex p fin v (old g d n o) in
            let one = lowest_one p fin (lowest_same p u) (lowest_same p v) lu lv (of_place _ _ (rw (corner_is f e l k, corner_is g d n o) at a)) in
            corner_is f e l k ∙ sym (lowest_own p fin u (old f e l k)) ∙ one ∙ lowest_own p fin v (old g d n o) ∙ sym (corner_is g d n o)

-- ---- no transition is lost silently

module _ (p : Parts) (w : Whole p) (mesh : Meshed p) (c : Cornered (recornered p)) (a : Apart (recornered p)) where
  room_allowed : (i : ℕ) → transition p i ≤ 63 → wrong_transition p i ≡ false
  unfolding wrong_transition
  room_allowed i l = rw (le-ltb 63 (transition p i) l)

  entry_leads : (i : ℕ) → Leads p i → entry_of p (edge_of p i) i ≡ true
  entry_leads i k =
      entry_own p i
      (unfold valid_entry in true_and (ltb (edge_of p i) (halves p)) (not (wrong_transition p i)) (lt-ltb (edge_of p i) (halves p) k.walkable) (not_of_false (wrong_transition p i) (room_allowed i k.room)))

  led_of : (i : ℕ) → Leads p i → led p (edge_of p i) ≡ true
  unfolding led_by leads_of
  led_of i k = some_under (leads_of p (edge_of p i)) p.edges i k.entry (unfold leads_of in true_and (entry_of p (edge_of p i) i) (leb (transition p i) 63) (entry_leads i k) (le-leb (transition p i) 63 k.room))

  -- what is not lost is a border, and is kept
  not_lost : (h : ℕ) → led p h ≡ true → lost p (recornered p) h ≡ false → (border (recornered p) h ≡ true) × (kept p h ≤ 63)
  unfolding lost
  not_lost h y n =
      let k = and_true (border (recornered p) h) (leb (kept p h) 63) (not-false _ (rw y at n)) in
      (k.0, leb-true (kept p h) 63 k.1)

  in_list : (h : ℕ) → h < halves p → lost p (recornered p) h ≡ true → PartOf (lost_record h) (changes p)
  unfolding changes lost_changes
  in_list h l y =
      let f : ℕ → List ℕ = λ (k : ℕ). cond (lost p (recornered p) k) (lost_record k) [] in
      let e : f h ≡ lost_record h = rw y in
      let k = each_part f (halves p) h l in
      record {
        before = corner_changes p ++ k.before;
        behind = k.behind;
        is = ap (λ (x : List ℕ). corner_changes p ++ x) (k.is ∙ ap (λ (x : List ℕ). k.before ++ (x ++ k.behind)) e) ∙ sym (append_assoc (corner_changes p) k.before (lost_record h ++ k.behind));
      }

  pub kept_or_listed : KeptOrListed p
  kept_or_listed i k =
      let h = edge_of p i in
      test (lost p (recornered p) h) (λ y. inr (in_list h k.walkable y))
      (λ y.
      let n = not_lost h (led_of i k) y in
      let edges = L p w mesh c a in
      let o = one_place edges h (each_once (web_of (recornered p)) (balanced (recornered p) a) h ∙ ap bit n.0) in
      let inside : o.at < (mended p).edges = rw (edge_count p w mesh c a) o.below in
      inl (record {
        at = o.at;
        inside = inside;
        half = edge_at p w mesh c a o.at o.below ∙ o.here;
        leads = transition_at p w mesh c a o.at o.below ∙ ap (kept p) o.here ∙ kept_entry p h p.edges i k.entry (entry_leads i k) n.1;
      }))

-- ---- the call: a floor that is mended, and mended again

module _ (b : List ℕ) (y : Bytes b) (room out list : ℕ) (z : (mend_verdict b room out list).number ≡ 0) where
  k : Mendable b room out list
  k = mend_met b room out list z

  -- the result is accepted by the reader, with the counts of the mended floor
  pub mended_accepted : (room' : ℕ) → work_size ≤ room' → reader_answer (mended_form b) room' ≡ answer_of accepted (mended (parts_of b))
  mended_accepted = form_answer b y k.early k.cornered k.apart

  abbrev parts_are : parts_of (mended_form b) ≡ mended (parts_of b)
  parts_are = form_parts b y k.early k.cornered k.apart

  abbrev w : Whole (parts_of b)
  w = whole_file b y k.early k.cornered k.apart

  -- mended again: the same bytes and an empty list
  pub form_again : mended_form (mended_form b) ≡ mended_form b
  unfolding mended_form
  form_again = ap (λ (p : Parts). form_of (mended p)) (unfold mended_form in parts_are) ∙ ap form_of (mended_twice (parts_of b) w k.early.mesh k.cornered k.apart)

  pub list_again : mended_list (mended_form b) ≡ []
  unfolding mended_list
  list_again = ap changes parts_are ∙ no_changes (parts_of b) w k.early.mesh k.cornered k.apart

  -- .. whatever work memory is lent, if it is enough, and whatever outputs, if the form fits
  module _ (room' : ℕ) (l : work_size ≤ room') (o t : List ℕ) (fits : length (mended_form b) ≤ length o) where
    early_again : rules1to14 (mended_form b) ≡ accepted
    early_again = sound_early (mended_form b) (form_sound b y k.early k.cornered k.apart)

    verdict_again : mend_verdict (mended_form b) room' (length o) (length t) ≡ accepted
    verdict_again =
        met_mend (mended_form b) room' (length o) (length t) early_again (record {
          early = early_met (mended_form b) (ap (λ (r : Answer). r.number) early_again);
          run = subst Apart (sym parts_are) (apart_mended (parts_of b) w k.early.mesh k.cornered k.apart);
          cornered = subst (λ (p : Parts). Cornered (recornered p)) (sym parts_are) (cornered_again (parts_of b) w k.early.mesh k.cornered k.apart);
          apart = subst (λ (p : Parts). Apart (recornered p)) (sym parts_are) (apart_again (parts_of b) w k.early.mesh k.cornered k.apart);
          memory = l;
          form = rw form_again fits;
          changes = rw list_again (omega arith);
        })

    pub again_answer : mend_answer (mended_form b) room' (length o) (length t) ≡ record { number = 0; place = 0; length = length (mended_form b); listed = 0 }
    unfolding mend_answer answer_by
    again_answer = rw (verdict_again, form_again, list_again)

    pub again_output : (mend_output (mended_form b) room' o t ≡ over (mended_form b) o) × (mend_list (mended_form b) room' o t ≡ t)
    unfolding mend_output mend_list form_memory
    again_output = (rw (verdict_again, form_again), rw (verdict_again, list_again) (sym (over_none t)))

-- a refused call writes neither output
pub mend_refused : (b : List ℕ) (room : ℕ) (o t : List ℕ) → ((mend_verdict b room (length o) (length t)).number ≡ 0 → ⊥) → (mend_output b room o t ≡ o) × (mend_list b room o t ≡ t)
unfolding mend_output mend_list
mend_refused b room o t z = (sym (form_refused _ (mended_form b) o z).1, sym (form_refused _ (mended_list b) t z).1)
