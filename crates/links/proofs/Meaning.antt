-- The link check lets through exactly what `Joined` says; and a test at a time what one transition is. Assumes nothing.
use mathlib.Core.Path.{◌≡◌, refl, sym, ap, ◌∙◌}
use mathlib.Core.Logic.{◌⊎◌, inl, inr}
use mathlib.Core.Bool.{false}
use mathlib.Core.List.{List}
use Prim.Native.Nat.{ℕ, ◌<◌}
use lib.ListN.{length}
use lib.Dec.{leb, eqb}
use borrow.Author.Tests.{eq-eqb, ne_eqb, eqb-true, leb-false, lt-leb}
use Rattle.verdict.specs.Verdict.{◌then◌, accepted}
use Rattle.std.specs.declared.result.Result.TheVariants.{Ok, Err}
use Rattle.verdict.specs.Verdict.{refused, accepted}
use Rattle.verdict.specs.Refusals.{number_of}
use Rattle.verdict.specs.declared.Refused.{Refused}
use Rattle.verdict.specs.declared.Answer.{Answer}
use Rattle.verdict.proofs.Bools.{test}
use Rattle.verdict.proofs.Verdict.{then_assoc, passed, then_both, each_met, each_passes}
use Rattle.tables.specs.Parts.{none32, Parts, parts_of, transition}
use Rattle.floor.specs.Reader.{reader_verdict}
use Rattle.floor.proofs.Meaning.{accepted_sound, sound_accepted, room_is_enough}
use Rattle.layout.specs.Layout.{layout_verdict}
use Rattle.rooms.specs.Rooms.{Rooms, told_rooms, room_names, rooms_of}
use Rattle.layout.proofs.ReadLaws.{verdict_proper}
use Rattle.links.specs.Links.{astray, rule42, link_verdict}
use Rattle.links.specs.Plain.{Joined}

-- ---- one transition

module _ (p : Parts) (rooms i t : ℕ) (own : t ≡ transition p i) where
  pub astray_none : t ≡ none32 → false ≡ astray p rooms i
  unfolding astray
  astray_none e = rw (← own, eq-eqb t none32 e)

  pub astray_some : (t ≡ none32 → ⊥) → leb rooms t ≡ astray p rooms i
  unfolding astray
  astray_some z = rw (← own, ne_eqb t none32 z)

module _ (p : Parts) (rooms i : ℕ) where
  led : astray p rooms i ≡ false → (transition p i ≡ none32) ⊎ (transition p i < rooms)
  led e =
      test (eqb (transition p i) none32) (λ h. inl (eqb-true _ _ h))
      (λ h. inr (leb-false rooms (transition p i) (unfold astray in rw h at e)))

  led_back : (transition p i ≡ none32) ⊎ (transition p i < rooms) → astray p rooms i ≡ false
  led_back (inl e) = sym (astray_none p rooms i (transition p i) refl e)
  led_back (inr l) =
      test (eqb (transition p i) none32) (λ h. sym (astray_none p rooms i (transition p i) refl (eqb-true _ _ h)))
      (λ h. unfold astray in rw (h, lt-leb rooms (transition p i) l))

-- ---- what the layout's own call answers

pub text_met : (text : List ℕ) (n : ℕ) → told_rooms (Ok n) ≡ rooms_of text → (accepted ≡ layout_verdict text) × (n ≡ length (room_names text))
unfolding rooms_of
text_met text n e = (ap (λ (q : Rooms). record { number = q.number; place = q.place }) e, ap (λ (q : Rooms). q.rooms) e)

pub text_refused : (text : List ℕ) (r : Refused) → told_rooms (Err r) ≡ rooms_of text → refused (number_of r.refusal) r.place ≡ layout_verdict text
unfolding rooms_of
text_refused text r e = ap (λ (q : Rooms). record { number = q.number; place = q.place }) e

-- ---- the check

-- as code goes: the reader, then what is left
pub in_turn : (b : List ℕ) (room : ℕ) (text : List ℕ)
    → (reader_verdict b room then (layout_verdict text then rule42 (parts_of b) (length (room_names text)))) ≡ link_verdict b room text
unfolding link_verdict
in_turn b room text = sym (then_assoc (reader_verdict b room) (layout_verdict text) (rule42 (parts_of b) (length (room_names text))))

pub link_joined : (b : List ℕ) (room : ℕ) (text : List ℕ) → (link_verdict b room text).number ≡ 0 → Joined b room text
unfolding rule42
link_joined b room text z =
    let r = rule42 (parts_of b) (length (room_names text)) in
    let h = passed (reader_verdict b room) (layout_verdict text then r) (ap (λ (a : Answer). a.number) (in_turn b room text) ∙ z) in
    let g = passed (layout_verdict text) r h.1 in
    record {
      memory = room_is_enough b room h.0;
      floor = accepted_sound b room h.0;
      layout = g.0;
      rooms = λ i l. led (parts_of b) (length (room_names text)) i (each_met 41 (parts_of b).edges (astray (parts_of b) (length (room_names text))) (λ j. j) g.1 i l);
    }

pub joined_link : (b : List ℕ) (room : ℕ) (text : List ℕ) → Joined b room text → link_verdict b room text ≡ accepted
unfolding rule42
joined_link b room text j =
    sym (in_turn b room text)
    ∙ then_both (sound_accepted b room j.memory j.floor)
    (then_both ((verdict_proper text).at_0 j.layout)
    (each_passes 42 (parts_of b).edges (astray (parts_of b) (length (room_names text))) (λ i. i) (λ i l. led_back (parts_of b) (length (room_names text)) i (j.rooms i l))))
