-- Likeness of layouts goes from a layout to itself, both ways, and on from one to the next, though `renamed` reads one way. Assumes nothing.
use mathlib.Core.Path.{◌≡◌, refl, sym, ap, ◌∙◌}
use mathlib.Core.Logic.{◌≢◌}
use mathlib.Core.Bool.{true, false}
use mathlib.Core.List.{List, [], ◌∷◌, map}
use Prim.Native.Nat.{ℕ, zero, suc, ◌<◌}
use native.Mathlib.Omega.{arith}
use native.Mathlib.Decide.{dec_lt}
use lib.ListN.{length, get_or, length-map, get_or-eq_default}
use Rattle.verdict.proofs.Bools.{clash, test, decided}
use Rattle.verdict.proofs.Each.{Each}
use Rattle.letters.specs.Case.{lowered}
use Rattle.names.specs.Name.{is_name, same_name}
use Rattle.names.proofs.NameLaws.{same_name_true, same_name_lowered, same_name_sym, same_name_refl}
use Rattle.text.specs.Reading.{Word}
use Rattle.layout.specs.Layout.{layout_verdict}
use Rattle.rooms.specs.Rooms.{room_names}
use Rattle.caption.specs.Caption.{room_name}
use Rattle.layoutform.specs.Form.{Entry, parts_of}
use Rattle.layoutform.specs.Rewrite.{named, renamed_at, name_in, renamed_from, renamed}
use Rattle.layoutform.proofs.PartLaws.{part_names, GoodEntry, parts_good}
use Rattle.layoutform.proofs.ByName.{names_are, no_name, from_same, from_other}
use Rattle.layoutform.proofs.RenameLaws.{names_of_parts}
use Rattle.sight.specs.Plain.{NamesRoom}
use Rattle.sight.proofs.BlockLaws.{named_room}
use Rattle.sight.proofs.SightLaws.{names_apart}
use Rattle.screens.specs.Alike.{AlikeLayouts}
use Rattle.screens.specs.Screens.{form_name}
use Rattle.screens.proofs.NameLaws.{alike_names}
use Rattle.screens.proofs.LayoutForms.{named_self, name_in_parts, small_name}

-- ---- rooms: the later of two names counts, and with its own name a room is as it was

rooms_on : (es : List Entry) (j : ℕ) (a b : Word) → renamed_at (renamed_at es j a) j b ≡ renamed_at es j b
unfolding renamed_at named
rooms_on [] j a b = refl
rooms_on (e ∷ es) zero a b = refl
rooms_on (e ∷ es) (suc j) a b = ap (λ (r : List Entry). e ∷ r) (rooms_on es j a b)

rooms_self : (es : List Entry) (j : ℕ) → renamed_at es j (name_in es j) ≡ es
unfolding renamed_at name_in
rooms_self [] j = refl
rooms_self (e ∷ es) zero = ap (λ (x : Entry). x ∷ es) (named_self e)
rooms_self (e ∷ es) (suc j) = ap (λ (r : List Entry). e ∷ r) (rooms_self es j)

-- ---- hooks: the same, where none has the new name that has not the old one

module _ (rooms : List Word) (old new : Word) (fresh : (e : Entry) → GoodEntry 5 rooms e → same_name e.name old ≡ false → same_name e.name new ≡ false) (c : Word) where
  hook_on : (e : Entry) → GoodEntry 5 rooms e → renamed_from new c (renamed_from old new e) ≡ renamed_from old c e
  hook_on e g =
      test (same_name e.name old)
      (λ (h : same_name e.name old ≡ true).
      rw (from_same old new e h, from_same old c e h) (from_same new c (named new e) (unfold named in (same_name_refl new)) ∙ (unfold named in refl)))
      (λ (h : same_name e.name old ≡ false). rw (from_other old new e h, from_other old c e h) (from_other new c e (fresh e g h)))

  hooks_on : (es : List Entry) → Each (GoodEntry 5 rooms) es → map (renamed_from new c) (map (renamed_from old new) es) ≡ map (renamed_from old c) es
  hooks_on [] g = refl
  hooks_on (e ∷ es) (g, gs) = rw (hook_on e g, hooks_on es gs)

module _ (rooms : List Word) (old : Word) (small : lowered old ≡ old) where
  hook_self : (e : Entry) → GoodEntry 5 rooms e → renamed_from old old e ≡ e
  hook_self e g =
      test (same_name e.name old)
      (λ (h : same_name e.name old ≡ true).
      let n : old ≡ e.name = sym (sym g.name.small ∙ same_name_true e.name old h ∙ small) in
      from_same old old e h ∙ ap (λ (x : Word). named x e) n ∙ named_self e)
      (λ (h : same_name e.name old ≡ false). from_other old old e h)

  hooks_self : (es : List Entry) → Each (GoodEntry 5 rooms) es → map (renamed_from old old) es ≡ es
  hooks_self [] g = refl
  hooks_self (e ∷ es) (g, gs) = rw (hook_self e g, hooks_self es gs)

-- ---- parts

-- beside a typed name, or beside it in lower case, it is the same question
same_typed : (u x : Word) → same_name u (lowered x) ≡ same_name u x
same_typed u x = same_name_sym u (lowered x) ∙ same_name_lowered x u ∙ same_name_sym x u

parts_self : (j : ℕ) (v : List ℕ) → renamed (parts_of v) j (room_name v j) ≡ parts_of v
unfolding renamed
parts_self j v =
    let rs = (parts_of v).rooms in
    let g = parts_good v in
    rw (← name_in_parts v j, rooms_self rs j, hooks_self (part_names rs) (name_in rs j) (small_name 2 _ rs g.rooms j) (parts_of v).hooks g.hooks)

module _ (j : ℕ) (v w : List ℕ) (a : AlikeLayouts j v w) where
  abbrev rs : List Entry
  rs = (parts_of v).rooms

  -- a hook of another room names it in the second layout too
  names_too : (u : Word) (i : ℕ) → is_name u ≡ true → i < length (part_names rs) → same_name u (get_or (part_names rs) i []) ≡ true → i ≢ j → NamesRoom (room_names w) u i
  unfolding room_name
  names_too u i n l h k =
      let long = (alike_names j v w a).long in
      record {
        name = n;
        inside = omega (arith, long, ap length (names_of_parts v), length-map (room_names v) lowered);
        same = rw (← a.others i k) (sym (same_typed u (room_name v i)) ∙ (rw (← name_in_parts v i, names_are rs i) h));
      }

  -- so one that has not room j's name in the first has not its name in the second
  fresh : (e : Entry) → GoodEntry 5 (part_names rs) e → same_name e.name (name_in rs j) ≡ false → same_name e.name (form_name w j) ≡ false
  unfolding room_name
  fresh e g h =
      let m = g.hook refl in
      let n : m.at ≢ j = λ (q : m.at ≡ j). clash (rw (names_are rs j) (rw q at m.same)) h in
      let r = names_too e.name m.at g.name.name m.inside m.same n in
      test (same_name e.name (form_name w j))
      (λ (y : same_name e.name (form_name w j) ≡ true).
      let t : same_name e.name (get_or (room_names w) j []) ≡ true = sym (same_typed e.name (room_name w j)) ∙ y in
      decided (dec_lt j (length (room_names w)))
      (λ (l : j < length (room_names w)). absurd (n (sym (named_room (room_names w) (names_apart w) e.name m.at r) ∙ named_room (room_names w) (names_apart w) e.name j (record { name = r.name; inside = l; same = t }))))
      (λ (l : j < length (room_names w) → ⊥). absurd (no_name e.name r.name (rw (get_or-eq_default (room_names w) [] {n = j} (omega arith)) at t))))
      (λ (y : same_name e.name (form_name w j) ≡ false). y)

  -- of two names one after the other the later counts
  parts_on : (n : Word) → renamed (parts_of w) j n ≡ renamed (parts_of v) j n
  unfolding renamed
  parts_on n =
      let new : name_in (parts_of w).rooms j ≡ form_name w j = name_in_parts w j in
      rw (new, a.parts, rooms_on rs j (form_name w j) (lowered n), hooks_on (part_names rs) (name_in rs j) (form_name w j) fresh (lowered n) (parts_of v).hooks (parts_good v).hooks)

-- ---- layouts

module _ (j : ℕ) where
  pub layout_self : (v : List ℕ) → (layout_verdict v).number ≡ 0 → AlikeLayouts j v v
  layout_self v z = record { reads = z; other_reads = z; others = λ i n. refl; parts = sym (parts_self j v) }

  pub layout_back : (v w : List ℕ) → AlikeLayouts j v w → AlikeLayouts j w v
  layout_back v w a = record {
    reads = a.other_reads;
    other_reads = a.reads;
    others = λ i n. sym (a.others i n);
    parts = sym (parts_on j v w a (room_name v j) ∙ parts_self j v);
  }

  pub layout_on : (u v w : List ℕ) → AlikeLayouts j u v → AlikeLayouts j v w → AlikeLayouts j u w
  layout_on u v w a b = record {
    reads = a.reads;
    other_reads = b.other_reads;
    others = λ i n. a.others i n ∙ b.others i n;
    parts = b.parts ∙ parts_on j u v a (room_name w j);
  }
