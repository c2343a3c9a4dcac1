-- Another name for a room: it changes that name, there and in the room's hooks, and nothing else of the parts, and the renamed form is read
-- as the renamed parts.
-- Assumes nothing.
use mathlib.Core.Path.{◌≡◌, refl, ap, ◌∙◌}
use mathlib.Core.Logic.{◌≢◌}
use mathlib.Core.Bool.{Bool, true, false, cond, not, ◌&&◌}
use mathlib.Core.List.{List, [], ◌∷◌, map}
use Prim.Native.Nat.{ℕ, zero, suc, ◌≤◌, ◌<◌}
use native.Mathlib.Omega.{arith}
use native.Mathlib.Nat.{le_of_suc-le-suc}
use native.Mathlib.Decide.{ℕ_discrete, dec_lt}
use lib.Dec.{eqb, ltb}
use lib.ListN.{length, get_or, set, length-map, length-set, get_or-eq_default}
use lib.Seq.{get_or-set_same, get_or-set_other}
use borrow.Author.Tests.{ne_eqb, not-false}
use Rattle.verdict.specs.Verdict.{accepted}
use Rattle.verdict.proofs.Bools.{clash, test, decided}
use Rattle.verdict.proofs.Lists.{map_at_lem}
use Rattle.verdict.proofs.Lowest.{none_under, any_same}
use Rattle.verdict.proofs.Verdict.{passed, unbroken}
use Rattle.verdict.proofs.Each.{Each, each_as, each_map}
use Rattle.names.specs.Name.{is_name, same_name}
use Rattle.letters.specs.Case.{lowered}
use Rattle.names.proofs.NameLaws.{name_lowered, same_name_lowered, same_name_sym}
use Rattle.letters.proofs.CaseLaws.{lowered_again}
use Rattle.text.specs.Reading.{Word, nth}
use Rattle.layout.specs.Layout.{layout_verdict, layout_of}
use Rattle.layout.specs.Grammar.{known_but}
use Rattle.layout.proofs.ApartLaws.{Apart}
use Rattle.rooms.specs.Rooms.{room_names, name_verdict}
use Rattle.layoutform.specs.Form.{Entry, LayoutParts, parts_of, parts_of_typed, form_text}
use Rattle.layoutform.specs.Rewrite.{named, renamed_at, name_in, renamed_from, renamed, rename_verdict}
use Rattle.layoutform.proofs.PartLaws.{part_names, part_doors, GoodName, Among, GoodEntry, GoodParts, parts_good, names_lowered}
use Rattle.layoutform.proofs.FormTrip.{good_accepted, good_again}
use Rattle.layoutform.proofs.ByName.{names_are, name_past, same_self, no_name, from_none}

-- ---- one name changed

pub renamed_long : (es : List Entry) (i : ℕ) (w : Word) → length (renamed_at es i w) ≡ length es
unfolding renamed_at
renamed_long [] i w = refl
renamed_long (e ∷ es) zero w = refl
renamed_long (e ∷ es) (suc i) w = ap suc (renamed_long es i w)

-- the names: that one is set
pub renamed_names_lem : (es : List Entry) (i : ℕ) (w : Word) → part_names (renamed_at es i w) ≡ set (part_names es) i w
unfolding renamed_at named part_names
renamed_names_lem [] i w = refl
renamed_names_lem (e ∷ es) zero w = refl
renamed_names_lem (e ∷ es) (suc i) w = ap (λ (l : List Word). e.name ∷ l) (renamed_names_lem es i w)

-- room i has the new name, and its own numbers ..
pub renamed_here : (es : List Entry) (i : ℕ) (w : Word) (d : Entry) → i < length es → get_or (renamed_at es i w) i d ≡ named w (get_or es i d)
unfolding renamed_at
renamed_here [] i w d l = absurd (omega arith)
renamed_here (e ∷ es) zero w d l = refl
renamed_here (e ∷ es) (suc i) w d l = renamed_here es i w d (le_of_suc-le-suc l)

-- .. and every other entry is what it was
pub renamed_other : (es : List Entry) (i j : ℕ) (w : Word) (d : Entry) → j ≢ i → get_or (renamed_at es i w) j d ≡ get_or es j d
unfolding renamed_at
renamed_other [] i j w d n = refl
renamed_other (e ∷ es) zero zero w d n = absurd (n refl)
renamed_other (e ∷ es) zero (suc j) w d n = refl
renamed_other (e ∷ es) (suc i) zero w d n = refl
renamed_other (e ∷ es) (suc i) (suc j) w d n = renamed_other es i j w d (λ q. n (ap suc q))

-- past the last nothing is changed
pub renamed_past : (es : List Entry) (i : ℕ) (w : Word) → length es ≤ i → renamed_at es i w ≡ es
unfolding renamed_at
renamed_past [] i w l = refl
renamed_past (e ∷ es) zero w l = absurd (omega arith)
renamed_past (e ∷ es) (suc i) w l = ap (λ (r : List Entry). e ∷ r) (renamed_past es i w (le_of_suc-le-suc l))

-- ---- renamed parts are right

-- another name does an entry no harm; its room's name matters to a hook alone
module _ (k : ℕ) (n : k ≡ 5 → ⊥) (a b : List Word) where
  good_as : (e : Entry) → GoodEntry k a e → GoodEntry k b e
  good_as e g = record { name = g.name; door = g.door; names = g.names; long = g.long; numbers = g.numbers; hook = λ h. absurd (n h) }

  entries_as : (es : List Entry) → Each (GoodEntry k a) es → Each (GoodEntry k b) es
  entries_as es = each_as (GoodEntry k a) (GoodEntry k b) good_as es

  renamed_each : (es : List Entry) (i : ℕ) (w : Word) → GoodName w → Each (GoodEntry k a) es → Each (GoodEntry k b) (renamed_at es i w)
  unfolding renamed_at named
  renamed_each [] i w s g = tt
  renamed_each (e ∷ es) zero w s (g, h) =
      (record { name = s; door = g.door; names = g.names; long = g.long; numbers = g.numbers; hook = λ z. absurd (n z) }, entries_as es h)
  renamed_each (e ∷ es) (suc i) w s (g, h) = (good_as e g, renamed_each es i w s h)

-- ---- the hooks of that room

-- past the last room nothing is changed
pub renamed_own : (p : LayoutParts) → GoodParts p → (i : ℕ) (w : Word) → length p.rooms ≤ i → renamed p i w ≡ p
unfolding renamed
renamed_own p g i w l = rw (renamed_past p.rooms i (lowered w) l, name_past p.rooms i l, from_none 5 _ (lowered w) p.hooks g.hooks)

-- a hook's room is one of the renamed rooms
module _ (names : List Word) (i : ℕ) (w : Word) (s : GoodName w) where
  among_renamed : (v : Word) → GoodName v → Among names v → GoodName (cond (same_name v (get_or names i [])) w v) × Among (set names i w) (cond (same_name v (get_or names i [])) w v)
  among_renamed v n a =
      test (same_name v (get_or names i []))
      (λ (e : same_name v (get_or names i []) ≡ true).
      decided (dec_lt i (length names))
      (λ (l : i < length names). rw e (s, record { at = i; inside = rw (length-set names i w) l; same = rw (get_or-set_same names i w [] l) (same_self w) }))
      (λ (l : i < length names → ⊥). absurd (no_name v n.name (rw (get_or-eq_default names [] {n = i} (omega arith)) at e))))
      (λ (e : same_name v (get_or names i []) ≡ false). rw e (
        n,
        record {
          at = a.at;
          inside = rw (length-set names i w) a.inside;
          same = rw (get_or-set_other names i a.at w [] (λ q. clash (rw q at a.same) e)) a.same;
        },
      ))

  hook_renamed : (e : Entry) → GoodEntry 5 names e → GoodEntry 5 (set names i w) (renamed_from (get_or names i []) w e)
  unfolding renamed_from named
  hook_renamed e g =
      let (m, a) = among_renamed e.name g.name (g.hook refl) in
      record { name = m; door = g.door; names = g.names; long = g.long; numbers = g.numbers; hook = λ h. a }

doors_stay : (old w : Word) (es : List Entry) → part_doors (map (renamed_from old w) es) ≡ part_doors es
unfolding part_doors renamed_from named
doors_stay old w [] = refl
doors_stay old w (e ∷ es) = ap (λ (l : List Word). nth e.door 0 ∷ l) (doors_stay old w es)

-- another room, not i, has not the name
pub but_not : (names : List Word) (i : ℕ) (w : Word) → known_but i w names ≡ false → (j : ℕ) → j < length names → j ≢ i → same_name w (get_or names j []) ≡ false
unfolding known_but
but_not names i w k j l n = rw (ne_eqb j i n) at (none_under (λ (m : ℕ). not (eqb m i) && same_name w (get_or names m [])) (length names) k j l)

apart_set : (names : List Word) (i : ℕ) (w : Word) → Apart names → known_but i w names ≡ false → Apart (set names i w)
apart_set names i w a k = record { other = λ h j l m. let n : length (set names i w) ≡ length names = length-set names i w in go h j l (omega arith) }
  where
    go : (h j : ℕ) → h < j → j < length names → same_name (get_or (set names i w) j []) (get_or (set names i w) h []) ≡ false
    go h j l m =
        decided (ℕ_discrete j i)
        (λ (e : j ≡ i).
        let n : h ≢ i = λ z. omega arith in
        rw (get_or-set_other names i h w [] n, e, get_or-set_same names i w [] (omega arith)) (but_not names i w k h (omega arith) n))
        (λ (p : j ≢ i).
        decided (ℕ_discrete h i)
        (λ (e : h ≡ i). rw (get_or-set_other names i j w [] p, e, get_or-set_same names i w [] (omega arith)) (same_name_sym _ _ ∙ but_not names i w k j m p))
        (λ (q : h ≢ i). rw (get_or-set_other names i j w [] p, get_or-set_other names i h w [] q) (a.other h j l m)))

-- in lower case it is the same question
pub but_lowered : (names : List Word) (i : ℕ) (w : Word) → known_but i (lowered w) (map lowered names) ≡ known_but i w names
unfolding known_but
but_lowered names i w =
    rw (length-map names lowered)
    (any_same (length names) _ _ (λ j l. ap (λ (t : Bool). not (eqb j i) && t)
    (rw (map_at_lem lowered [] [] names j l) (same_name_lowered w _ ∙ same_name_sym w _ ∙ same_name_lowered _ w ∙ same_name_sym _ w))))

-- what a room's new name has to be
pub record Names (s : List ℕ) (i : ℕ) (w : Word) : Type 0 where
  pub within : ltb i (length (room_names s)) ≡ true
  pub name : is_name w ≡ true
  pub new : known_but i w (room_names s) ≡ false

pub names : (s : List ℕ) (i : ℕ) (w : Word) → (name_verdict s i w).number ≡ 0 → Names s i w
unfolding name_verdict
names s i w z =
    let a = passed _ _ z in
    let b = passed _ _ a.0 in
    record { within = not-false _ (unbroken 20 _ i b.0); name = not-false _ (unbroken 33 _ 0 b.1); new = unbroken 36 _ 0 a.1 }

-- a text that is rewritten with a name
pub record Renames (s : List ℕ) (i : ℕ) (w : Word) : Type 0 where
  pub accepts : (layout_verdict s).number ≡ 0
  pub named : Names s i w

pub renames : (s : List ℕ) (i : ℕ) (w : Word) (room : ℕ) → (rename_verdict s i w room).number ≡ 0 → Renames s i w
unfolding rename_verdict
renames s i w room z =
    let a = passed _ _ z in
    let b = passed _ _ a.0 in
    record { accepts = b.0; named = names s i w b.1 }

pub names_of_parts : (s : List ℕ) → part_names (parts_of s).rooms ≡ map lowered (room_names s)
unfolding parts_of parts_of_typed room_names
names_of_parts s = names_lowered (layout_of s).rooms

pub renamed_good : (s : List ℕ) (i : ℕ) (w : Word) → is_name w ≡ true → known_but i w (room_names s) ≡ false → GoodParts (renamed (parts_of s) i w)
unfolding renamed
renamed_good s i w n k =
    let g = parts_good s in
    let rs = (parts_of s).rooms in
    let v = lowered w in
    let m : GoodName v = record { name = name_lowered w n; small = lowered_again w } in
    record {
      rooms = renamed_each 2 (λ z. omega arith) (part_names rs) (part_names (renamed_at rs i v)) rs i v m g.rooms;
      tracks = entries_as 3 (λ z. omega arith) (part_names rs) (part_names (renamed_at rs i v)) (parts_of s).tracks g.tracks;
      obstacles = entries_as 4 (λ z. omega arith) (part_names rs) (part_names (renamed_at rs i v)) (parts_of s).obstacles g.obstacles;
      hooks = rw (renamed_names_lem rs i v, names_are rs i) (each_map (GoodEntry 5 (part_names rs)) (GoodEntry 5 (set (part_names rs) i v)) (renamed_from (get_or (part_names rs) i []) v) (hook_renamed (part_names rs) i v m) (parts_of s).hooks g.hooks);
      apart = rw (renamed_names_lem rs i v) (apart_set (part_names rs) i v g.apart (rw (names_of_parts s) (but_lowered (room_names s) i w ∙ k)));
      doors = rw (doors_stay (name_in rs i) v (parts_of s).hooks) g.doors;
      few_rooms = rw (renamed_long rs i v) g.few_rooms;
      few_tracks = g.few_tracks;
      few_obstacles = g.few_obstacles;
      few_hooks = rw (length-map (parts_of s).hooks (renamed_from (name_in rs i) v)) g.few_hooks;
    }

-- ---- the theorems

-- the renamed form's text is accepted ..
pub rename_accepted : (s : List ℕ) (i : ℕ) (w : Word) (room : ℕ) → (rename_verdict s i w room).number ≡ 0 → layout_verdict (form_text (renamed (parts_of s) i w)) ≡ accepted
rename_accepted s i w room z = let r = renames s i w room z in good_accepted _ (renamed_good s i w r.named.name r.named.new)

-- .. and read as the renamed parts ..
pub rename_read : (s : List ℕ) (i : ℕ) (w : Word) (room : ℕ) → (rename_verdict s i w room).number ≡ 0 → parts_of (form_text (renamed (parts_of s) i w)) ≡ renamed (parts_of s) i w
rename_read s i w room z = let r = renames s i w room z in good_again _ (renamed_good s i w r.named.name r.named.new)

-- .. and rewriting it again changes no byte
pub rename_twice : (s : List ℕ) (i : ℕ) (w : Word) (room : ℕ) → (rename_verdict s i w room).number ≡ 0 → form_text (parts_of (form_text (renamed (parts_of s) i w))) ≡ form_text (renamed (parts_of s) i w)
rename_twice s i w room z = ap form_text (rename_read s i w room z)
