-- What holds of a reading at each line: the entries so far are right, no two rooms have one name, no two doors, and no section has more than 64.
-- Assumes nothing.
use mathlib.Core.Path.{◌≡◌, refl, ◌∙◌}
use mathlib.Core.Bool.{Bool, true, false, cond, not, ◌&&◌, ◌||◌}
use mathlib.Core.List.{List, [], ◌∷◌, ◌++◌}
use Prim.Native.Nat.{ℕ, suc, ◌+◌, ◌-◌, ◌≤◌, ◌<◌}
use native.Mathlib.Omega.{arith}
use native.Mathlib.Decide.{ℕ_discrete}
use lib.Dec.{eqb, leb, ltb}
use lib.ListN.{length, get_or, drop, length-append}
use borrow.Author.Tests.{eqb-true, eqb-false, eq-eqb, ne_eqb, leb-true, ltb-true, not-false}
use Rattle.verdict.proofs.Bools.{clash, test, decided, and_true, and_false, or_false}
use Rattle.letters.specs.Class.{within}
use Rattle.verdict.specs.Lowest.{lowest}
use Rattle.verdict.proofs.Lowest.{found_under}
use Rattle.names.specs.Name.{is_name, same_name}
use Rattle.number.specs.Count.{value, is_count}
use Rattle.number.proofs.CountLaws.{count_within}
use Rattle.text.specs.Reading.{Word, Line, nth}
use Rattle.layout.specs.Grammar.{Typed, State, start, section_of, follows, opens, with_entry, names_of, doors_of, known, names_in, entry_long, numbers, first_of, door_fault, hook_fault, name_fault, entry_fault, words_of, open_fault, fault, next}
use Rattle.layout.specs.Plain.{IsEntry, IsHook}
use Rattle.verdict.proofs.Each.{Each, each_as, each_more}
use Rattle.layout.proofs.ApartLaws.{Apart, apart_none, apart_more, length_names, names_at, names_more, doors_more}
use Rattle.layout.proofs.EntryWords.{numbers_are, number_at}

-- ---- the first fault is none

pub first_none : (t : Bool) (n m : ℕ) → cond t (suc n) m ≡ 0 → (t ≡ false) × (m ≡ 0)
first_none true n m e = absurd (omega arith)
first_none false n m e = (refl, e)

first_of_none : (f g : ℕ) → first_of f g ≡ 0 → (f ≡ 0) × (g ≡ 0)
first_of_none f g e =
    test (eqb f 0) (λ (h : eqb f 0 ≡ true). (eqb-true f 0 h, rw h at e)) (λ (h : eqb f 0 ≡ false). absurd (eqb-false f 0 h (rw h at e)))

-- ---- a hook

module _ (t : Typed) (l : Line) (e : hook_fault t l ≡ 0) where
  hook_faults : (known (nth l 0) (names_of t.rooms) ≡ true) × (door_fault t.hooks (nth l 1) ≡ 0)
  unfolding hook_fault
  hook_faults = let (a, b) = first_none (not (known (nth l 0) (names_of t.rooms))) 38 _ e in (not-false _ a, b)

  pub door_right : (is_name (nth l 1) ≡ true) × (known (nth l 1) (doors_of t.hooks) ≡ false)
  unfolding door_fault
  door_right =
      let a = first_none (not (is_name (nth l 1))) 33 _ hook_faults.1 in
      let b = first_none (known (nth l 1) (doors_of t.hooks)) 36 _ a.1 in
      (not-false _ a.0, b.0)

  pub hook_good : IsHook t.rooms l
  unfolding known
  hook_good =
      let p : ℕ → Bool = λ (j : ℕ). same_name (nth l 0) (get_or (names_of t.rooms) j []) in
      let n = length (names_of t.rooms) in
      let q = found_under p n hook_faults.0 in
      let i : lowest n p < length t.rooms = omega (arith, q.0, length_names t.rooms) in
      record { at = lowest n p; inside = i; same = rw (names_at t.rooms (lowest n p) i) at q.1; door = door_right.0 }

-- ---- an entry

module _ (st : State) (l : Line) (e : entry_fault st l ≡ 0) where
  faults : (entry_long st.sect (length l) ≡ true) × ((name_fault st l ≡ 0) × ((numbers (drop (names_in st.sect) l) ≡ true) × ((eqb st.sect 2 && known (nth l 0) (names_of st.typed.rooms)) ≡ false)))
  unfolding entry_fault
  faults =
      let a = first_none (not (entry_long st.sect (length l))) 32 _ e in
      let b = first_of_none (name_fault st l) _ a.1 in
      let c = first_none (not (numbers (drop (names_in st.sect) l))) 34 _ b.1 in
      let d = first_none (eqb st.sect 2 && known (nth l 0) (names_of st.typed.rooms)) 36 _ c.1 in
      (not-false _ a.0, (b.0, (not-false _ c.0, d.0)))

  name_faults : (is_name (nth l 0) ≡ true) × (cond (eqb st.sect 5) (hook_fault st.typed l) 0 ≡ 0)
  unfolding name_fault
  name_faults = let (a, b) = first_none (not (is_name (nth l 0))) 33 _ faults.1.0 in (not-false _ a, b)

  as_hook : st.sect ≡ 5 → hook_fault st.typed l ≡ 0
  as_hook h = rw (eq-eqb st.sect 5 h) at name_faults.1

  pub entry_good : IsEntry st.sect st.typed.rooms l
  entry_good = record {
    long = faults.0;
    name = name_faults.0;
    number = number_at (names_in st.sect) l (numbers_are _ faults.1.1.0);
    hook = λ h. hook_good st.typed l (as_hook h);
  }

  pub entry_new : eqb st.sect 2 ≡ true → known (nth l 0) (names_of st.typed.rooms) ≡ false
  entry_new s = and_false (eqb st.sect 2) (known (nth l 0) (names_of st.typed.rooms)) faults.1.1.1 s

  pub door_new : st.sect ≡ 5 → known (nth l 1) (doors_of st.typed.hooks) ≡ false
  door_new h = (door_right st.typed l (as_hook h)).1

-- the rooms matter to hooks alone
pub any_rooms : (k : ℕ) → (k ≡ 5 → ⊥) → (a b : List Line) (l : Line) → IsEntry k a l → IsEntry k b l
any_rooms k n a b l g = record { long = g.long; name = g.name; number = g.number; hook = λ h. absurd (n h) }

-- ---- a line that opens a section

pub follows_later : (sect k : ℕ) → follows sect k ≡ true → sect < k
unfolding follows
follows_later sect k e =
    test (leb k 2) (λ (h : leb k 2 ≡ true). let z : suc sect ≡ k = eqb-true (suc sect) k (rw h at e) in omega arith)
    (λ (h : leb k 2 ≡ false). ltb-true sect k (and_true (leb 2 sect) (ltb sect k) (rw h at e)).1)

pub opens_later : (sect : ℕ) (w : Word) → (opens sect w ≡ 0 → ⊥) → sect < opens sect w
unfolding opens
opens_later sect w n =
    test (follows sect (section_of w)) (λ (h : follows sect (section_of w) ≡ true). rw h (follows_later sect (section_of w) h))
    (λ (h : follows sect (section_of w) ≡ false). absurd (n (rw h refl)))

module _ (k : ℕ) (l : Line) (e : open_fault k l ≡ 0) where
  open_faults : ((eqb k 0 || not (eqb (length l) (words_of k))) ≡ false) × ((within 2 5 k && not (is_count (nth l 1))) ≡ false)
  unfolding open_fault
  open_faults =
      let a = first_none (eqb k 0 || not (eqb (length l) (words_of k))) 32 _ e in
      let b = first_none (within 2 5 k && not (is_count (nth l 1))) 35 _ a.1 in
      (a.0, b.0)

  pub open_some : k ≡ 0 → ⊥
  open_some z = clash (eq-eqb k 0 z) (or_false (eqb k 0) (not (eqb (length l) (words_of k))) open_faults.0).0

  pub open_words : length l ≡ words_of k
  open_words = eqb-true (length l) (words_of k) (not-false _ (or_false (eqb k 0) (not (eqb (length l) (words_of k))) open_faults.0).1)

  pub open_count : within 2 5 k ≡ true → is_count (nth l 1) ≡ true
  open_count h = not-false _ (and_false (within 2 5 k) (not (is_count (nth l 1))) open_faults.1 h)

-- a line of one word has no second
no_second : (l : Line) → length l ≡ 1 → value 0 (nth l 1) ≡ 0
unfolding value
no_second [] e = absurd (omega arith)
no_second (w ∷ []) e = refl
no_second (w ∷ v ∷ l) e = absurd (omega arith)

-- so many entries are to come: 64 at the most
pub open_left : (k : ℕ) (l : Line) → open_fault k l ≡ 0 → value 0 (nth l 1) ≤ 64
open_left k l e =
    test (within 2 5 k) (λ (h : within 2 5 k ≡ true). count_within (nth l 1) (open_count k l e h))
    (λ (h : within 2 5 k ≡ false).
    let n : words_of k ≡ 1 = unfold words_of in (rw h) in
    let z : value 0 (nth l 1) ≡ 0 = no_second l (open_words k l e ∙ n) in
    omega arith)

-- where some are to come, the section is that of rooms, tracks, obstacles or hooks
pub open_kind : (k : ℕ) (l : Line) → open_fault k l ≡ 0 → 0 < value 0 (nth l 1) → (2 ≤ k) × (k ≤ 5)
open_kind k l e m =
    test (within 2 5 k)
    (λ (h : within 2 5 k ≡ true). let q = and_true (leb 2 k) (leb k 5) h in (leb-true 2 k q.0, leb-true k 5 q.1))
    (λ (h : within 2 5 k ≡ false).
    let n : words_of k ≡ 1 = unfold words_of in (rw h) in
    let z : value 0 (nth l 1) ≡ 0 = no_second l (open_words k l e ∙ n) in
    absurd (omega arith))

-- ---- no section has more than 64 entries

-- n entries of section k, where the reader is in section `sect` with so many to come
pub record Slot (k sect left n : ℕ) : Type 0 where
  pub before : sect < k → n ≡ 0
  pub here : sect ≡ k → n + left ≤ 64
  pub few : n ≤ 64

pub slot_open : (k sect left n later more : ℕ) → Slot k sect left n → sect < later → more ≤ 64 → Slot k later more n
slot_open k sect left n later more s l m = record {
  before = λ h. s.before (omega arith);
  here = λ h. let z : n ≡ 0 = s.before (omega arith) in omega arith;
  few = s.few;
}

pub slot_more : (k sect left : ℕ) (es : List Line) (e : Line) → Slot k sect left (length es) → 0 < left → Slot k sect (left - 1) (length (cond (eqb sect k) (es ++ (e ∷ [])) es))
slot_more k sect left es e s l =
    test (eqb sect k)
    (λ (h : eqb sect k ≡ true).
    let q : sect ≡ k = eqb-true sect k h in
    let n : length (es ++ (e ∷ [])) ≡ length es + 1 = length-append es (e ∷ []) in
    let m : length es + left ≤ 64 = s.here q in
    rw h (record { before = λ b. absurd (omega arith); here = λ b. omega arith; few = omega arith }))
    (λ (h : eqb sect k ≡ false). rw h (record { before = s.before; here = λ b. clash (eq-eqb sect k b) h; few = s.few }))

-- the entries of section k behind one entry more. While rooms are read there are no hooks
module _ (k sect left : ℕ) (rooms es : List Line) (e : Line) (h : Each (IsEntry k rooms) es) (g : sect ≡ k → IsEntry k rooms e) where
  column_more : Each (IsEntry k rooms) (cond (eqb sect k) (es ++ (e ∷ [])) es)
  column_more =
      test (eqb sect k) (λ (q : eqb sect k ≡ true). rw q (each_more (IsEntry k rooms) es e h (g (eqb-true sect k q)))) (λ (q : eqb sect k ≡ false). rw q h)

  column_each : Slot k sect left (length es) → Each (IsEntry k (cond (eqb sect 2) (rooms ++ (e ∷ [])) rooms)) (cond (eqb sect k) (es ++ (e ∷ [])) es)
  column_each s =
      test (eqb sect 2)
      (λ (q : eqb sect 2 ≡ true).
      let two : sect ≡ 2 = eqb-true sect 2 q in
      rw q (decided (ℕ_discrete k 5) (λ (z : k ≡ 5). rw (ne_eqb sect k (λ y. omega arith)) (empty es (s.before (omega arith))))
      (λ n. each_as _ _ (any_rooms k n rooms (rooms ++ (e ∷ []))) (cond (eqb sect k) (es ++ (e ∷ [])) es) column_more)))
      (λ (q : eqb sect 2 ≡ false). rw q column_more)
    where
      empty : (ls : List Line) → length ls ≡ 0 → Each (IsEntry k (rooms ++ (e ∷ []))) ls
      empty [] n = tt
      empty (x ∷ ls) n = absurd (omega arith)

-- ---- the reading so far

pub record Good (st : State) : Type 0 where
  pub rooms : Each (IsEntry 2 st.typed.rooms) st.typed.rooms
  pub tracks : Each (IsEntry 3 st.typed.rooms) st.typed.tracks
  pub obstacles : Each (IsEntry 4 st.typed.rooms) st.typed.obstacles
  pub hooks : Each (IsEntry 5 st.typed.rooms) st.typed.hooks
  pub apart : Apart (names_of st.typed.rooms)
  pub doors : Apart (doors_of st.typed.hooks)
  pub slot2 : Slot 2 st.sect st.left (length st.typed.rooms)
  pub slot3 : Slot 3 st.sect st.left (length st.typed.tracks)
  pub slot4 : Slot 4 st.sect st.left (length st.typed.obstacles)
  pub slot5 : Slot 5 st.sect st.left (length st.typed.hooks)
  pub kind : 0 < st.left → (2 ≤ st.sect) × (st.sect ≤ 5)

slot_start : (k : ℕ) → 1 ≤ k → Slot k 0 0 0
slot_start k l = record { before = λ h. refl; here = λ h. omega arith; few = omega arith }

pub good_start : Good start
unfolding names_of doors_of
good_start = record {
  rooms = tt;
  tracks = tt;
  obstacles = tt;
  hooks = tt;
  apart = apart_none;
  doors = apart_none;
  slot2 = slot_start 2 (omega arith);
  slot3 = slot_start 3 (omega arith);
  slot4 = slot_start 4 (omega arith);
  slot5 = slot_start 5 (omega arith);
  kind = λ h. absurd (omega arith);
}

-- an entry more
abbrev entered : State → Line → State
entered st l = record { sect = st.sect; left = st.left - 1; typed = with_entry st.sect st.typed l }

good_entry : (st : State) (l : Line) → Good st → 0 < st.left → entry_fault st l ≡ 0 → Good (entered st l)
unfolding with_entry
good_entry st l g n e =
    let t = st.typed in
    record {
      rooms = column 2 t.rooms g.rooms g.slot2;
      tracks = column 3 t.tracks g.tracks g.slot3;
      obstacles = column 4 t.obstacles g.obstacles g.slot4;
      hooks = column 5 t.hooks g.hooks g.slot5;
      apart = test (eqb st.sect 2) (λ (h : eqb st.sect 2 ≡ true). rw (h, names_more t.rooms l) (apart_more (names_of t.rooms) (nth l 0) g.apart (entry_new st l e h)))
          (λ (h : eqb st.sect 2 ≡ false). rw h g.apart);
      doors = test (eqb st.sect 5) (λ (h : eqb st.sect 5 ≡ true). rw (h, doors_more t.hooks l) (apart_more (doors_of t.hooks) (nth l 1) g.doors (door_new st l e (eqb-true st.sect 5 h))))
          (λ (h : eqb st.sect 5 ≡ false). rw h g.doors);
      slot2 = slot_more 2 st.sect st.left t.rooms l g.slot2 n;
      slot3 = slot_more 3 st.sect st.left t.tracks l g.slot3 n;
      slot4 = slot_more 4 st.sect st.left t.obstacles l g.slot4 n;
      slot5 = slot_more 5 st.sect st.left t.hooks l g.slot5 n;
      kind = λ h. g.kind n;
    }
  where
    column : (k : ℕ) (es : List Line) → Each (IsEntry k st.typed.rooms) es → Slot k st.sect st.left (length es) → Each (IsEntry k (cond (eqb st.sect 2) (st.typed.rooms ++ (l ∷ [])) st.typed.rooms)) (cond (eqb st.sect k) (es ++ (l ∷ [])) es)
    column k es h s = column_each k st.sect st.left st.typed.rooms es l h (λ z. rw z at (entry_good st l e)) s

-- another section
abbrev opened : State → ℕ → ℕ → State
opened st k n = record { sect = k; left = n; typed = st.typed }

good_open : (st : State) (k n : ℕ) → Good st → st.sect < k → n ≤ 64 → (0 < n → (2 ≤ k) × (k ≤ 5)) → Good (opened st k n)
good_open st k n g l m q = record {
  rooms = g.rooms;
  tracks = g.tracks;
  obstacles = g.obstacles;
  hooks = g.hooks;
  apart = g.apart;
  doors = g.doors;
  slot2 = slot_open 2 _ _ _ k n g.slot2 l m;
  slot3 = slot_open 3 _ _ _ k n g.slot3 l m;
  slot4 = slot_open 4 _ _ _ k n g.slot4 l m;
  slot5 = slot_open 5 _ _ _ k n g.slot5 l m;
  kind = q;
}

-- so it stays, line by line
pub good_next : (st : State) (l : Line) → Good st → fault st l ≡ 0 → Good (next st l)
unfolding fault next
good_next st [] g e = g
good_next st (w ∷ ws) g e =
    test (ltb 0 st.left) (λ (h : ltb 0 st.left ≡ true). rw h (good_entry st (w ∷ ws) g (ltb-true 0 st.left h) (rw h at e)))
    (λ (h : ltb 0 st.left ≡ false).
    let f : open_fault (opens st.sect w) (w ∷ ws) ≡ 0 = rw h at e in
    rw h (good_open st (opens st.sect w) (value 0 (nth (w ∷ ws) 1)) g (opens_later st.sect w (open_some _ (w ∷ ws) f)) (open_left _ (w ∷ ws) f) (open_kind _ (w ∷ ws) f)))
