-- The parts of a layout: those of every text are right, and right parts can be written and are read again. Assumes nothing.
use mathlib.Core.Path.{◌≡◌, refl, ap, ◌∙◌}
use mathlib.Core.Bool.{true}
use mathlib.Core.Logic.{⊎_elim}
use mathlib.Core.List.{List, [], ◌∷◌, map}
use Prim.Native.Nat.{ℕ, suc, ◌+◌, ◌≤◌, ◌<◌}
use native.Mathlib.Omega.{arith}
use native.Mathlib.Decide.{ℕ_discrete}
use lib.ListN.{length, get_or, take, drop, length-map, length-drop}
use lib.Seq.{length-take-le}
use borrow.Author.Tests.{ne_eqb}
use Rattle.verdict.proofs.Bools.{decided}
use Rattle.verdict.proofs.Lists.{map_at_lem}
use Rattle.verdict.proofs.Each.{Each, each_map}
use Rattle.names.specs.Name.{is_name, same_name}
use Rattle.letters.specs.Case.{lowered}
use Rattle.number.specs.Number.{number_of, Said, Decimal}
use Rattle.names.proofs.NameLaws.{name_lowered, same_name_lowered, same_name_sym}
use Rattle.letters.proofs.CaseLaws.{lowered_again}
use Rattle.number.proofs.NumberTrip.{read_said}
use Rattle.number.proofs.DecimalLaws.{decimal_ok}
use Rattle.text.specs.Reading.{Word, Line, nth}
use Rattle.layout.specs.Grammar.{Typed, names_in, entry_long, names_of, doors_of}
use Rattle.layout.specs.Layout.{layout_of}
use Rattle.layout.specs.Plain.{IsEntry, IsHook}
use Rattle.layout.proofs.ApartLaws.{Apart, length_names, names_at}
use Rattle.layout.proofs.EntryWords.{hook_words, four_words, numbers_from}
use Rattle.layout.proofs.ReadLaws.{GoodTyped, layout_good}
use Rattle.layoutform.specs.Form.{Entry, LayoutParts, entry_named, entry_of, parts_of_typed, parts_of}

-- the names of entries, and the doors of hooks
unfoldable pub part_names : List Entry → List Word
part_names es = map (λ (e : Entry). e.name) es

unfoldable pub part_doors : List Entry → List Word
part_doors es = map (λ (e : Entry). nth e.door 0) es

-- a name in lower case
pub record GoodName (w : Word) : Type 0 where
  pub name : is_name w ≡ true
  pub small : lowered w ≡ w

-- one of the rooms has this name
pub record Among (rooms : List Word) (w : Word) : Type 0 where
  pub at : ℕ
  pub inside : at < length rooms
  pub same : same_name w (get_or rooms at []) ≡ true

-- an entry of section k that can be written: names in lower case, of a hook a room's and a door, and as many numbers as it may have
pub record GoodEntry (k : ℕ) (rooms : List Word) (e : Entry) : Type 0 where
  pub name : GoodName e.name
  pub door : Each GoodName e.door
  pub names : suc (length e.door) ≡ names_in k
  pub long : entry_long k (names_in k + length e.numbers) ≡ true
  pub numbers : Each Said e.numbers
  pub hook : k ≡ 5 → Among rooms e.name

pub record GoodParts (p : LayoutParts) : Type 0 where
  pub rooms : Each (GoodEntry 2 (part_names p.rooms)) p.rooms
  pub tracks : Each (GoodEntry 3 (part_names p.rooms)) p.tracks
  pub obstacles : Each (GoodEntry 4 (part_names p.rooms)) p.obstacles
  pub hooks : Each (GoodEntry 5 (part_names p.rooms)) p.hooks
  pub apart : Apart (part_names p.rooms)
  pub doors : Apart (part_doors p.hooks)
  pub few_rooms : length p.rooms ≤ 64
  pub few_tracks : length p.tracks ≤ 64
  pub few_obstacles : length p.obstacles ≤ 64
  pub few_hooks : length p.hooks ≤ 64

-- ---- the names and the numbers of a typed entry

pub names_hook : (k : ℕ) → k ≡ 5 → names_in k ≡ 2
unfolding names_in
names_hook k h = rw h

names_other : (k : ℕ) → (k ≡ 5 → ⊥) → names_in k ≡ 1
unfolding names_in
names_other k n = rw (ne_eqb k 5 n)

pub some_name : (k : ℕ) → 1 ≤ names_in k
some_name k = decided (ℕ_discrete k 5) (λ (h : k ≡ 5). omega (arith, names_hook k h)) (λ (h : k ≡ 5 → ⊥). omega (arith, names_other k h))

-- there are at most fourteen words, and the names are among them
pub few_words : (k n : ℕ) → entry_long k n ≡ true → n ≤ 14
few_words k n e =
    decided (ℕ_discrete k 5) (λ (h : k ≡ 5). ⊎_elim (λ (z : n ≡ 9). omega arith) (λ (z : n ≡ 14). omega arith) (hook_words k n e h))
    (λ (h : k ≡ 5 → ⊥). omega (arith, four_words k n e h))

pub names_within : (k n : ℕ) → entry_long k n ≡ true → names_in k ≤ n
names_within k n e =
    decided (ℕ_discrete k 5)
    (λ (h : k ≡ 5). ⊎_elim (λ (z : n ≡ 9). omega (arith, names_hook k h)) (λ (z : n ≡ 14). omega (arith, names_hook k h)) (hook_words k n e h))
    (λ (h : k ≡ 5 → ⊥). omega (arith, names_other k h, four_words k n e h))

-- the name behind the first: a hook's door, and none else
pub door_of : (k : ℕ) (l : Line) → k ≡ 5 → 2 ≤ length l → drop 1 (take (names_in k) l) ≡ nth l 1 ∷ []
door_of k l h n = rw (names_hook k h) (go l n)
  where
    go : (l : Line) → 2 ≤ length l → drop 1 (take 2 l) ≡ nth l 1 ∷ []
    go [] n = absurd (omega arith)
    go (w ∷ []) n = absurd (omega arith)
    go (w ∷ v ∷ l) n = refl

pub no_door : (k : ℕ) (l : Line) → (k ≡ 5 → ⊥) → drop 1 (take (names_in k) l) ≡ []
no_door k l h = rw (names_other k h) (go l)
  where
    go : (l : Line) → drop 1 (take 1 l) ≡ []
    go [] = refl
    go (w ∷ l) = refl

abbrev Named : Word → Type 0
Named w = is_name w ≡ true

doors_named : (k : ℕ) (rooms : List Line) (l : Line) → IsEntry k rooms l → Each Named (drop 1 (take (names_in k) l))
doors_named k rooms l g =
    decided (ℕ_discrete k 5) (λ (h : k ≡ 5). rw (door_of k l h (omega (arith, names_hook k h, names_within k (length l) g.long))) ((g.hook h).door, tt))
    (λ (h : k ≡ 5 → ⊥). rw (no_door k l h) tt)

-- ---- the parts of a text are right

-- names in lower case are apart as the typed ones are
pub names_lowered : (es : List Line) → part_names (map (entry_of 2) es) ≡ map lowered (names_of es)
unfolding part_names names_of entry_of entry_named
names_lowered [] = refl
names_lowered (e ∷ es) = ap (λ (l : List Word). lowered (nth e 0) ∷ l) (names_lowered es)

door_lowered : (l : Line) → nth (entry_of 5 l).door 0 ≡ lowered (nth l 1)
unfolding entry_of entry_named names_in lowered
door_lowered [] = refl
door_lowered (w ∷ []) = refl
door_lowered (w ∷ v ∷ l) = refl

pub doors_lowered : (es : List Line) → part_doors (map (entry_of 5) es) ≡ map lowered (doors_of es)
unfolding part_doors doors_of
doors_lowered [] = refl
doors_lowered (e ∷ es) = rw (door_lowered e, doors_lowered es)

-- in lower case it is the same question
pub same_lowered : (a b : Word) → same_name (lowered a) (lowered b) ≡ same_name a b
same_lowered a b = same_name_lowered _ _ ∙ same_name_sym _ _ ∙ same_name_lowered _ _ ∙ same_name_sym _ _

hook_among : (rooms : List Line) (l : Line) → IsHook rooms l → Among (part_names (map (entry_of 2) rooms)) (lowered (nth l 0))
hook_among rooms l g =
    let k = length_names rooms in
    record {
      at = g.at;
      inside = rw (names_lowered rooms, length-map (names_of rooms) lowered) (omega (arith, k, g.inside));
      same = rw (names_lowered rooms, map_at_lem lowered [] [] (names_of rooms) g.at (omega (arith, k, g.inside)), names_at rooms g.at g.inside) (same_lowered (nth l 0) _ ∙ g.same);
    }

entry_of_good : (k : ℕ) (rooms : List Line) (l : Line) → IsEntry k rooms l → GoodEntry k (part_names (map (entry_of 2) rooms)) (entry_of k l)
unfolding entry_of entry_named
entry_of_good k rooms l g =
    let m = names_in k in
    let n = names_within k (length l) g.long in
    let a : length (map number_of (drop m l)) ≡ length (drop m l) = length-map (drop m l) number_of in
    let b : length (map lowered (drop 1 (take m l))) ≡ length (drop 1 (take m l)) = length-map (drop 1 (take m l)) lowered in
    let z : m + length (map number_of (drop m l)) ≡ length l = omega (arith, a, length-drop m l) in
    record {
      name = record { name = name_lowered (nth l 0) g.name; small = lowered_again (nth l 0) };
      door = each_map Named GoodName lowered (λ w d. record { name = name_lowered w d; small = lowered_again w }) (drop 1 (take m l)) (doors_named k rooms l g);
      names = omega (arith, b, length-drop 1 (take m l), length-take-le m l n, some_name k);
      long = rw z g.long;
      numbers = each_map Decimal Said number_of (λ w d. read_said w (decimal_ok w d)) (drop m l) (numbers_from m l g.number);
      hook = λ h. hook_among rooms l (g.hook h);
    }

lowered_apart : (names : List Word) → Apart names → Apart (map lowered names)
lowered_apart names a = record {
  other = λ i j l m.
      let n : length (map lowered names) ≡ length names = length-map names lowered in
      rw (map_at_lem lowered [] [] names j (omega arith), map_at_lem lowered [] [] names i (omega arith)) (same_lowered _ _ ∙ a.other i j l (omega arith));
}

entries_good : (k : ℕ) (rooms es : List Line) → Each (IsEntry k rooms) es → Each (GoodEntry k (part_names (map (entry_of 2) rooms))) (map (entry_of k) es)
entries_good k rooms es g = each_map (IsEntry k rooms) (GoodEntry k (part_names (map (entry_of 2) rooms))) (entry_of k) (entry_of_good k rooms) es g

pub good_parts : (t : Typed) → GoodTyped t → GoodParts (parts_of_typed t)
unfolding parts_of_typed
good_parts t g = record {
  rooms = entries_good 2 t.rooms t.rooms g.rooms;
  tracks = entries_good 3 t.rooms t.tracks g.tracks;
  obstacles = entries_good 4 t.rooms t.obstacles g.obstacles;
  hooks = entries_good 5 t.rooms t.hooks g.hooks;
  apart = rw (names_lowered t.rooms) (lowered_apart (names_of t.rooms) g.apart);
  doors = rw (doors_lowered t.hooks) (lowered_apart (doors_of t.hooks) g.doors);
  few_rooms = rw (length-map t.rooms (entry_of 2)) g.few_rooms;
  few_tracks = rw (length-map t.tracks (entry_of 3)) g.few_tracks;
  few_obstacles = rw (length-map t.obstacles (entry_of 4)) g.few_obstacles;
  few_hooks = rw (length-map t.hooks (entry_of 5)) g.few_hooks;
}

pub parts_good : (s : List ℕ) → GoodParts (parts_of s)
unfolding parts_of
parts_good s = good_parts (layout_of s) (layout_good s)
