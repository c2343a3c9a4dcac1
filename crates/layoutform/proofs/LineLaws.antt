-- An entry's line in the form: it is an entry as the paper tells it, and is read as the same entry. Assumes nothing.
use mathlib.Core.Path.{◌≡◌, refl, ap, ◌∙◌}
use mathlib.Core.Bool.{true}
use mathlib.Core.List.{List, [], ◌∷◌, ◌++◌, map}
use Prim.Native.Nat.{ℕ, suc, ◌+◌, ◌<◌}
use native.Mathlib.Omega.{arith}
use lib.ListN.{length, take, drop, length-map, length-append}
use lib.Seq.{take_at, drop_at}
use Rattle.verdict.proofs.Each.{Each, each_append, each_as, each_map}
use Rattle.number.specs.declared.Num.{Num}
use Rattle.names.specs.Name.{is_name}
use Rattle.letters.specs.Case.{lowered}
use Rattle.number.specs.Number.{number_of, printed, Said, Decimal}
use Rattle.number.proofs.NumberTrip.{printed_read}
use Rattle.number.proofs.DecimalLaws.{read_decimal}
use Rattle.text.proofs.WrittenLaws.{AllPlain, Plain}
use Rattle.names.proofs.WordLaws.{name_plain}
use Rattle.number.proofs.WordLaws.{number_plain}
use Rattle.text.specs.Reading.{Word, Line, nth}
use Rattle.layout.specs.Grammar.{names_in, names_of, doors_of}
use Rattle.layout.specs.Plain.{IsEntry, IsHook}
use Rattle.layout.proofs.ApartLaws.{length_names, names_at}
use Rattle.layout.proofs.EntryWords.{number_at}
use Rattle.layoutform.specs.Form.{Entry, entry_named, entry_of, entry_line}
use Rattle.layoutform.proofs.PartLaws.{part_names, part_doors, GoodName, Among, GoodEntry, names_hook}

pub line_names : (es : List Entry) → names_of (map entry_line es) ≡ part_names es
unfolding part_names names_of entry_line
line_names [] = refl
line_names (e ∷ es) = ap (λ (l : List Word). e.name ∷ l) (line_names es)

-- ---- names first, then numbers

module _ (k : ℕ) (rooms : List Word) (e : Entry) (g : GoodEntry k rooms e) where
  -- the numbers as they are written
  abbrev shown : Line
  shown = map printed e.numbers

  pub line_long : length (entry_line e) ≡ names_in k + length e.numbers
  unfolding entry_line
  line_long = omega (arith, length-append e.door shown, length-map e.numbers printed, g.names)

  line_doors_are : drop 1 (take (names_in k) (entry_line e)) ≡ e.door
  unfolding entry_line
  line_doors_are = rw (← g.names) (take_at e.door shown (length e.door) refl)

  line_numbers_are : drop (names_in k) (entry_line e) ≡ shown
  unfolding entry_line
  line_numbers_are = rw (← g.names) (drop_at e.door shown (length e.door) refl)

  -- ---- it is an entry

  number_right : (x : Num) → Said x → Decimal (printed x)
  number_right x s = read_decimal (printed x) (ap (λ (y : Num). y.ok) (printed_read x s) ∙ s.right)

  line_numbers : Each Decimal (drop (names_in k) (entry_line e))
  line_numbers = rw line_numbers_are (each_map Said Decimal printed number_right e.numbers g.numbers)

  pub line_plain : AllPlain (entry_line e)
  unfolding entry_line
  line_plain = (
    name_plain e.name g.name.name,
    each_append Plain e.door shown (each_as GoodName Plain (λ w h. name_plain w h.name) e.door g.door) (each_map Said Plain printed (λ x s. number_plain x) e.numbers g.numbers),
  )

  -- ---- it is read as the same entry

  names_again : (ws : List Word) → Each GoodName ws → map lowered ws ≡ ws
  names_again [] h = refl
  names_again (w ∷ ws) (h, hs) = rw (h.small, names_again ws hs)

  numbers_again : (xs : List Num) → Each Said xs → map number_of (map printed xs) ≡ xs
  numbers_again [] h = refl
  numbers_again (x ∷ xs) (h, hs) = rw (printed_read x h, numbers_again xs hs)

  pub line_again : entry_of k (entry_line e) ≡ e
  unfolding entry_of entry_named
  line_again = rw (line_doors_are, line_numbers_are, names_again e.door g.door, numbers_again e.numbers g.numbers) (unfold entry_line in (rw g.name.small))

pub lines_again : (k : ℕ) (rooms : List Word) (es : List Entry) → Each (GoodEntry k rooms) es → map (entry_of k) (map entry_line es) ≡ es
lines_again k rooms [] g = refl
lines_again k rooms (e ∷ es) (g, h) = rw (line_again k rooms e g, lines_again k rooms es h)

-- ---- a hook's

door_first : (d : List Word) (ns : Line) → suc (length d) ≡ 2 → nth (d ++ ns) 0 ≡ nth d 0
door_first [] ns e = absurd (omega arith)
door_first (w ∷ d) ns e = refl

door_named : (d : List Word) → suc (length d) ≡ 2 → Each GoodName d → is_name (nth d 0) ≡ true
door_named [] e g = absurd (omega arith)
door_named (w ∷ d) e (g, h) = g.name

module _ (k : ℕ) (rooms : List Word) (e : Entry) (g : GoodEntry k rooms e) (h : k ≡ 5) where
  line_door : nth (entry_line e) 1 ≡ nth e.door 0
  unfolding entry_line
  line_door = door_first e.door (map printed e.numbers) (g.names ∙ names_hook k h)

  line_door_named : is_name (nth (entry_line e) 1) ≡ true
  line_door_named = rw line_door (door_named e.door (g.names ∙ names_hook k h) g.door)

pub line_doors : (rooms : List Word) (es : List Entry) → Each (GoodEntry 5 rooms) es → doors_of (map entry_line es) ≡ part_doors es
unfolding part_doors doors_of
line_doors rooms [] g = refl
line_doors rooms (e ∷ es) (g, h) = rw (line_door 5 rooms e g refl, line_doors rooms es h)

line_hook : (rooms : List Entry) (w : Word) (l : Line) → Among (part_names rooms) w → nth l 0 ≡ w → is_name (nth l 1) ≡ true → IsHook (map entry_line rooms) l
line_hook rooms w l a e d =
    let z = ap length (line_names rooms) in
    let i : a.at < length (map entry_line rooms) = omega (arith, length_names (map entry_line rooms), z, a.inside) in
    record { at = a.at; inside = i; same = rw (e, ← names_at (map entry_line rooms) a.at i, line_names rooms) a.same; door = d }

pub line_good : (k : ℕ) (rooms : List Entry) (e : Entry) → GoodEntry k (part_names rooms) e → IsEntry k (map entry_line rooms) (entry_line e)
line_good k rooms e g = record {
  long = rw (line_long k _ e g) g.long;
  name = unfold entry_line in g.name.name;
  number = number_at (names_in k) (entry_line e) (line_numbers k _ e g);
  hook = λ h. line_hook rooms e.name (entry_line e) (g.hook h) (unfold entry_line in refl) (line_door_named k _ e g h);
}
