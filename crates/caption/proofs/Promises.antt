-- What a caller may rely on: a caption is a room's typed name, its place cuts it out of the text that it names, and two admitted answers are
-- equal. Assumes nothing.
use mathlib.Core.Path.{◌≡◌, refl, sym, ap, ◌∙◌}
use mathlib.Core.Logic.{◌⊎◌, inl, inr, ◌↔◌}
use mathlib.Core.Bool.{true, false, cond}
use mathlib.Core.List.{List, []}
use Prim.Native.Nat.{ℕ, ◌+◌, ◌≤◌, ◌<◌}
use native.Mathlib.Omega.{arith}
use lib.Dec.{eqb}
use lib.ListN.{length, get_or, take, drop}
use borrow.Author.Tests.{ltb-true}
use Rattle.verdict.proofs.Bools.{clash, test}
use Rattle.letters.specs.Class.{name_byte, is_gap}
use Rattle.text.specs.Scan.{run, line_at}
use Rattle.names.specs.Name.{is_name}
use Rattle.names.proofs.NameLaws.{name_clean}
use Rattle.layout.specs.Grammar.{names_of}
use Rattle.layout.specs.Layout.{layout_of}
use Rattle.rooms.specs.Rooms.{room_names}
use Rattle.verdict.proofs.Each.{each_at}
use Rattle.layout.proofs.ApartLaws.{length_names, names_at}
use Rattle.layout.specs.Plain.{IsEntry}
use Rattle.layout.proofs.ReadLaws.{layout_good}
use Rattle.caption.specs.declared.CaptionAt.{CaptionAt}
use Rattle.caption.specs.Caption.{has_room, room_name, caption_of, caption_number, room_place, caption_at}
use Rattle.caption.proofs.PlaceLaws.{place_41}
use Rattle.caption.proofs.CaptionPart.{OwnLine, own_line, name_part}

-- ---- a caption as a part of a text

-- a room's typed name is a name
pub room_has_name : (s : List ℕ) (i : ℕ) → has_room s i ≡ true → is_name (room_name s i) ≡ true
unfolding has_room room_name room_names
room_has_name s i h =
    let l : i < length (layout_of s).rooms = omega (arith, ltb-true i (length (names_of (layout_of s).rooms)) h, length_names (layout_of s).rooms) in
    rw (names_at (layout_of s).rooms i l) (each_at (IsEntry 2 (layout_of s).rooms) [] (layout_of s).rooms (layout_good s).rooms i l).name

-- where the number is 0, the caption is the typed name of room i in one of the two texts: the visitor's if it has room i
pub caption_is : (v h : List ℕ) (i : ℕ) → caption_number v h i ≡ 0 → ((has_room v i ≡ true) × (caption_of v h i ≡ room_name v i)) ⊎ ((has_room v i ≡ false) × ((has_room h i ≡ true) × (caption_of v h i ≡ room_name h i)))
unfolding caption_number caption_of
caption_is v h i z =
    test (has_room v i) (λ (e : has_room v i ≡ true). inl (e, rw e))
    (λ (e : has_room v i ≡ false). test (has_room h i) (λ (q : has_room h i ≡ true). inr (e, (q, rw (e, q)))) (λ (q : has_room h i ≡ false). absurd (omega (arith, rw (e, q) at z))))

-- so it is a name ..
pub caption_name : (v h : List ℕ) (i : ℕ) → caption_number v h i ≡ 0 → is_name (caption_of v h i) ≡ true
caption_name v h i z = go (caption_is v h i z)
  where
    go : ((has_room v i ≡ true) × (caption_of v h i ≡ room_name v i)) ⊎ ((has_room v i ≡ false) × ((has_room h i ≡ true) × (caption_of v h i ≡ room_name h i))) → is_name (caption_of v h i) ≡ true
    go (inl (e, q)) = rw q (room_has_name v i e)
    go (inr (n, (e, q))) = rw q (room_has_name h i e)

-- .. and has no byte but letters, digits and underscores: no blank, no line's end
pub caption_clean : (v h : List ℕ) (i k : ℕ) → caption_number v h i ≡ 0 → k < length (caption_of v h i) → name_byte (get_or (caption_of v h i) k 0) ≡ true
caption_clean v h i k z l = name_clean (caption_of v h i) (caption_name v h i z) k l

-- otherwise it is 41, and empty
pub caption_41 : (v h : List ℕ) (i : ℕ) → (caption_number v h i ≡ 0 → ⊥) → (caption_number v h i ≡ 41) × (caption_of v h i ≡ [])
unfolding caption_number caption_of
caption_41 v h i z =
    test (has_room v i) (λ (e : has_room v i ≡ true). absurd (z (rw e)))
    (λ (e : has_room v i ≡ false). test (has_room h i) (λ (q : has_room h i ≡ true). absurd (z (rw (e, q)))) (λ (q : has_room h i ≡ false). (rw (e, q), rw (e, q))))

-- ---- a caption as a place

-- the text that has room i, the visitor's first
abbrev pub caption_text : List ℕ → List ℕ → ℕ → List ℕ
caption_text v h i = cond (has_room v i) v h

-- where the number is 0, that text has room i, and the place is that of its name ..
pub caption_at_room : (v h : List ℕ) (i : ℕ) → caption_number v h i ≡ 0 → (has_room (caption_text v h i) i ≡ true) × (caption_of v h i ≡ room_name (caption_text v h i) i) × ((caption_at v h i).start ≡ room_place (caption_text v h i) i)
unfolding caption_at
caption_at_room v h i z = go (caption_is v h i z)
  where
    go : ((has_room v i ≡ true) × (caption_of v h i ≡ room_name v i)) ⊎ ((has_room v i ≡ false) × ((has_room h i ≡ true) × (caption_of v h i ≡ room_name h i))) → (has_room (caption_text v h i) i ≡ true) × (caption_of v h i ≡ room_name (caption_text v h i) i) × ((caption_at v h i).start ≡ room_place (caption_text v h i) i)
    go (inl (e, q)) = (rw e e, rw e q, rw e)
    go (inr (n, (e, q))) = (rw n e, rw n q, rw (n, e))

-- .. in room i's own line, behind its gap ..
pub caption_at_own_line : (v h : List ℕ) (i : ℕ) → caption_number v h i ≡ 0 → (a : ℕ) × OwnLine (caption_text v h i) i a × ((caption_at v h i).start ≡ a + run is_gap (line_at (caption_text v h i) a))
caption_at_own_line v h i z =
    let (e, q, p) = caption_at_room v h i z in
    let (a, o) = own_line (caption_text v h i) i e in
    (a, o, p ∙ o.place)

-- .. and place and length cut the caption out of it
pub caption_at_part : (v h : List ℕ) (i : ℕ) → caption_number v h i ≡ 0 → let c = caption_at v h i in (take c.length (drop c.start (caption_text v h i)) ≡ caption_of v h i) × (c.start + c.length ≤ length (caption_text v h i))
unfolding caption_at
caption_at_part v h i z =
    let (e, q, p) = caption_at_room v h i z in
    rw (q, p) (name_part (caption_text v h i) i e)

-- `house` says which text it is: 0 for the visitor's, which has room i then, else 1
pub caption_at_house : (v h : List ℕ) (i : ℕ) → ((caption_at v h i).house ≡ 0 ↔ has_room v i ≡ true) × ((caption_at v h i).house ≡ 1 ↔ has_room v i ≡ false)
unfolding caption_at
caption_at_house v h i =
    test (has_room v i) (λ (e : has_room v i ≡ true). rw e ((λ z. refl, λ z. refl), (λ z. absurd (omega arith), λ z. clash refl z)))
    (λ (e : has_room v i ≡ false). rw e ((λ z. absurd (omega arith), λ z. clash z refl), (λ z. refl, λ z. refl)))

-- for a caller that has the answer: it names its text, and cuts the caption out of it
pub caption_cut : (v h : List ℕ) (i : ℕ) (c : CaptionAt) → c ≡ caption_at v h i → c.number ≡ 0 → let s = cond (eqb c.house 0) v h in (take c.length (drop c.start s) ≡ caption_of v h i) × (c.start + c.length ≤ length s)
unfolding caption_at
caption_cut v h i c e z =
    let t : cond (eqb c.house 0) v h ≡ caption_text v h i = rw e (test (has_room v i) (λ (q : has_room v i ≡ true). rw q) (λ (q : has_room v i ≡ false). rw q)) in
    rw (t, e) (caption_at_part v h i (ap (λ (x : CaptionAt). x.number) (sym e) ∙ z))

-- otherwise 41, and the empty start of the house text
pub caption_at_41 : (v h : List ℕ) (i : ℕ) → (caption_number v h i ≡ 0 → ⊥) → caption_at v h i ≡ record { number = 41; house = 1; start = 0; length = 0 }
unfolding caption_number
caption_at_41 v h i z =
    test (has_room v i) (λ (e : has_room v i ≡ true). absurd (z (rw e)))
    (λ (e : has_room v i ≡ false). test (has_room h i) (λ (q : has_room h i ≡ true). absurd (z (rw (e, q)))) (λ (q : has_room h i ≡ false). sym (place_41 v h i e q)))

-- and two answers that the contract admits are equal
pub one_place : (v h : List ℕ) (i : ℕ) (a b : CaptionAt) → a ≡ caption_at v h i → b ≡ caption_at v h i → a ≡ b
one_place v h i a b p q = p ∙ sym q

-- and so are two captions that the other contract admits
pub one_caption : (v h : List ℕ) (i : ℕ) (a b : List ℕ) (m n : ℕ) → (a ≡ caption_of v h i) × (m ≡ caption_number v h i) → (b ≡ caption_of v h i) × (n ≡ caption_number v h i) → (a ≡ b) × (m ≡ n)
one_caption v h i a b m n (p, q) (x, y) = (p ∙ sym x, q ∙ sym y)
