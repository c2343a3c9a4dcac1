-- Where a caption stands: the search for its line, and the answer case by case. Assumes nothing.
use mathlib.Core.Path.{◌≡◌, refl, ◌∙◌}
use mathlib.Core.Bool.{Bool, true, false}
use mathlib.Core.List.{List}
use Prim.Native.Nat.{ℕ, ◌+◌, ◌≤◌, ◌<◌}
use native.Mathlib.Omega.{arith}
use lib.Dec.{eqb}
use lib.ListN.{length, drop, length-drop}
use borrow.Author.Tests.{eq-eqb, ne_eqb, eqb-true, eqb-false, ltb-true}
use Rattle.verdict.proofs.Bools.{test}
use Rattle.verdict.proofs.Verdict.{passed}
use Rattle.letters.specs.Class.{is_gap, is_end}
use Rattle.text.specs.Scan.{run, apart, words, lines, line_at}
use Rattle.names.specs.Name.{same}
use Rattle.text.specs.Sound.{rules31to32}
use Rattle.text.specs.Reading.{Word, nth}
use Rattle.text.proofs.RunLaws.{run_le}
use Rattle.text.proofs.SoundLaws.{sound_length}
use Rattle.text.proofs.SplitLaws.{line_step, line_none, line_long}
use Rattle.caption.specs.declared.CaptionAt.{CaptionAt}
use Rattle.layout.specs.Grammar.{names_of}
use Rattle.layout.specs.Layout.{layout_verdict, layout_of, grammar}
use Rattle.rooms.specs.Rooms.{room_names}
use Rattle.caption.specs.Caption.{has_room, room_name, caption_of, caption_number, enters_as, name_place, room_place, found_at, caption_at}
use Rattle.layout.proofs.ReadLaws.{layout_refused}

-- ---- a line

pub enters_no : (w l : List ℕ) → (length (words l) ≡ 4 → ⊥) → false ≡ enters_as w l
unfolding enters_as
enters_no w l h = rw (ne_eqb (length (words l)) 4 h)

pub enters_by : (w l u : List ℕ) (r : Bool) → length (words l) ≡ 4 → u ≡ nth (words l) 0 → r ≡ same u w → r ≡ enters_as w l
unfolding enters_as
enters_by w l u r h eu er = er ∙ rw (eq-eqb (length (words l)) 4 h, eu)

-- ---- the search, line by line

module _ (w s : List ℕ) (at : ℕ) where
  pub place_hit : (r : ℕ) → at < length s → enters_as w (line_at s at) ≡ true → r ≡ run is_gap (line_at s at) → at + r ≡ name_place w at (lines (drop at s))
  unfolding name_place
  place_hit r h t er = rw (line_step s at (at + run (apart is_end) (drop at s)) refl h, t, er)

  pub place_next : (e : ℕ) → e ≡ at + run (apart is_end) (drop at s) → at < length s → enters_as w (line_at s at) ≡ false → name_place w at (lines (drop at s)) ≡ name_place w (e + 1) (lines (drop (e + 1) s))
  unfolding name_place
  place_next e he h t =
      let k : at + length (line_at s at) + 1 ≡ e + 1 = omega (arith, line_long s at) in
      rw (line_step s at e he h, t, k)

  pub place_none : length s ≤ at → at ≡ name_place w at (lines (drop at s))
  unfolding name_place
  place_none h = rw (line_none s at h)

-- the gap before a word lies within the text
pub gap_within : (s : List ℕ) (at : ℕ) → at ≤ length s → at + run is_gap (line_at s at) ≤ length s
gap_within s at h = omega (arith, run_le is_gap (line_at s at), line_long s at, run_le (apart is_end) (drop at s), length-drop at s)

-- ---- a layout that has a room reads, and is not too long

pub room_read : (s : List ℕ) (i : ℕ) → has_room s i ≡ true → length s ≤ 65536
unfolding has_room room_names layout_verdict
room_read s i h =
    test (eqb (layout_verdict s).number 0)
    (λ (e : eqb (layout_verdict s).number 0 ≡ true). sound_length s (passed (rules31to32 s) (grammar s).verdict (eqb-true _ 0 e)).0)
    (λ (e : eqb (layout_verdict s).number 0 ≡ false).
    let n : length (names_of (layout_of s).rooms) ≡ 0 = unfold names_of in (rw (layout_refused s (eqb-false _ 0 e))) in
    absurd (omega (arith, ltb-true i (length (names_of (layout_of s).rooms)) h)))

-- ---- the answer, in order

pub found_is : (house start place long : ℕ) → start ≡ place → ◌≡◌ {A = CaptionAt} (record { number = 0; house = house; start = start; length = long }) (found_at house place long)
unfolding found_at
found_is house start place long e = rw e

pub place_first : (v h : List ℕ) (i : ℕ) (u : Word) (c : CaptionAt) → has_room v i ≡ true → u ≡ room_name v i → c ≡ found_at 0 (name_place u 0 (lines v)) (length u) → c ≡ caption_at v h i
unfolding caption_at caption_number caption_of room_place found_at
place_first v h i u c p e ec = ec ∙ rw (p, e)

pub place_second : (v h : List ℕ) (i : ℕ) (u : Word) (c : CaptionAt) → has_room v i ≡ false → has_room h i ≡ true → u ≡ room_name h i → c ≡ found_at 1 (name_place u 0 (lines h)) (length u) → c ≡ caption_at v h i
unfolding caption_at caption_number caption_of room_place found_at
place_second v h i u c p q e ec = ec ∙ rw (p, q, e)

pub place_41 : (v h : List ℕ) (i : ℕ) → has_room v i ≡ false → has_room h i ≡ false → ◌≡◌ {A = CaptionAt} (record { number = 41; house = 1; start = 0; length = 0 }) (caption_at v h i)
unfolding caption_at caption_number caption_of
place_41 v h i p q = rw (p, q)
