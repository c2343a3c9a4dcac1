-- A caption as a part of its text: the first word of a line behind its gap, the line that the search for a room's name finds, and that it
-- is the room's own. Assumes nothing.
use mathlib.Core.Path.{◌≡◌, refl, sym, ap, ◌∙◌}
use mathlib.Core.Logic.{◌⊎◌, inl, inr}
use mathlib.Core.Bool.{Bool, true, false, not}
use mathlib.Core.List.{List, [], ◌++◌}
use Prim.Native.Nat.{ℕ, zero, suc, ◌+◌, ◌-◌, ◌≤◌, ◌<◌}
use native.Mathlib.Nat.{zero-add}
use native.Mathlib.Omega.{arith}
use native.Mathlib.Decide.{dec_lt}
use lib.Dec.{eqb}
use lib.ListN.{length, get_or, take, drop, take-append-drop, length-drop}
use lib.Seq.{length-take-le, take-append-le, drop-append-le, drop-drop, drop-cons}
use borrow.Author.Tests.{eqb-true, eqb-false, ltb-true}
use Rattle.verdict.proofs.Bools.{test, decided}
use Rattle.verdict.proofs.Verdict.{passed}
use Rattle.letters.specs.Class.{is_gap, is_end}
use Rattle.text.specs.Scan.{run, apart, words, lines, line_at}
use Rattle.text.specs.Sound.{rules31to32}
use Rattle.text.specs.Reading.{Line, nth}
use Rattle.text.specs.Written.{word_lines}
use Rattle.text.proofs.RunLaws.{run_le, run_drop, run_cons_on}
use Rattle.text.proofs.SplitLaws.{cursor_first, cursor_within, line_step, line_none}
use Rattle.layout.specs.Grammar.{Typed, start, names_of}
use Rattle.layout.specs.Layout.{layout_verdict, layout_of, grammar}
use Rattle.rooms.specs.Rooms.{room_names}
use Rattle.caption.specs.Caption.{has_room, room_name, enters_as, name_place, room_place}
use Rattle.layout.proofs.ApartLaws.{length_names, names_at}
use Rattle.layout.proofs.GoodLaws.{good_start}
use Rattle.layout.proofs.ReadLaws.{layout_accepted, layout_refused}
use Rattle.caption.proofs.PlaceLaws.{place_hit, place_next}
use Rattle.caption.proofs.RoomLaws.{line_as, line_hit, line_miss, no_line, line_as_one, lines_add}

-- ---- a word of a line, and of a text

-- the first word of a line stands behind its gap
pub word_part : (l w : List ℕ) → get_or (words l) 0 [] ≡ w → (take (length w) (drop (run is_gap l) l) ≡ w) × (run is_gap l + length w ≤ length l)
word_part l w h =
    let a = run is_gap l in
    let n = run (apart is_gap) (drop a l) in
    let f : take (a + n - a) (drop a l) ≡ w = cursor_first l 0 a (a + n) (sym (zero-add a)) refl ∙ h in
    let i = cursor_within l 0 a (a + n) (sym (zero-add a)) refl (omega arith) in
    let k : length w ≡ a + n - a = ap length (sym f) ∙ length-take-le (a + n - a) (drop a l) (omega (arith, length-drop a l)) in
    (rw k f, omega arith)

-- and so it does in the text that the line is a line of
pub line_part : (s w : List ℕ) (a : ℕ) → a ≤ length s → get_or (words (line_at s a)) 0 [] ≡ w → (take (length w) (drop (a + run is_gap (line_at s a)) s) ≡ w) × (a + run is_gap (line_at s a) + length w ≤ length s)
unfolding line_at
line_part s w a h e =
    let n = run (apart is_end) (drop a s) in
    let l = take n (drop a s) in
    let m = run is_gap l in
    let ll : length l ≡ n = length-take-le n (drop a s) (run_le (apart is_end) (drop a s)) in
    let (p, q) = word_part l w e in
    let r : drop (a + m) s ≡ drop m l ++ drop n (drop a s) =
    sym (drop-drop m a s) ∙ ap (drop m) (sym (take-append-drop n (drop a s))) ∙ drop-append-le m l (drop n (drop a s)) (omega arith) in
    let k : length (drop m l) ≡ length l - m = length-drop m l in
    (rw r (take-append-le (length w) (drop m l) (drop n (drop a s)) (omega arith) ∙ p), omega (arith, run_le (apart is_end) (drop a s), length-drop a s))

-- ---- the line that the search finds

-- a line of a text starts here: nothing stands before it, or a line's end
abbrev pub StartsLine : List ℕ → ℕ → Type 0
StartsLine s a = (a ≡ 0) ⊎ ((1 ≤ a) × (is_end (get_or s (a - 1) 0) ≡ true))

-- the byte behind a line is a line's end
behind_line : (s : List ℕ) (at e : ℕ) → e ≡ at + run (apart is_end) (drop at s) → e < length s → is_end (get_or s e 0) ≡ true
behind_line s at e he h = test (is_end (get_or s e 0)) (λ q. q) off
  where
    z : run (apart is_end) (drop e s) ≡ 0
    z = rw (he, ← drop-drop (run (apart is_end) (drop at s)) at s) (run_drop (apart is_end) (drop at s))

    off : is_end (get_or s e 0) ≡ false → is_end (get_or s e 0) ≡ true
    off q =
        let k : suc (run (apart is_end) (drop (suc e) s)) ≡ 0 = sym (run_cons_on (apart is_end) (get_or s e 0) (drop (suc e) s) (ap not q)) ∙ ap (run (apart is_end)) (sym (drop-cons s e 0 h)) ∙ z in
        absurd (omega arith)

-- where the search stops, from `at` on: at the gap of a line of the text
pub record FoundLine (w s : List ℕ) (at a : ℕ) : Type 0 where
  pub inside : a < length s
  pub starts : StartsLine s a
  pub line : line_as w (lines (drop at s)) ≡ line_at s a
  pub place : name_place w at (lines (drop at s)) ≡ a + run is_gap (line_at s a)

-- an entry of the name is found
pub found_line : (k : ℕ) (w s : List ℕ) (at : ℕ) → length s ≤ at + k → StartsLine s at → length (words (line_as w (lines (drop at s)))) ≡ 4 → (a : ℕ) × FoundLine w s at a
found_line zero w s at h b f = absurd (no_line w (rw (line_none s at (omega arith)) at f))
found_line (suc k) w s at h b f = decided (dec_lt at (length s)) (λ l. go l (enters_as w (line_at s at)) refl (found_line k w s)) (λ l. absurd (no_line w (rw (line_none s at (omega arith)) at f)))
  where
    e : ℕ
    e = at + run (apart is_end) (drop at s)

    go : at < length s → (t : Bool) → enters_as w (line_at s at) ≡ t → ((at : ℕ) → length s ≤ at + k → StartsLine s at → length (words (line_as w (lines (drop at s)))) ≡ 4 → (a : ℕ) × FoundLine w s at a) → (a : ℕ) × FoundLine w s at a
    go l true t r = (
      at,
      record {
        inside = l;
        starts = b;
        line = rw (line_step s at e refl l) (line_hit w (line_at s at) _ t);
        place = sym (place_hit w s at _ l t refl);
      },
    )
    go l false t r =
        let m : line_as w (lines (drop at s)) ≡ line_as w (lines (drop (e + 1) s)) = rw (line_step s at e refl l) (line_miss w (line_at s at) _ t) in
        let n : length (words (line_as w (lines (drop (e + 1) s)))) ≡ 4 = ap (λ (x : List ℕ). length (words x)) (sym m) ∙ f in
        decided (dec_lt e (length s))
        (λ q.
        let j : e + 1 - 1 ≡ e = omega arith in
        let (a, x) = r (e + 1) (omega arith) (inr (omega arith, rw j (behind_line s at e refl q))) n in
        (a, record { inside = x.inside; starts = x.starts; line = m ∙ x.line; place = place_next w s at e refl l t ∙ x.place }))
        (λ q. absurd (no_line w (rw (line_none s (e + 1) (omega arith)) at n)))

-- ---- the rooms of a text

-- a is where room i's own line starts, and its name's place is behind that line's gap
pub record OwnLine (s : List ℕ) (i a : ℕ) : Type 0 where
  pub inside : a < length s
  pub starts : StartsLine s a
  pub own : words (line_at s a) ≡ get_or (layout_of s).rooms i []
  pub place : room_place s i ≡ a + run is_gap (line_at s a)

module _ (s : List ℕ) (i : ℕ) (h : has_room s i ≡ true) where
  room_accepted : (layout_verdict s).number ≡ 0
  unfolding has_room room_names
  room_accepted =
      test (eqb (layout_verdict s).number 0) (λ (e : eqb (layout_verdict s).number 0 ≡ true). eqb-true _ 0 e)
      (λ (e : eqb (layout_verdict s).number 0 ≡ false).
      let n : length (names_of (layout_of s).rooms) ≡ 0 = unfold names_of in (rw (layout_refused s (eqb-false _ 0 e))) in
      absurd (omega (arith, ltb-true i (length (names_of (layout_of s).rooms)) h)))

  room_within : i < length (layout_of s).rooms
  unfolding has_room room_names
  room_within = omega (arith, ltb-true i (length (names_of (layout_of s).rooms)) h, length_names (layout_of s).rooms)

  pub room_name_first : room_name s i ≡ nth (get_or (layout_of s).rooms i []) 0
  unfolding room_name room_names
  room_name_first = names_at (layout_of s).rooms i room_within

  -- the first entry of a room's name is the room
  pub first_is_own : (words (line_as (room_name s i) (lines s)) ≡ get_or (layout_of s).rooms i []) × (length (get_or (layout_of s).rooms i []) ≡ 4)
  unfolding grammar word_lines layout_verdict
  first_is_own =
      let d = lines_add (lines s) 0 start good_start (passed (rules31to32 s) (grammar s).verdict room_accepted).1 in
      let r : (layout_of s).rooms ≡ d.more = ap (λ (t : Typed). t.rooms) (layout_accepted s room_accepted) ∙ d.all in
      rw (room_name_first, r) (d.own i (omega (arith, room_within, ap length r)))

  -- a room's entry is a line of the text
  pub entries_are_lines : (k : ℕ) × (k < length (lines s)) × (words (get_or (lines s) k []) ≡ get_or (layout_of s).rooms i [])
  entries_are_lines =
      let (p, q) = first_is_own in
      let (k, l, e) = line_as_one (room_name s i) (lines s) (ap length p ∙ q) in
      (k, l, ap words e ∙ p)

  -- the search for a room's name ends in the room's own line, at the gap before its first word
  pub own_line : (a : ℕ) × OwnLine s i a
  unfolding room_place
  own_line =
      let (p, q) = first_is_own in
      let (a, f) = found_line (length s) (room_name s i) s 0 (omega arith) (inl refl) (ap length p ∙ q) in
      (a, record { inside = f.inside; starts = f.starts; own = ap words (sym f.line) ∙ p; place = f.place })

  -- a room's place and its name's length cut its name out of the text
  pub name_part : (take (length (room_name s i)) (drop (room_place s i) s) ≡ room_name s i) × (room_place s i + length (room_name s i) ≤ length s)
  name_part =
      let (a, o) = own_line in
      rw o.place (line_part s (room_name s i) a (omega (arith, o.inside)) (ap (λ (l : Line). nth l 0) o.own ∙ sym room_name_first))
