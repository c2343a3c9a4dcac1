-- The fixed form of visibility, read line by line: it is accepted, with the same rows. Assumes nothing.
use mathlib.Core.Path.{◌≡◌, refl, sym, ap, ◌∙◌}
use mathlib.Core.Logic.{◌≢◌}
use mathlib.Core.Bool.{true, false, cond}
use mathlib.Core.List.{List, [], ◌∷◌, ◌++◌, map, map-append, append_assoc, append-nil}
use Prim.Native.Nat.{ℕ, zero, suc, ◌+◌, ◌-◌, ◌%◌, ◌^◌, ◌≤◌, ◌<◌}
use native.Mathlib.Nat.{add-zero, add-suc, zero-add, pow-suc}
use native.Mathlib.Omega.{arith}
use native.Mathlib.Decide.{ℕ_discrete, dec_lt}
use lib.Count.{ones}
use lib.Dec.{ltb}
use lib.ListN.{length, get_or, set, length-append, length-map, length-set}
use lib.Seq.{get_or-set_same, get_or-set_other, set-set, set-get_or, ext_get_or}
use borrow.Author.Tests.{lt-ltb, ne_eqb}
use Rattle.verdict.specs.Verdict.{accepted}
use Rattle.verdict.proofs.Bools.{test, decided}
use Rattle.names.specs.Name.{is_name}
use Rattle.letters.specs.Case.{lowered}
use Rattle.number.specs.Number.{plain}
use Rattle.text.specs.Scan.{words}
use Rattle.text.specs.Written.{spaced}
use Rattle.text.proofs.ReadingLaws.{read_next, read_end}
use Rattle.number.proofs.CountLaws.{plain_value, plain_count}
use Rattle.names.proofs.WordLaws.{name_plain, name_word}
use Rattle.number.proofs.WordLaws.{count_plain}
use Rattle.text.proofs.WrittenLaws.{words_spaced, words_space}
use Rattle.text.specs.Reading.{Word, Line, read_lines}
use Rattle.layout.proofs.ApartLaws.{Apart}
use Rattle.sight.specs.Rows.{sees, with_mark, no_rows}
use Rattle.sight.specs.Grammar.{room_of, room_fault, seen_fault, observer_fault, line_fault, moved_to, rows_behind, State, start, finish, fault, next, sight_grammar}
use Rattle.sightform.specs.Form.{seen_to, seen_line, room_lines, lines_to}
use Rattle.sight.proofs.MarkLaws.{sees_past}
use Rattle.sight.proofs.LowLaws.{low_set, low_unset, low_past, low_all, ones_few}
use Rattle.sightform.proofs.SeenLaws.{seen_count}
use Rattle.sight.proofs.RoomLaws.{room_is}
use Rattle.sight.proofs.RowsGood.{GoodRows, no_row}

-- the names ms that are written are those of the rooms ns, letter case ignored
pub record Shown (ns ms : List Word) : Type 0 where
  pub long : length ms ≡ length ns
  pub name : (j : ℕ) → j < length ns → is_name (get_or ms j []) ≡ true
  pub alike : (j : ℕ) → j < length ns → lowered (get_or ms j []) ≡ lowered (get_or ns j [])
  pub apart : Apart ns
  pub few : length ns ≤ 64

-- where the reader is, and the rows so far
abbrev looks : ℕ → ℕ → ℕ → List ℕ → State
looks observer left told rows = record { at = record { observer = observer; left = left; told = told }; rows = rows }

-- ---- the words of a line

pub words_seen : (w : Word) → is_name w ≡ true → words (seen_line w) ≡ w ∷ []
unfolding seen_line
words_seen w e = words_space (32 ∷ w) ∙ words_space w ∙ (name_word w e).0

pub words_head : (w : Word) (n : ℕ) → is_name w ≡ true → words (spaced (w ∷ plain n ∷ [])) ≡ w ∷ plain n ∷ []
words_head w n e = words_spaced (w ∷ plain n ∷ []) (name_plain w e, (count_plain n, tt))

-- ---- one line

-- a room of the layout that is not marked yet is no fault
room_right : (n row room : ℕ) → room < n → sees row room ≡ false → room_fault n row room ≡ 0
unfolding room_fault
room_right n row room l e = rw (e, ne_eqb room n (λ z. omega arith))

module _ (ns ms : List Word) (sh : Shown ns ms) where
  room_of_lem : (j : ℕ) → j < length ns → room_of ns (get_or ms j []) ≡ j
  room_of_lem j l = room_is ns (get_or ms j []) j sh.apart l (sh.alike j l)

  -- a seen room's line
  seen_step : (k left told m j : ℕ) (rows : List ℕ) (ys : List Line) → j < length ns → sees (get_or rows k 0) j ≡ false → read_lines (sight_grammar ns) m (looks k (suc left) told rows) (words (seen_line (get_or ms j [])) ∷ ys) ≡ read_lines (sight_grammar ns) (suc m) (looks k left told (set rows k (with_mark (get_or rows k 0) j))) ys
  seen_step k left told m j rows ys l e =
      let z : suc left - 1 ≡ left = omega arith in
      rw (words_seen (get_or ms j []) (sh.name j l))
      (read_next (sight_grammar ns) m (looks k (suc left) told rows) (get_or ms j [] ∷ []) ys no_fault
      ∙ ap (λ (st : State). read_lines (sight_grammar ns) (suc m) st ys) (moved ∙ ap (λ (i : ℕ). looks k i told (set rows k (with_mark (get_or rows k 0) j))) z))
    where
      some : ltb 0 (suc left) ≡ true
      some = lt-ltb 0 (suc left) (omega arith)

      no_fault : fault ns (looks k (suc left) told rows) (get_or ms j [] ∷ []) ≡ 0
      no_fault = unfold fault line_fault seen_fault in (rw (some, sh.name j l, room_of_lem j l) (room_right (length ns) (get_or rows k 0) j l e))

      moved : next ns (looks k (suc left) told rows) (get_or ms j [] ∷ []) ≡ looks k (suc left - 1) told (set rows k (with_mark (get_or rows k 0) j))
      moved = unfold next moved_to rows_behind in (rw (some, room_of_lem j l))

  -- an observer's line
  head_step : (observer told m k n : ℕ) (rows : List ℕ) (ys : List Line) → k < length ns → sees told k ≡ false → n ≤ 64 → read_lines (sight_grammar ns) m (looks observer 0 told rows) (words (spaced (get_or ms k [] ∷ plain n ∷ [])) ∷ ys) ≡ read_lines (sight_grammar ns) (suc m) (looks k n (with_mark told k) rows) ys
  head_step observer told m k n rows ys l e few =
      rw (words_head (get_or ms k []) n (sh.name k l))
      (read_next (sight_grammar ns) m (looks observer 0 told rows) (get_or ms k [] ∷ plain n ∷ []) ys no_fault
      ∙ ap (λ (st : State). read_lines (sight_grammar ns) (suc m) st ys) moved)
    where
      no_fault : fault ns (looks observer 0 told rows) (get_or ms k [] ∷ plain n ∷ []) ≡ 0
      no_fault = unfold fault line_fault observer_fault in (rw (sh.name k l, plain_count n few, room_of_lem k l) (room_right (length ns) told k l e))

      moved : next ns (looks observer 0 told rows) (get_or ms k [] ∷ plain n ∷ []) ≡ looks k n (with_mark told k) rows
      moved = unfold next moved_to rows_behind in (rw (room_of_lem k l, plain_value n (omega arith)))

  -- ---- the seen rooms among the first j, one after another

  -- what is written for room j
  abbrev piece : ℕ → ℕ → List Word
  piece row j = cond (sees row j) (get_or ms j [] ∷ []) []

  abbrev as_read : List Word → List Line
  as_read ws = map words (map seen_line ws)

  module _ (k told row : ℕ) (rows : List ℕ) (inside : k < length rows) where
    piece_read : (left m j : ℕ) (ys : List Line) → j < length ns → read_lines (sight_grammar ns) m (looks k (left + length (piece row j)) told (set rows k (row % 2 ^ j))) (as_read (piece row j) ++ ys) ≡ read_lines (sight_grammar ns) (m + length (piece row j)) (looks k left told (set rows k (row % 2 ^ suc j))) ys
    piece_read left m j ys l = test (sees row j) yes_seen not_seen
      where
        here : get_or (set rows k (row % 2 ^ j)) k 0 ≡ row % 2 ^ j
        here = get_or-set_same rows k (row % 2 ^ j) 0 inside

        yes_seen : sees row j ≡ true → read_lines (sight_grammar ns) m (looks k (left + length (piece row j)) told (set rows k (row % 2 ^ j))) (as_read (piece row j) ++ ys) ≡ read_lines (sight_grammar ns) (m + length (piece row j)) (looks k left told (set rows k (row % 2 ^ suc j))) ys
        yes_seen e = rw (e, add-suc left 0, add-zero left, add-suc m 0, add-zero m)
            (seen_step k left told m j (set rows k (row % 2 ^ j)) ys l (rw here (low_past row j))
            ∙ rw (here, set-set rows k (row % 2 ^ j) (with_mark (row % 2 ^ j) j), low_set row j e))

        not_seen : sees row j ≡ false → read_lines (sight_grammar ns) m (looks k (left + length (piece row j)) told (set rows k (row % 2 ^ j))) (as_read (piece row j) ++ ys) ≡ read_lines (sight_grammar ns) (m + length (piece row j)) (looks k left told (set rows k (row % 2 ^ suc j))) ys
        not_seen e = rw (e, add-zero left, add-zero m, low_unset row j e)

    seen_read : (j : ℕ) → j ≤ length ns → (left m : ℕ) (ys : List Line) → read_lines (sight_grammar ns) m (looks k (left + length (seen_to ms row j)) told (set rows k 0)) (as_read (seen_to ms row j) ++ ys) ≡ read_lines (sight_grammar ns) (m + length (seen_to ms row j)) (looks k left told (set rows k (row % 2 ^ j))) ys
    unfolding seen_to
    seen_read zero l left m ys = let z : row % 1 ≡ 0 = omega arith in rw (z, add-zero left, add-zero m)
    seen_read (suc j) l left m ys =
        let xs = seen_to ms row j in
        let p = piece row j in
        let a : left + (length xs + length p) ≡ left + length p + length xs = omega arith in
        let b : m + (length xs + length p) ≡ m + length xs + length p = omega arith in
        let c : as_read (xs ++ p) ++ ys ≡ as_read xs ++ (as_read p ++ ys) = ap (λ (ls : List (List ℕ)). map words ls ++ ys) (map-append seen_line xs p) ∙ ap (λ (ls : List Line). ls ++ ys) (map-append words (map seen_line xs) (map seen_line p)) ∙ append_assoc (as_read xs) (as_read p) ys in
        rw (length-append xs p, a, b, c) (seen_read j (omega arith) (left + length p) m (as_read p ++ ys) ∙ piece_read left (m + length xs) j ys (omega arith))

  -- ---- a room with its list

  room_read : (observer told m k row : ℕ) (rows : List ℕ) (ys : List Line) → k < length ns → sees told k ≡ false → row < 2 ^ length ns → k < length rows → get_or rows k 0 ≡ 0 → read_lines (sight_grammar ns) m (looks observer 0 told rows) (map words (room_lines ms k row) ++ ys) ≡ read_lines (sight_grammar ns) (m + length (room_lines ms k row)) (looks k 0 (with_mark told k) (set rows k row)) ys
  unfolding room_lines
  room_read observer told m k row rows ys l e h inside none =
      let n = length ns in
      let xs = seen_to ms row n in
      let c : ones row ≡ 0 + length xs = sym (seen_count ms row n h) ∙ sym (zero-add (length xs)) in
      let same : rows ≡ set rows k 0 = sym (set-get_or rows k 0) ∙ ap (λ (v : ℕ). set rows k v) none in
      let end : suc m + length xs ≡ m + suc (length xs) = omega arith in
      rw sh.long
      (head_step observer told m k (ones row) rows (as_read xs ++ ys) l e (ones_few row n sh.few h)
      ∙ ap (λ (i : ℕ). read_lines (sight_grammar ns) (suc m) (looks k i (with_mark told k) rows) (as_read xs ++ ys)) c
      ∙ ap (λ (r : List ℕ). read_lines (sight_grammar ns) (suc m) (looks k (0 + length xs) (with_mark told k) r) (as_read xs ++ ys)) same
      ∙ seen_read k (with_mark told k) row rows inside n (omega arith) 0 (suc m) ys
      ∙ rw (low_all row n h, length-map xs seen_line, end))

-- ---- room after room

-- the last observer of the first k rooms, their marks, and the rows of the first k with no marks behind them
last_to : ℕ → ℕ
last_to zero = 0
last_to (suc k) = k

told_to : ℕ → ℕ
told_to zero = 0
told_to (suc k) = with_mark (told_to k) k

rows_to : List ℕ → ℕ → List ℕ
rows_to rows zero = no_rows
rows_to rows (suc k) = set (rows_to rows k) k (get_or rows k 0)

told_fits : (k : ℕ) → told_to k < 2 ^ k
unfolding told_to with_mark
told_fits zero = omega arith
told_fits (suc k) = let ih : told_to k < 2 ^ k = told_fits k in omega (arith, pow-suc 2 k)

rows_long : (rows : List ℕ) (k : ℕ) → length (rows_to rows k) ≡ 64
unfolding rows_to
rows_long rows zero = refl
rows_long rows (suc k) = length-set (rows_to rows k) k (get_or rows k 0) ∙ rows_long rows k

rows_past : (rows : List ℕ) (k j : ℕ) → k ≤ j → get_or (rows_to rows k) j 0 ≡ 0
unfolding rows_to
rows_past rows zero j l = no_row j
rows_past rows (suc k) j l = get_or-set_other (rows_to rows k) k j (get_or rows k 0) 0 (λ e. omega arith) ∙ rows_past rows k j (omega arith)

rows_before : (rows : List ℕ) (k j : ℕ) → j < k → k ≤ 64 → get_or (rows_to rows k) j 0 ≡ get_or rows j 0
unfolding rows_to
rows_before rows zero j l few = absurd (omega arith)
rows_before rows (suc k) j l few =
    let rest : j < k → get_or (rows_to rows k) j 0 ≡ get_or rows j 0 = λ m. rows_before rows k j m (omega arith) in
    decided (ℕ_discrete j k) (λ (e : j ≡ k). rw (e, get_or-set_same (rows_to rows k) k (get_or rows k 0) 0 (omega (arith, rows_long rows k))))
    (λ (e : j ≢ k). get_or-set_other (rows_to rows k) k j (get_or rows k 0) 0 e ∙ rest (omega arith))

rows_all : (n : ℕ) (rows : List ℕ) → n ≤ 64 → GoodRows n rows → rows_to rows n ≡ rows
rows_all n rows few g =
    ext_get_or 0 (rows_to rows n) rows (rows_long rows n ∙ sym g.sized)
    (λ j l. decided (dec_lt j n) (λ m. rows_before rows n j m few) (λ m. rows_past rows n j (omega arith) ∙ sym (g.past j (omega arith))))

module _ (ns ms : List Word) (sh : Shown ns ms) (rows : List ℕ) (g : GoodRows (length ns) rows) where
  lines_to_lem : (k : ℕ) → k ≤ length ns → (ys : List Line) → read_lines (sight_grammar ns) 0 start (map words (lines_to ms rows k) ++ ys) ≡ read_lines (sight_grammar ns) (length (lines_to ms rows k)) (looks (last_to k) 0 (told_to k) (rows_to rows k)) ys
  unfolding lines_to last_to told_to rows_to
  lines_to_lem zero l ys = refl
  lines_to_lem (suc k) l ys =
      let a = lines_to ms rows k in
      let b = room_lines ms k (get_or rows k 0) in
      let room : k < length (rows_to rows k) = omega (arith, rows_long rows k, sh.few) in
      rw (map-append words a b, append_assoc (map words a) (map words b) ys, length-append a b)
      (lines_to_lem k (omega arith) (map words b ++ ys)
      ∙ room_read ns ms sh (last_to k) (told_to k) (length a) k (get_or rows k 0) (rows_to rows k) ys l (sees_past (told_to k) k (told_fits k)) (g.fits k) room (rows_past rows k k (omega arith)))

  -- the law: the form's lines are accepted, with its rows
  pub form_lines : read_lines (sight_grammar ns) 0 start (map words (lines_to ms rows (length ms))) ≡ record { verdict = accepted; rows = rows }
  unfolding finish
  form_lines =
      rw (sh.long, ← append-nil (map words (lines_to ms rows (length ns))))
      (lines_to_lem (length ns) (omega arith) [] ∙ read_end (sight_grammar ns) (length (lines_to ms rows (length ns))) _ ∙ rw (rows_all (length ns) rows sh.few g))
