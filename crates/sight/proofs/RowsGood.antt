-- What holds of a reading at each line, and of the rows of every text: 64 rows, no room marked that the layout has not. Assumes nothing.
use mathlib.Core.Path.{◌≡◌, refl, ◌∙◌}
use mathlib.Core.Logic.{◌≢◌}
use mathlib.Core.Bool.{true, false, not}
use mathlib.Core.List.{List, [], ◌∷◌}
use Prim.Native.Nat.{ℕ, suc, ◌-◌, ◌^◌, ◌≤◌, ◌<◌}
use native.Mathlib.Omega.{arith}
use native.Mathlib.Decide.{ℕ_discrete, dec_lt}
use lib.Dec.{eqb, ltb}
use lib.ListN.{length, get_or, set, length-set, get_or-replicate, get_or-eq_default}
use lib.Pow.{pow_pos}
use lib.Seq.{get_or-set_same, get_or-set_other, set_out}
use borrow.Author.Tests.{eqb-true, eqb-false, ltb-true, not-false}
use Rattle.verdict.specs.Verdict.{accepted}
use Rattle.verdict.proofs.Bools.{test, decided}
use Rattle.names.specs.Name.{is_name}
use Rattle.number.specs.Count.{value, is_count}
use Rattle.number.proofs.CountLaws.{count_within}
use Rattle.text.proofs.ReadingLaws.{read_next, read_stop, read_end}
use Rattle.text.specs.Reading.{Word, Line, nth, read_lines}
use Rattle.text.specs.Written.{word_lines}
use Rattle.layout.proofs.GoodLaws.{first_none}
use Rattle.sight.specs.Rows.{sees, with_mark, no_rows}
use Rattle.sight.specs.Grammar.{room_of, room_fault, seen_fault, observer_fault, line_fault, moved_to, rows_behind, State, start, Reading, stopped, finish, fault, next, sight_grammar}
use Rattle.sight.specs.Sight.{grammar}
use Rattle.sight.proofs.MarkLaws.{mark_fits}
use Rattle.sight.proofs.RoomLaws.{room_within}

-- the rows of a layout of n rooms: a row for each of 64 rooms, no mark past the rooms, and no row past them
pub record GoodRows (n : ℕ) (rows : List ℕ) : Type 0 where
  pub sized : length rows ≡ 64
  pub fits : (k : ℕ) → get_or rows k 0 < 2 ^ n
  pub past : (k : ℕ) → n ≤ k → get_or rows k 0 ≡ 0

-- no row has a mark
pub no_row : (k : ℕ) → get_or no_rows k 0 ≡ 0
no_row k = decided (dec_lt k 64) (λ l. get_or-replicate 64 k 0 0 l) (λ m. get_or-eq_default no_rows 0 {n = k} (omega arith))

pub good_no_rows : (n : ℕ) → GoodRows n no_rows
good_no_rows n = record { sized = refl; fits = λ k. rw (no_row k) (pow_pos n); past = λ k l. no_row k }

-- another row for one of the rooms
pub good_set : (n : ℕ) (rows : List ℕ) (k v : ℕ) → GoodRows n rows → k < n → v < 2 ^ n → GoodRows n (set rows k v)
good_set n rows k v g l h = record { sized = length-set rows k v ∙ g.sized; fits = fits; past = λ j m. get_or-set_other rows k j v 0 (λ e. omega arith) ∙ g.past j m }
  where
    here : (j : ℕ) → j ≡ k → get_or (set rows k v) j 0 < 2 ^ n
    here j e = decided (dec_lt k (length rows)) (λ m. rw (e, get_or-set_same rows k v 0 m) h) (λ m. rw (set_out rows k v (omega arith)) (g.fits j))

    fits : (j : ℕ) → get_or (set rows k v) j 0 < 2 ^ n
    fits j = decided (ℕ_discrete j k) (here j) (λ (e : j ≢ k). rw (get_or-set_other rows k j v 0 e) (g.fits j))

-- ---- a line with no fault

module _ (n row room : ℕ) (within : room ≤ n) (e : room_fault n row room ≡ 0) where
  room_faults : (sees row room ≡ false) × (eqb room n ≡ false)
  unfolding room_fault
  room_faults =
      let a = first_none (sees row room) 36 _ e in
      let b = first_none (eqb room n) 38 _ a.1 in
      (a.0, b.0)

  -- its room is one of the layout's, and is not marked yet
  pub room_known : room < n
  room_known = let z : room ≡ n → ⊥ = eqb-false room n room_faults.1 in omega arith

  pub room_new : sees row room ≡ false
  room_new = room_faults.0

pub seen_faults : (n row room : ℕ) (l : Line) → seen_fault n row room l ≡ 0 → (length l ≡ 1) × ((is_name (nth l 0) ≡ true) × (room_fault n row room ≡ 0))
unfolding seen_fault
seen_faults n row room l e =
    let a = first_none (not (eqb (length l) 1)) 32 _ e in
    let b = first_none (not (is_name (nth l 0))) 33 _ a.1 in
    (eqb-true (length l) 1 (not-false _ a.0), (not-false _ b.0, b.1))

pub observer_faults : (n told room : ℕ) (l : Line) → observer_fault n told room l ≡ 0 → (length l ≡ 2) × ((is_name (nth l 0) ≡ true) × ((is_count (nth l 1) ≡ true) × (room_fault n told room ≡ 0)))
unfolding observer_fault
observer_faults n told room l e =
    let a = first_none (not (eqb (length l) 2)) 32 _ e in
    let b = first_none (not (is_name (nth l 0))) 33 _ a.1 in
    let c = first_none (not (is_count (nth l 1))) 35 _ b.1 in
    (eqb-true (length l) 2 (not-false _ a.0), (not-false _ b.0, (not-false _ c.0, c.1)))

-- ---- the reading so far

pub record Good (n : ℕ) (st : State) : Type 0 where
  pub rows : GoodRows n st.rows
  pub told : st.at.told < 2 ^ n
  pub few : st.at.left ≤ 64
  pub seer : 0 < st.at.left → st.at.observer < n

pub good_start : (n : ℕ) → Good n start
good_start n = record { rows = good_no_rows n; told = pow_pos n; few = omega arith; seer = λ h. absurd (omega arith) }

-- a room more in the observer's list
good_seen : (n : ℕ) (st : State) (room : ℕ) → Good n st → 0 < st.at.left → room ≤ n → room_fault n (get_or st.rows st.at.observer 0) room ≡ 0
    → Good n (record { at = record { observer = st.at.observer; left = st.at.left - 1; told = st.at.told }; rows = set st.rows st.at.observer (with_mark (get_or st.rows st.at.observer 0) room) })
good_seen n st room g some within e =
    let row = get_or st.rows st.at.observer 0 in
    record {
      rows = good_set n st.rows st.at.observer (with_mark row room) g.rows (g.seer some) (mark_fits row room n (room_known n row room within e) (g.rows.fits st.at.observer) (room_new n row room within e));
      told = g.told;
      few = omega (arith, g.few);
      seer = λ h. g.seer some;
    }

-- a new observer
good_observer : (n : ℕ) (st : State) (room : ℕ) (w : Word) → Good n st → room ≤ n → is_count w ≡ true → room_fault n st.at.told room ≡ 0
    → Good n (record { at = record { observer = room; left = value 0 w; told = with_mark st.at.told room }; rows = st.rows })
good_observer n st room w g within c e =
    record {
      rows = g.rows;
      told = mark_fits st.at.told room n (room_known n st.at.told room within e) g.told (room_new n st.at.told room within e);
      few = count_within w c;
      seer = λ h. room_known n st.at.told room within e;
    }

-- so it stays, line by line
pub good_next : (names : List Word) (st : State) (l : Line) → Good (length names) st → fault names st l ≡ 0 → Good (length names) (next names st l)
unfolding fault next line_fault moved_to rows_behind
good_next names st [] g e = g
good_next names st (w ∷ ws) g e =
    let n = length names in
    let l = w ∷ ws in
    let room = room_of names w in
    test (ltb 0 st.at.left)
    (λ (h : ltb 0 st.at.left ≡ true).
    let f = seen_faults n (get_or st.rows st.at.observer 0) room l (rw h at e) in
    rw h (good_seen n st room g (ltb-true 0 st.at.left h) (room_within names w) f.1.1))
    (λ (h : ltb 0 st.at.left ≡ false).
    let f = observer_faults n st.at.told room l (rw h at e) in
    rw h (good_observer n st room (nth l 1) g (room_within names w) f.1.1.0 f.1.1.1))

-- ---- what is read

-- the rows are right; an accepted reading has place 0, and a refused one no marks
pub record Sane (n : ℕ) (r : Reading) : Type 0 where
  pub rows : GoodRows n r.rows
  pub at_0 : r.verdict.number ≡ 0 → r.verdict ≡ accepted
  pub none : (r.verdict.number ≡ 0 → ⊥) → r.rows ≡ no_rows

sane_stopped : (n f line : ℕ) → (f ≡ 0 → ⊥) → Sane n (stopped f line)
sane_stopped n f line h = record { rows = good_no_rows n; at_0 = λ z. absurd (h z); none = λ z. refl }

pub read_sane : (names : List Word) (ls : List Line) (n : ℕ) (st : State) → Good (length names) st → Sane (length names) (read_lines (sight_grammar names) n st ls)
unfolding finish
read_sane names [] n st g =
    test (eqb st.at.left 0)
    (λ (h : eqb st.at.left 0 ≡ true). rw (read_end (sight_grammar names) n st, h) (record { rows = g.rows; at_0 = λ z. refl; none = λ z. absurd (z refl) }))
    (λ (h : eqb st.at.left 0 ≡ false). rw (read_end (sight_grammar names) n st, h) (sane_stopped (length names) 38 n (λ z. omega arith)))
read_sane names (l ∷ ls) n st g =
    let rest : fault names st l ≡ 0 → Sane (length names) (read_lines (sight_grammar names) (suc n) (next names st l) ls) = λ e. read_sane names ls (suc n) (next names st l) (good_next names st l g e) in
    test (eqb (fault names st l) 0)
    (λ (h : eqb (fault names st l) 0 ≡ true). let e = eqb-true (fault names st l) 0 h in rw (read_next (sight_grammar names) n st l ls e) (rest e))
    (λ (h : eqb (fault names st l) 0 ≡ false). let e = eqb-false (fault names st l) 0 h in rw (read_stop (sight_grammar names) n st l ls e) (sane_stopped (length names) (fault names st l) (suc n) e))

-- the rows that the grammar reads are right, for every text
pub grammar_sane : (names : List Word) (s : List ℕ) → Sane (length names) (grammar names s)
unfolding grammar
grammar_sane names s = read_sane names (word_lines s) 0 start (good_start (length names))
