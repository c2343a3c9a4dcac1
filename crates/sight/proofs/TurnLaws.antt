-- A turn of the reader, at the values that the code has in hand. Assumes nothing.
use mathlib.Core.Path.{◌≡◌, refl, sym, ◌∙◌}
use mathlib.Core.Bool.{true, false}
use mathlib.Core.List.{List, [], ◌∷◌}
use Prim.Native.Nat.{ℕ, ◌+◌, ◌≤◌, ◌<◌}
use native.Mathlib.Omega.{arith}
use lib.Dec.{ltb}
use lib.ListN.{length, get_or, drop}
use borrow.Author.Tests.{eq-eqb, ne_eqb, lt-ltb, le-ltb, ltb-false}
use Rattle.verdict.proofs.Bools.{test}
use Rattle.letters.specs.Class.{is_end}
use Rattle.number.specs.Count.{is_count}
use Rattle.text.specs.Scan.{run, apart, words, line_at}
use Rattle.text.specs.Reading.{Word, Line, nth}
use Rattle.text.proofs.ReadingLaws.{Standing, standing, stand_next, stand_stop, stand_end}
use Rattle.sight.specs.declared.Looking.{Looking}
use Rattle.sight.specs.Rows.{sees, no_rows}
use Rattle.sight.specs.Grammar.{room_of, room_fault, line_fault, moved_to, rows_behind, start, fault, next, finish, sight_grammar}
use Rattle.sight.specs.Sight.{ToldSight, grammar}
use Rattle.sight.specs.Code.{Turn, as_read, no_sight, state_of, turn_of, rows_after}
use Rattle.sight.proofs.RoomLaws.{room_within}
use Rattle.sight.proofs.RowsGood.{room_known, room_new, seen_faults, observer_faults}

-- ---- a line without fault

module _ (n : ℕ) (c : Looking) (row room f : ℕ) (within : room ≤ n) (z : f ≡ 0) where
  -- a line of a list sets a mark that is not set yet
  pub seen_asks : (l : Line) → f ≡ line_fault n c row room l → 0 < length l → 0 < c.left → (room < n) × (sees row room ≡ false)
  unfolding line_fault
  seen_asks [] e h k = absurd (omega arith)
  seen_asks (w ∷ ws) e h k =
      let q : room_fault n row room ≡ 0 = (seen_faults n row room (w ∷ ws) (sym (rw (lt-ltb 0 c.left k) at e) ∙ z)).1.1 in
      (room_known n row room within q, room_new n row room within q)

  -- an observer's line has a count, and its room is no observer yet
  pub observer_asks : (l : Line) → f ≡ line_fault n c row room l → 0 < length l → c.left ≡ 0 → (is_count (nth l 1) ≡ true) × ((room < n) × (sees c.told room ≡ false))
  unfolding line_fault
  observer_asks [] e h k = absurd (omega arith)
  observer_asks (w ∷ ws) e h k =
      let f = observer_faults n c.told room (w ∷ ws) (sym (rw (le-ltb 0 c.left (omega arith)) at e) ∙ z) in
      (f.1.1.0, (room_known n c.told room within f.1.1.1, room_new n c.told room within f.1.1.1))

  -- the observer stays within the rows
  pub observer_within : (l : Line) → f ≡ line_fault n c row room l → n ≤ 64 → c.observer < 64 → (moved_to c room l).observer < 64
  unfolding moved_to
  observer_within [] e few h = h
  observer_within (w ∷ ws) e few h =
      test (ltb 0 c.left) (λ (q : ltb 0 c.left ≡ true). rw q h)
      (λ (q : ltb 0 c.left ≡ false). rw q (let y : c.left ≡ 0 = omega (arith, ltb-false 0 c.left q) in omega (arith, (observer_asks (w ∷ ws) e (omega arith) y).1.0)))

-- ---- one line

module _ (names : List Word) (rows l u : List ℕ) (c : Looking) (n room row f : ℕ) (sized : length names ≡ n) (eu : u ≡ nth (words l) 0) (er : room ≡ room_of names u) (ew : row ≡ get_or rows c.observer 0) (ef : f ≡ line_fault n c row room (words l)) where
  -- the code's fault is the grammar's
  fault_is : f ≡ fault names (state_of c rows) (words l)
  unfolding fault
  fault_is = ef ∙ rw (er, eu, ew, ← sized)

  pub room_few : room ≤ n
  room_few = rw (er, ← sized) (room_within names u)

  pub turn_faulty : (f ≡ 0 → ⊥) → (◌≡◌ {A = Turn} (record { fault = f; next = c }) (turn_of names (state_of c rows) (words l))) × (rows ≡ rows_after names (state_of c rows) (words l))
  unfolding turn_of rows_after
  turn_faulty z = (rw (← fault_is, ne_eqb f 0 z), rw (← fault_is, ne_eqb f 0 z))

  pub turn_right : (more : List ℕ) (d : Looking) → f ≡ 0 → more ≡ rows_behind rows c room (words l) → d ≡ moved_to c room (words l) → (◌≡◌ {A = Turn} (record { fault = f; next = d }) (turn_of names (state_of c rows) (words l))) × (more ≡ rows_after names (state_of c rows) (words l))
  unfolding turn_of rows_after next
  turn_right more d z em ed = (rw (← fault_is, eq-eqb f 0 z, ed, er, eu), rw (← fault_is, eq-eqb f 0 z, em, er, eu))

-- ---- the lines from a place on

-- where the reader stands: what is left of the lines, and an observer that has a row
pub record Reader (names : List Word) (s rows : List ℕ) (c : Looking) (passed at : ℕ) : Type 0 where
  pub seer : c.observer < 64
  pub stands : Standing (sight_grammar names) s (grammar names s) (state_of c rows) passed at

-- before the first line
pub begun : (names : List Word) (s : List ℕ) → Reader names s no_rows start.at 0 0
unfolding grammar
begun names s = record { seer = omega arith; stands = standing (sight_grammar names) s start }

module _ (names : List Word) (s rows l : List ℕ) (c : Looking) (passed at : ℕ) (inv : Reader names s rows c passed at) (h : at < length s) (el : l ≡ line_at s at) (t : Turn) (et : t ≡ turn_of names (state_of c rows) (words l)) where
  told : t.fault ≡ fault names (state_of c rows) (words (line_at s at))
  unfolding turn_of
  told = rw (et, el)

  pub turn_stops : (t.fault ≡ 0 → ⊥) → no_sight t.fault (passed + 1) ≡ as_read (grammar names s)
  unfolding as_read no_sight
  turn_stops z = rw (stand_stop inv.stands h (λ y. z (told ∙ y)), ← told)

  module _ (z : t.fault ≡ 0) where
    none : fault names (state_of c rows) (words (line_at s at)) ≡ 0
    none = sym told ∙ z

    moved_on : t.next ≡ (next names (state_of c rows) (words (line_at s at))).at
    unfolding turn_of
    moved_on = rw (et, el, eq-eqb _ 0 none)

    still_within : length names ≤ 64 → t.next.observer < 64
    unfolding next fault
    still_within few =
        rw moved_on (observer_within (length names) c _ (room_of names (nth (words (line_at s at)) 0)) _ (room_within names _) none (words (line_at s at)) refl few inv.seer)

    pub turn_more : (more : List ℕ) (e : ℕ) → length names ≤ 64 → more ≡ rows_after names (state_of c rows) (words l) → e ≡ at + run (apart is_end) (drop at s) → Reader names s more t.next (passed + 1) (e + 1)
    unfolding rows_after
    turn_more more e few em ee =
        let marked : more ≡ (next names (state_of c rows) (words (line_at s at))).rows = em ∙ rw (el, eq-eqb _ 0 none) in
        record { seer = still_within few; stands = rw (moved_on, marked) (stand_next inv.stands ee h none) }

-- ---- the ends

module _ (names : List Word) (s rows : List ℕ) (c : Looking) (passed at : ℕ) (inv : Reader names s rows c passed at) (h : length s ≤ at) where
  ends : grammar names s ≡ finish (state_of c rows) passed
  ends = stand_end inv.stands h

  pub ends_early : (c.left ≡ 0 → ⊥) → no_sight 38 passed ≡ as_read (grammar names s)
  unfolding as_read no_sight finish
  ends_early z = rw (ends, ne_eqb c.left 0 z)

  pub ends_right : c.left ≡ 0 → ◌≡◌ {A = ToldSight} (record { number = 0; place = 0; rows = rows }) (as_read (grammar names s))
  unfolding as_read finish
  ends_right z = rw (ends, eq-eqb c.left 0 z)
