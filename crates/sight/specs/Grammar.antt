-- The grammar of visibility (VIS), over a text that is cut into lines of words: name and count, then that many lines of one name. Names are
-- a layout's rooms; an observer, or a name in one list, stands once. A blank line is a line of no words. Definitions only.
use Rattle.std.specs.Prelude.{ℕ, ◌-◌, cond, not, List, [], ◌∷◌, length, get_or, set, ltb, eqb}
use Rattle.verdict.specs.declared.Answer.{Answer}
use Rattle.verdict.specs.Verdict.{refused, accepted}
use Rattle.verdict.specs.Lowest.{lowest}
use Rattle.names.specs.Name.{is_name, same_name}
use Rattle.number.specs.Count.{value, is_count}
use Rattle.text.specs.Reading.{Word, Line, nth, Grammar}
use Rattle.sight.specs.declared.Looking.{Looking}
use Rattle.sight.specs.Rows.{sees, with_mark, no_rows}

-- the room of this name, letter case ignored; the number of rooms where none has it
unfoldable pub room_of : List Word → Word → ℕ
room_of names w = lowest (length names) (λ j. same_name w (get_or names j []))

-- ---- a line: the first of its faults, 0 for none

-- 37 the room stands already, 39 unknown room. n is the number of rooms
unfoldable pub room_fault : ℕ → ℕ → ℕ → ℕ
room_fault n row room = cond (sees row room) 37 (cond (eqb room n) 39 0)

-- a line of a list: 33 word count, 34 name, then its room, which may not stand in the list's row already
unfoldable pub seen_fault : ℕ → ℕ → ℕ → Line → ℕ
seen_fault n row room l = cond (not (eqb (length l) 1)) 33 (cond (not (is_name (nth l 0))) 34 (room_fault n row room))

-- an observer's line: 33 word count, 34 name, 36 count, then its room, which may not be marked as an observer already
unfoldable pub observer_fault : ℕ → ℕ → ℕ → Line → ℕ
observer_fault n told room l =
    cond (not (eqb (length l) 2)) 33 (cond (not (is_name (nth l 0))) 34 (cond (not (is_count (nth l 1))) 36 (room_fault n told room)))

-- a line of a list while some are to come, else an observer's; a blank line is no fault. `row` is the observer's, `room` that of the
-- line's first word
unfoldable pub line_fault : ℕ → Looking → ℕ → ℕ → Line → ℕ
line_fault n c row room [] = 0
line_fault n c row room (w ∷ ws) = cond (ltb 0 c.left) (seen_fault n row room (w ∷ ws)) (observer_fault n c.told room (w ∷ ws))

-- ---- behind a line that has no fault; a blank line changes nothing

-- where the reader is: one line of the list less to come, or a new observer
unfoldable pub moved_to : Looking → ℕ → Line → Looking
moved_to c room [] = c
moved_to c room (w ∷ ws) =
    cond (ltb 0 c.left) (record { observer = c.observer; left = c.left - 1; told = c.told })
    (record { observer = room; left = value 0 (nth (w ∷ ws) 1); told = with_mark c.told room })

-- the rows: one mark more in the observer's
unfoldable pub rows_behind : List ℕ → Looking → ℕ → Line → List ℕ
rows_behind rows c room [] = rows
rows_behind rows c room (w ∷ ws) = cond (ltb 0 c.left) (set rows c.observer (with_mark (get_or rows c.observer 0) room)) rows

-- ---- all lines

-- where the reader is, and the rows so far
pub record State : Type 0 where
  pub at : Looking
  pub rows : List ℕ

abbrev pub start : State
start = record { at = record { observer = 0; left = 0; told = 0 }; rows = no_rows }

-- what a text is read as: the verdict, and the rows, all 0 on refusal
pub record Reading : Type 0 where
  pub verdict : Answer
  pub rows : List ℕ

abbrev pub stopped : ℕ → ℕ → Reading
stopped number line = record { verdict = refused number line; rows = no_rows }

-- no line is left, and none was faulty. 38: the text ends early; place the number of lines
unfoldable pub finish : State → ℕ → Reading
finish st n = cond (eqb st.at.left 0) (record { verdict = accepted; rows = st.rows }) (stopped 38 n)

-- what is wrong with a line, and the state behind one, by the names of the rooms
unfoldable pub fault : List Word → State → Line → ℕ
fault names st l = line_fault (length names) st.at (get_or st.rows st.at.observer 0) (room_of names (nth l 0)) l

unfoldable pub next : List Word → State → Line → State
next names st l = record { at = moved_to st.at (room_of names (nth l 0)) l; rows = rows_behind st.rows st.at (room_of names (nth l 0)) l }

abbrev pub sight_grammar : List Word → Grammar State Reading
sight_grammar names = record { fault = fault names; next = next names; finish = finish; stopped = stopped }
