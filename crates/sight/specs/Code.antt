-- What the code keeps and hands on: a line and a reading as answers, and the names of the rooms whose starts are kept. Definitions only.
use Rattle.std.specs.Prelude.{ℕ, cond, List, eqb, Result, Ok, Err}
use Rattle.verdict.specs.Refusals.{number_of}
use Rattle.verdict.specs.declared.Refusal.{Refusal}
use Rattle.verdict.specs.declared.Refused.{Refused}
use Rattle.text.specs.Reading.{Word, Line}
use Rattle.layout.specs.Grammar.{names_of}
use Rattle.layout.specs.Starts.{held}
use Rattle.sight.specs.declared.Looking.{Looking}
use Rattle.sight.specs.Sight.{ToldSight}
use Rattle.sight.specs.Rows.{no_rows}
use Rattle.sight.specs.Grammar.{State, Reading, fault, next}

-- the state that the code stands for
abbrev pub state_of : Looking → List ℕ → State
state_of c rows = record { at = c; rows = rows }

-- one line as it was read: what is wrong with it, 0 for nothing, and where the reader is behind it; and what the code tells of one that it
-- reads from a state
pub record Turn : Type 0 where
  pub fault : ℕ
  pub next : Looking

abbrev pub told_turn : Looking → Result Looking Refusal → Turn
told_turn c (Ok d) = record { fault = 0; next = d }
told_turn c (Err r) = record { fault = number_of r; next = c }

-- a line as it is answered: its fault, and where the reader is behind it, which a faulty line leaves
unfoldable pub turn_of : List Word → State → Line → Turn
turn_of names st l = record { fault = fault names st l; next = cond (eqb (fault names st l) 0) (next names st l).at st.at }

-- and the rows behind it
unfoldable pub rows_after : List Word → State → Line → List ℕ
rows_after names st l = cond (eqb (fault names st l) 0) (next names st l).rows st.rows

-- a reading as it is answered
unfoldable pub as_read : Reading → ToldSight
as_read r = record { number = r.verdict.number; place = r.verdict.place; rows = r.rows }

-- a refused reading
unfoldable pub no_sight : ℕ → ℕ → ToldSight
no_sight number place = record { number = number; place = place; rows = no_rows }

-- what the code tells: rows that it read, or a refusal
abbrev pub told_sight : Result (List ℕ) Refused → ToldSight
told_sight (Ok rows) = record { number = 0; place = 0; rows = rows }
told_sight (Err r) = no_sight (number_of r.refusal) r.place

-- the names of the first n rooms whose starts are kept
abbrev pub kept_names : List ℕ → List ℕ → ℕ → List Word
kept_names layout starts n = names_of (held layout starts n)
