-- The rooms of a layout: their names, how many there are, and whether one may have a typed name. Definitions only.
use Rattle.std.specs.Prelude.{ℕ, not, List, length, ltb, Result, Ok, Err}
use Rattle.verdict.specs.declared.Answer.{Answer}
use Rattle.verdict.specs.Verdict.{rule, ◌then◌}
use Rattle.verdict.specs.Refusals.{number_of}
use Rattle.verdict.specs.declared.Refused.{Refused}
use Rattle.names.specs.Name.{is_name}
use Rattle.text.specs.Reading.{Word}
use Rattle.layout.specs.Grammar.{names_of, known_but}
use Rattle.layout.specs.Layout.{layout_verdict, layout_of}

-- the names of a layout's rooms as they were typed
unfoldable pub room_names : List ℕ → List Word
room_names s = names_of (layout_of s).rooms

-- a verdict, and a number of rooms; and what the code tells of them
pub record Rooms : Type 0 where
  pub number : ℕ
  pub place : ℕ
  pub rooms : ℕ

abbrev pub told_rooms : Result ℕ Refused → Rooms
told_rooms (Ok n) = record { number = 0; place = 0; rooms = n }
told_rooms (Err r) = record { number = number_of r.refusal; place = r.place; rooms = 0 }

-- the verdict, and the number of rooms, 0 on refusal
unfoldable pub rooms_of : List ℕ → Rooms
rooms_of s = record { number = (layout_verdict s).number; place = (layout_verdict s).place; rooms = length (room_names s) }

-- with a name 21 (place the number), 34, 37 if another room has it (both place 0)
unfoldable pub name_verdict : List ℕ → ℕ → Word → Answer
name_verdict s i w =
    rule 21 (not (ltb i (length (room_names s)))) i then rule 34 (not (is_name w)) 0 then rule 37 (known_but i w (room_names s)) 0
