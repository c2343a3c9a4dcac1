-- Rewriting visibility, with a room number and a typed name or with neither: the verdicts and what is written. Definitions only.
use Rattle.std.specs.Prelude.{ℕ, List, map, set}
use Rattle.verdict.specs.declared.Answer.{Answer}
use Rattle.verdict.specs.Verdict.{◌then◌}
use Rattle.letters.specs.Case.{lowered}
use Rattle.text.specs.Reading.{Word}
use Rattle.rooms.specs.Rooms.{room_names, name_verdict}
use Rattle.text.specs.Written.{rule40}
use Rattle.sight.specs.Sight.{sight_verdict, rows_of}
use Rattle.sightform.specs.Form.{sight_text}

-- the names of a layout's rooms in lower case
unfoldable pub shown_names : List ℕ → List Word
shown_names layout = map lowered (room_names layout)

-- the same with the typed name, in lower case, for room i
unfoldable pub renamed_names : List ℕ → ℕ → Word → List Word
renamed_names layout i w = set (shown_names layout) i (lowered w)

-- the fixed form, with the layout's names and with the typed one
unfoldable pub rewritten_sight : List ℕ → List ℕ → List ℕ
rewritten_sight layout s = sight_text (shown_names layout) (rows_of layout s)

unfoldable pub renamed_sight : List ℕ → List ℕ → ℕ → Word → List ℕ
renamed_sight layout s i w = sight_text (renamed_names layout i w) (rows_of layout s)

-- the layout's refusals, the text's, then 40
unfoldable pub sight_rewrite_verdict : List ℕ → List ℕ → ℕ → Answer
sight_rewrite_verdict layout s room = sight_verdict layout s then rule40 (rewritten_sight layout s) room

-- the layout's refusals, the text's, those of the name, then 40
unfoldable pub sight_rename_verdict : List ℕ → List ℕ → ℕ → Word → ℕ → Answer
sight_rename_verdict layout s i w room = sight_verdict layout s then name_verdict layout i w then rule40 (renamed_sight layout s i w) room
