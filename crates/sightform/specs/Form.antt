-- The fixed form of visibility: each room in order with its count, seen rooms in order behind two spaces. Definitions only.
use Rattle.std.specs.Prelude.{ℕ, zero, suc, cond, List, [], ◌∷◌, ◌++◌, map, length, get_or}
use Rattle.std.specs.Int.Count.{ones}
use Rattle.text.specs.Written.{spaced, ended}
use Rattle.text.specs.Reading.{Word}
use Rattle.number.specs.Number.{plain}
use Rattle.sight.specs.Rows.{sees}

-- the names of the seen rooms among the first j, in order
unfoldable pub seen_to : List Word → ℕ → ℕ → List Word
seen_to names row zero = []
seen_to names row (suc j) = seen_to names row j ++ cond (sees row j) (get_or names j [] ∷ []) []

-- a seen room, behind two spaces
unfoldable pub seen_line : Word → List ℕ
seen_line w = 32 ∷ 32 ∷ w

-- a room with its count, and the rooms that it sees
unfoldable pub room_lines : List Word → ℕ → ℕ → List (List ℕ)
room_lines names room row = spaced (get_or names room [] ∷ plain (ones row) ∷ []) ∷ map seen_line (seen_to names row (length names))

-- the lines of the first k rooms
unfoldable pub lines_to : List Word → List ℕ → ℕ → List (List ℕ)
lines_to names rows zero = []
lines_to names rows (suc k) = lines_to names rows k ++ room_lines names k (get_or rows k 0)

-- the bytes of the form
unfoldable pub sight_text : List Word → List ℕ → List ℕ
sight_text names rows = ended (lines_to names rows (length names))
