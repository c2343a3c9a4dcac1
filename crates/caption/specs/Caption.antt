-- The caption of a room: a part of the visitor's layout text, otherwise of the house text. Definitions only.
use Rattle.std.specs.Prelude.{ℕ, ◌+◌, Bool, cond, ◌&&◌, ◌||◌, List, [], ◌∷◌, length, get_or, ltb, eqb}
use Rattle.letters.specs.Class.{is_gap}
use Rattle.text.specs.Scan.{run, words, lines}
use Rattle.names.specs.Name.{same}
use Rattle.text.specs.Reading.{Word, nth}
use Rattle.caption.specs.declared.CaptionAt.{CaptionAt}
use Rattle.rooms.specs.Rooms.{room_names}

-- the layout reads and has room i; a refused one has no rooms
unfoldable pub has_room : List ℕ → ℕ → Bool
has_room s i = ltb i (length (room_names s))

-- room i's name as typed
unfoldable pub room_name : List ℕ → ℕ → Word
room_name s i = get_or (room_names s) i []

-- the name in the visitor's text, otherwise in the house text, else nothing
unfoldable pub caption_of : List ℕ → List ℕ → ℕ → List ℕ
caption_of visitor house i = cond (has_room visitor i) (room_name visitor i) (cond (has_room house i) (room_name house i) [])

-- 41 where neither has room i
unfoldable pub caption_number : List ℕ → List ℕ → ℕ → ℕ
caption_number visitor house i = cond (has_room visitor i || has_room house i) 0 41

-- ---- where it stands, for a caller that takes no slice

-- the line is an entry of this name
unfoldable pub enters_as : Word → List ℕ → Bool
enters_as w l = eqb (length (words l)) 4 && same (nth (words l) 0) w

-- the place of the name in the first of some lines that is an entry of this name; the lines start at `at`, and LF ends each. In a layout
-- that reads, the first entry of a room's name is the room itself: rooms stand before the others, and no two have one name
unfoldable pub name_place : Word → ℕ → List (List ℕ) → ℕ
name_place w at [] = at
name_place w at (l ∷ ls) = cond (enters_as w l) (at + run is_gap l) (name_place w (at + length l + 1) ls)

-- the place of room i's name in a text
unfoldable pub room_place : List ℕ → ℕ → ℕ
room_place s i = name_place (room_name s i) 0 (lines s)

-- a caption that was found
unfoldable pub found_at : ℕ → ℕ → ℕ → CaptionAt
found_at house start long = record { number = 0; house = house; start = start; length = long }

-- the number, whether the caption is a part of the house text, its place there and its length; with 41 the empty start of the house text
unfoldable pub caption_at : List ℕ → List ℕ → ℕ → CaptionAt
caption_at visitor house i = record {
  number = caption_number visitor house i;
  house = cond (has_room visitor i) 0 1;
  start = cond (has_room visitor i) (room_place visitor i) (cond (has_room house i) (room_place house i) 0);
  length = length (caption_of visitor house i);
}
