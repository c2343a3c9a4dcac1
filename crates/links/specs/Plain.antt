-- What the link check lets through, in plain words: a sound floor, a layout that is accepted, and no transition past its rooms.
-- proofs/Meaning.antt shows both ways.
use Rattle.std.specs.Prelude.{ℕ, ◌<◌, ◌≤◌, ◌≡◌, ◌⊎◌, List, length}
use Rattle.verdict.specs.Memory.{work_size}
use Rattle.tables.specs.Parts.{none32, parts_of, transition}
use Rattle.floor.specs.Sound.{Sound}
use Rattle.layout.specs.Layout.{layout_verdict}
use Rattle.rooms.specs.Rooms.{room_names}

-- a sound floor, a layout that reads, and every transition -1 or the number of one of its rooms
pub record Joined (b : List ℕ) (room : ℕ) (text : List ℕ) : Type 0 where
  pub memory : work_size ≤ room
  pub floor : Sound b
  pub layout : (layout_verdict text).number ≡ 0
  pub rooms : (i : ℕ) → i < (parts_of b).edges → (transition (parts_of b) i ≡ none32) ⊎ (transition (parts_of b) i < length (room_names text))
