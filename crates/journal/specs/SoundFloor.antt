-- A floor that the reader accepts, held as bytes: what the editor is handed, and what every edit leaves. In the paper's words, and by
-- the reader's own verdict; proofs/AcceptedFloors.antt goes from each to the other. Definitions only.
use Rattle.std.specs.Prelude.{ℕ, ◌≤◌, ◌≡◌, List}
use Rattle.verdict.specs.Verdict.{accepted}
use Rattle.verdict.specs.Memory.{work_size}
use Rattle.wire.specs.Bytes.{Bytes}
use Rattle.floor.specs.Sound.{Sound}
use Rattle.floor.specs.Reader.{reader_verdict}

pub record SoundFloor (fl : List ℕ) : Type 0 where
  pub bytes : Bytes fl
  -- 1 to 19 in the paper's words
  pub sound : Sound fl

pub record AcceptedFloor (fl : List ℕ) : Type 0 where
  pub bytes : Bytes fl
  -- the reader accepts it, whatever work memory of 65,536 bytes or more it is lent
  pub read : (work : ℕ) → work_size ≤ work → reader_verdict fl work ≡ accepted
