-- What is asked for before the rings of a floor with changed corners are followed. Definitions only.
use Rattle.std.specs.Prelude.{ℕ, ◌≤◌, List, length}
use Rattle.verdict.specs.Memory.{work_size}
use Rattle.tables.specs.Header.{RightHeader}
use Rattle.tables.specs.Parts.{parts_of}
use Rattle.mesh.specs.Mesh.{Cornered}
use Rattle.pairs.specs.Plain.{Apart}
use Rattle.corners.specs.Corners.{recornered}
use Rattle.corners.specs.Memory.{top, Mapped, Mated}
use Rattle.rings.specs.Rings.{Web}
use Rattle.rings.specs.Afresh.{web_of}

-- the half-edges of a file's floor, with the changed corners
abbrev pub web_in : List ℕ → Web
web_in b = web_of (recornered (parts_of b))

-- rules 1 to 6 of the file, 8 and 15 of the floor with the changed corners, and what the memory m knows of it
pub record Ready (b m : List ℕ) : Type 0 where
  pub right : RightHeader b
  pub cornered : Cornered (parts_of b)
  pub mended : Cornered (recornered (parts_of b))
  pub apart : Apart (recornered (parts_of b))
  pub long : work_size ≤ length m
  pub mapped : Mapped (parts_of b) (top m)
  pub mated : Mated (recornered (parts_of b)) m
