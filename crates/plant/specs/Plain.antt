-- Which floors get a tree (M-113), as a plain statement: no search and no test of ours. Definitions only.
use Rattle.std.specs.Prelude.{ℕ, ◌≡◌, List}
use Rattle.tables.specs.Plain.{SoundHeader}
use Rattle.tables.specs.Parts.{parts_of}
use Rattle.mesh.specs.Mesh.{Meshed}
use Rattle.border.specs.Plain.{SoundBorders}

-- a floor with zero nodes and everything else right; the root field is any number
pub record Bare (b : List ℕ) : Type 0 where
  pub header : SoundHeader b  -- 1 to 6
  pub mesh : Meshed (parts_of b)  -- 7 to 10
  pub bare : (parts_of b).nodes ≡ 0  -- 49
  pub borders : SoundBorders (parts_of b)  -- 15 to 19
