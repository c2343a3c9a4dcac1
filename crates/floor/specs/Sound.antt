-- What it is for a file to be a floor that the reader accepts, in the paper's words: plain statements, no search and no test of ours.
-- proofs/Meaning.antt shows that the reader accepts exactly these. Definitions only.
use Rattle.std.specs.Prelude.{ℕ, List}
use Rattle.tables.specs.Plain.{SoundHeader}
use Rattle.tables.specs.Parts.{parts_of}
use Rattle.mesh.specs.Mesh.{Meshed}
use Rattle.nodes.specs.Plain.{SoundNodes}
use Rattle.tree.specs.Plain.{FloorTree, BoxesHold}
use Rattle.border.specs.Plain.{SoundBorders}

pub record Sound (b : List ℕ) : Type 0 where
  -- 1 to 6: length, first bytes, counts; every table inside the file, no two share a byte
  pub header : SoundHeader b
  -- 7 to 10: every float finite; corners name three vertices; materials known, the walkable faces those under A
  pub mesh : Meshed (parts_of b)
  -- 11 and 12: 2F-1 nodes, the root one of them where there are any, each a leaf or inner
  pub nodes : SoundNodes (parts_of b)
  -- 13: exactly one path of at most 64 steps from the root to each node, each face in exactly one leaf
  pub tree : FloorTree (parts_of b)
  -- 14: boxes hold their corners or their children's boxes
  pub boxes : BoxesHold (parts_of b)
  -- 15 to 19: partners paired, borders and edge entries one to one, transitions, perimeter runs closed chains that cover all entries
  pub borders : SoundBorders (parts_of b)
