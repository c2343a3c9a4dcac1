-- All that acceptance by the reader gives its callers, by name: what the rewriter, the query, the editor and the link check go by.
use Rattle.std.specs.Prelude.{ℕ, List}
use Rattle.tables.specs.Header.{RightHeader}
use Rattle.tables.specs.Parts.{parts_of}
use Rattle.tables.specs.Fixed.{Sized}
use Rattle.mesh.specs.Mesh.{Meshed}
use Rattle.nodes.specs.Plain.{SoundNodes, Closed}
use Rattle.tree.specs.Plain.{FloorTree, BoxesHold}
use Rattle.border.specs.Plain.{SoundBorders}

pub record Accepted (b : List ℕ) : Type 0 where
  pub header : RightHeader b
  pub sized : Sized (parts_of b)
  pub mesh : Meshed (parts_of b)
  pub nodes : SoundNodes (parts_of b)
  pub closed : Closed (parts_of b)
  pub tree : FloorTree (parts_of b)
  pub boxes : BoxesHold (parts_of b)
  pub borders : SoundBorders (parts_of b)
