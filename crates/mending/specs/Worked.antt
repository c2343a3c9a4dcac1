-- What is known of a file and of the work memory once a floor's rings are followed and its old edge entries are noted: all that is needed to
-- write the mended floor and the list of changes. Definitions only.
use Rattle.std.specs.Prelude.{ℕ, ◌≤◌, ◌≡◌, List, length}
use Rattle.verdict.specs.Memory.{work_size}
use Rattle.tables.specs.Header.{RightHeader}
use Rattle.tables.specs.Parts.{parts_of}
use Rattle.mesh.specs.Mesh.{Cornered}
use Rattle.pairs.specs.Plain.{Apart}
use Rattle.corners.specs.Corners.{recornered}
use Rattle.corners.specs.Memory.{top, Mapped}
use Rattle.rings.specs.Rings.{edge_list, end_list}
use Rattle.follow.specs.Memory.{edges_in, ends_in}
use Rattle.follow.specs.Ready.{web_in}
use Rattle.kept.specs.Notes.{AllNoted}

-- e edges are in the memory w, in rings whose ends are marked; the map of vertices and the notes are there
pub record Worked (b w : List ℕ) (e : ℕ) : Type 0 where
  pub right : RightHeader b
  pub cornered : Cornered (parts_of b)
  pub mended : Cornered (recornered (parts_of b))
  pub apart : Apart (recornered (parts_of b))
  pub long : work_size ≤ length w
  pub mapped : Mapped (parts_of b) (top w)
  pub noted : AllNoted (parts_of b) w
  pub edges : edges_in w e ≡ edge_list (web_in b)
  pub ends : ends_in w e ≡ end_list (web_in b)
  pub few : e ≤ 12288
