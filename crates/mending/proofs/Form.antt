-- The tables of the mended floor that are written afresh. Assumes nothing.
use mathlib.Core.Path.{◌≡◌, refl}
use Rattle.tables.specs.Parts.{Parts, table_of}
use Rattle.corners.specs.Corners.{relinked, mended_corners, recornered}
use Rattle.rings.specs.Rings.{edge_list, end_list}
use Rattle.rings.specs.Afresh.{web_of}
use Rattle.seams.specs.Mended.{adjacency_of, entries_for, mended}

module _ (p : Parts) where
  pub corners_table : table_of (mended p) 1 ≡ mended_corners p
  unfolding mended relinked
  corners_table = refl

  pub adjacency_table : table_of (mended p) 6 ≡ adjacency_of (recornered p)
  unfolding mended relinked
  adjacency_table = refl

  pub entries_table : table_of (mended p) 7 ≡ entries_for p (edge_list (web_of (recornered p)))
  unfolding mended relinked
  entries_table = refl

  pub ends_table : table_of (mended p) 8 ≡ end_list (web_of (recornered p))
  unfolding mended relinked
  ends_table = refl
