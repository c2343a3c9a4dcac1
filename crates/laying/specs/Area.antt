-- The kind of area floors: the words that an edit may write over, where they lie, and what may be written. Definitions only.
use Rattle.std.specs.Prelude.{ℕ, ◌+◌, ◌*◌, Bool, false, cond, List, eqb}
use Rattle.std.specs.Float.{binary32}
use Rattle.std.specs.Float.Ieee.{of_bits}
use Rattle.grid.specs.Grid.{on_grid}
use Rattle.tables.specs.Header.{header_verdict}
use Rattle.tables.specs.Parts.{parts_of, word_place}
use Rattle.laying.specs.Allowed.{permitted, linkable}
use Rattle.laying.specs.Kind.{Kind}

-- of an area floor and a tag: the faces, the edge entries, the twelve floats of the use positions
unfoldable pub area_count : List ℕ → ℕ → ℕ
area_count fl tag = cond (eqb tag 1) (parts_of fl).faces (cond (eqb tag 2) (parts_of fl).edges (cond (eqb tag 3) 12 0))

-- where the four bytes lie: a face's material, an edge entry's transition, a float of the header
unfoldable pub area_field : List ℕ → ℕ → ℕ → ℕ
area_field fl tag place = cond (eqb tag 1) (word_place fl 2 place) (cond (eqb tag 2) (word_place fl 7 (2 * place + 1)) (12 + 4 * place))

-- 22, 23 or the grid
unfoldable pub area_allowed : ℕ → ℕ → ℕ → Bool
area_allowed tag old new =
    cond (eqb tag 1) (permitted old new) (cond (eqb tag 2) (linkable new) (cond (eqb tag 3) (on_grid (of_bits binary32 new)) false))

abbrev pub area_floor : Kind
area_floor = record { rules = header_verdict; count = area_count; field = area_field; allowed = area_allowed }
