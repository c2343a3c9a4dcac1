-- What the functions on bits answer. Definitions only.
use Rattle.std.specs.Prelude.{ℕ, cond, ℤ, Option, None, Some}
use Rattle.std.specs.Float.{binary32}
use Rattle.std.specs.Float.Ieee.{of_bits}
use Rattle.grid.specs.Grid.{on_grid, size64, scaled, may_nudge, nudge_bits}

-- the size in sixty-fourths of the float with the bits b, none off the grid
unfoldable pub size_at : ℕ → Option ℕ
size_at b = cond (on_grid (of_bits binary32 b)) (Some (size64 (of_bits binary32 b))) None

-- the same with the sign
unfoldable pub scaled_at : ℕ → Option ℤ
scaled_at b = cond (on_grid (of_bits binary32 b)) (Some (scaled (of_bits binary32 b))) None

-- the bits after a nudge, none where it may not be made
unfoldable pub nudged_at : ℕ → ℤ → Option ℕ
nudged_at b n = cond (may_nudge b n) (Some (nudge_bits b n)) None
