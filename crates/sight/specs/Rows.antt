-- A room's row: 64 marks, the binary digits of a number. Mark j says whether room j is seen. Definitions only.
use Rattle.std.specs.Prelude.{ℕ, ◌+◌, ◌/◌, ◌%◌, ◌^◌, Bool, List, eqb, replicate}

-- mark j is set
unfoldable pub sees : ℕ → ℕ → Bool
sees row j = eqb (row / 2 ^ j % 2) 1

-- mark j set in a row where it is not
unfoldable pub with_mark : ℕ → ℕ → ℕ
with_mark row j = row + 2 ^ j

-- the rows of 64 rooms that see nothing
abbrev pub no_rows : List ℕ
no_rows = replicate 64 0
