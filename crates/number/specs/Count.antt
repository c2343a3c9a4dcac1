-- Counts (rule 36), and what digits say. Definitions only.
use Rattle.std.specs.Prelude.{ℕ, ◌+◌, ◌-◌, ◌*◌, Bool, ◌&&◌, List, [], ◌∷◌, leb, eqb, length}
use Rattle.letters.specs.Class.{within, is_digit}
use Rattle.text.specs.Scan.{run}

-- the digits read one after the other, after a number already read
unfoldable pub value : ℕ → List ℕ → ℕ
value n [] = n
value n (d ∷ ds) = value (n * 10 + (d - 48)) ds

-- 36: one or two digits, not over 64
unfoldable pub is_count : List ℕ → Bool
is_count w = within 1 2 (length w) && (eqb (run is_digit w) (length w) && leb (value 0 w) 64)
