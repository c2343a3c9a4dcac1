-- Names (rule 34), and when two are the same. Definitions only.
use Rattle.std.specs.Prelude.{ℕ, Bool, true, false, ◌&&◌, List, [], ◌∷◌, eqb, length}
use Rattle.letters.specs.Class.{within, name_byte}
use Rattle.letters.specs.Case.{lowered}
use Rattle.text.specs.Scan.{run}

-- two lists of bytes are the same
unfoldable pub same : List ℕ → List ℕ → Bool
same [] [] = true
same [] (b ∷ t) = false
same (a ∷ s) [] = false
same (a ∷ s) (b ∷ t) = eqb a b && same s t

-- 34: 1 to 16 letters, digits, underscores
unfoldable pub is_name : List ℕ → Bool
is_name w = within 1 16 (length w) && eqb (run name_byte w) (length w)

-- letter case is ignored
unfoldable pub same_name : List ℕ → List ℕ → Bool
same_name a b = same (lowered a) (lowered b)
