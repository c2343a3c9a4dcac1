-- Letter case: a byte and a name in lower case. Definitions only.
use Rattle.std.specs.Prelude.{ℕ, ◌+◌, cond, List, map}
use Rattle.letters.specs.Class.{within}

-- a capital letter as a small one
unfoldable pub lower : ℕ → ℕ
lower b = cond (within 65 90 b) (b + 32) b

-- a name in lower case
unfoldable pub lowered : List ℕ → List ℕ
lowered w = map lower w
