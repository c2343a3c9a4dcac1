-- Half-edges of walkable faces and their partners: rules 15 and 16, over the floor's parts. By rule 10 the walkable faces are those
-- under A, the adjacency count, so their half-edges are the numbers under 3 · A. Definitions only.
use Rattle.std.specs.Prelude.{ℕ, ◌+◌, ◌*◌, ◌/◌, ◌%◌, ◌≡◌, Bool, not, cond, ◌&&◌, eqb, ltb}
use Rattle.verdict.specs.Lowest.{lowest, any_under}
use Rattle.verdict.specs.Verdict.{rule_of_each, ◌then◌}
use Rattle.verdict.specs.declared.Answer.{Answer}
use Rattle.tables.specs.Parts.{none32, Parts, corner, adjacent_to}

-- the number of half-edges of walkable faces
abbrev pub halves : Parts → ℕ
halves p = 3 * p.adjacency

-- half-edge h = 3 · face + e runs from corner e ..
unfoldable pub from : Parts → ℕ → ℕ
from p h = corner p (h / 3) (h % 3)

-- .. to corner e + 1 (from 2 to 0)
unfoldable pub to : Parts → ℕ → ℕ
to p h = corner p (h / 3) ((h % 3 + 1) % 3)

-- half-edge h runs from vertex a to vertex b
unfoldable pub runs : Parts → ℕ → ℕ → ℕ → Bool
runs p a b h = eqb (from p h) a && eqb (to p h) b

-- half-edge h runs exactly as a lower one
unfoldable pub repeats : Parts → ℕ → Bool
repeats p h = any_under h (runs p (from p h) (to p h))

-- the lowest half-edge that runs the opposite way, or the number of half-edges where there is none
unfoldable pub partner : Parts → ℕ → ℕ
partner p h = lowest (halves p) (runs p (to p h) (from p h))

-- a half-edge of a walkable face without partner is a border
unfoldable pub border : Parts → ℕ → Bool
border p h = ltb h (halves p) && not (ltb (partner p h) (halves p))

-- adjacency entry h is the partner's number, else -1
unfoldable pub pairing : Parts → ℕ → ℕ
pairing p h = cond (ltb (partner p h) (halves p)) (partner p h) none32

-- adjacency entry h is wrong
unfoldable pub wrong_adjacent : Parts → ℕ → Bool
wrong_adjacent p h = not (eqb (adjacent_to p h) (pairing p h))

-- 15: a walkable half-edge runs exactly as a lower one; place the lowest h
unfoldable pub rule15 : Parts → Answer
rule15 p = rule_of_each 15 (halves p) (repeats p) (λ h. h)

-- 16: adjacency entry wrong; place the lowest h
unfoldable pub rule16 : Parts → Answer
rule16 p = rule_of_each 16 (halves p) (wrong_adjacent p) (λ h. h)

-- rules 15 and 16
unfoldable pub rules15to16 : Parts → Answer
rules15to16 p = rule15 p then rule16 p

-- they are unbroken: what rules 17 to 19 may go by
abbrev pub RightPairs : Parts → Type 0
RightPairs p = (rules15to16 p).number ≡ 0
