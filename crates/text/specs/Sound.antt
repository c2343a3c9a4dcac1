-- Rules 31 and 32: the length of a layout text, and its bytes. Definitions only.
use Rattle.std.specs.Prelude.{ℕ, ◌+◌, Bool, cond, not, ◌&&◌, ◌||◌, List, [], ◌∷◌, ltb, length, get_or}
use Rattle.verdict.specs.declared.Answer.{Answer}
use Rattle.verdict.specs.Verdict.{rule, rule_of_each, ◌then◌}
use Rattle.letters.specs.Class.{is_refused, is_end, is_return}

-- a refused byte or a CR not before LF
unfoldable pub bad_at : List ℕ → ℕ → Bool
bad_at s i = is_refused (get_or s i 0) || (is_return (get_or s i 0) && not (is_end (get_or s (i + 1) 0)))

-- at most 65,536 bytes
unfoldable pub rule31 : List ℕ → Answer
rule31 s = rule 31 (ltb 65536 (length s)) 0

-- 32: a refused byte or a CR not before LF; place the first
unfoldable pub rule32 : List ℕ → Answer
rule32 s = rule_of_each 32 (length s) (bad_at s) (λ i. i)

-- the two, in order
unfoldable pub rules31to32 : List ℕ → Answer
rules31to32 s = rule31 s then rule32 s

-- a line without the CR that ends it: the bytes before one
unfoldable pub bare : List ℕ → List ℕ
bare [] = []
bare (b ∷ l) = cond (is_return b) [] (b ∷ bare l)
