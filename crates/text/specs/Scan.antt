-- Scanning a list of bytes: the leading run, the pieces between separators, the words of a line, the lines of a text. Definitions only.
use Rattle.std.specs.Prelude.{ℕ, zero, suc, Bool, cond, not, List, [], ◌∷◌, take, drop}
use Rattle.letters.specs.Class.{is_gap, is_end}

-- how many bytes at the start pass the test, one after the other. All bytes of w pass it where `run p w ≡ length w`
unfoldable pub run : (ℕ → Bool) → List ℕ → ℕ
run p [] = zero
run p (b ∷ s) = cond (p b) (suc (run p s)) zero

-- the other bytes
abbrev pub apart : (ℕ → Bool) → ℕ → Bool
apart p b = not (p b)

-- the byte put before the first piece
unfoldable pub grow : ℕ → List (List ℕ) → List (List ℕ)
grow b [] = (b ∷ []) ∷ []
grow b (w ∷ ws) = (b ∷ w) ∷ ws

-- the pieces that the bytes that pass the test end; what stands behind the last such byte is a piece too, if it has a byte
unfoldable pub split : (ℕ → Bool) → List ℕ → List (List ℕ)
unfolding grow
split p [] = []
split p (b ∷ s) = cond (p b) ([] ∷ split p s) (grow b (split p s))

-- a piece kept if it has a byte
unfoldable pub keep : List ℕ → List (List ℕ) → List (List ℕ)
keep [] ws = ws
keep (b ∷ w) ws = (b ∷ w) ∷ ws

-- the pieces that have a byte
unfoldable pub nonempty : List (List ℕ) → List (List ℕ)
unfolding keep
nonempty [] = []
nonempty (w ∷ ws) = keep w (nonempty ws)

-- the words of a line: words are split by blanks
unfoldable pub words : List ℕ → List (List ℕ)
words l = nonempty (split is_gap l)

-- the lines of a text; bytes after the last LF are a line
unfoldable pub lines : List ℕ → List (List ℕ)
lines s = split is_end s

-- the line that starts at a place
unfoldable pub line_at : List ℕ → ℕ → List ℕ
line_at s at = take (run (apart is_end) (drop at s)) (drop at s)
