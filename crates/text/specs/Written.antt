-- A text as it is written: lines of words, a space between two words, and LF behind each line; and rule 40. Definitions only.
use Rattle.std.specs.Prelude.{List, [], ◌∷◌, ◌++◌, map, ◌||◌, ℕ, length, ltb}
use Rattle.verdict.specs.declared.Answer.{Answer}
use Rattle.verdict.specs.Verdict.{rule}
use Rattle.text.specs.Scan.{words, lines}

-- words behind a space each
unfoldable pub after : List (List ℕ) → List ℕ
after [] = []
after (w ∷ ws) = 32 ∷ (w ++ after ws)

-- words with a space between two
unfoldable pub spaced : List (List ℕ) → List ℕ
unfolding after
spaced [] = []
spaced (w ∷ ws) = w ++ after ws

-- lines, LF behind each
unfoldable pub ended : List (List ℕ) → List ℕ
ended [] = []
ended (l ∷ ls) = l ++ 10 ∷ ended ls

-- lines of words
abbrev pub written : List (List (List ℕ)) → List ℕ
written ls = ended (map spaced ls)

-- a text as its lines of words
unfoldable pub word_lines : List ℕ → List (List (List ℕ))
word_lines s = map words (lines s)

-- 40: output shorter than the form, or a text's form over 65,536 bytes
unfoldable pub rule40 : List ℕ → ℕ → Answer
rule40 text room = rule 40 (ltb room (length text) || ltb 65536 (length text)) 0
