-- The line that the program writes of a floor: `accepted faces 1 walkable 1 edges 3 perimeters 1`, or `refused 2 at 0`, or, over 65,536
-- bytes, `too long`, each ended by a line feed. Definitions only.
use Rattle.std.specs.Prelude.{ℕ, ◌+◌, ◌^◌, Bool, cond, List, [], ◌∷◌, ◌++◌, ltb, eqb, length}
use Rattle.verdict.specs.Lowest.{lowest}
use Rattle.number.specs.Number.{fixed}
use Rattle.floor.specs.Reader.{reader_answer, reader_memory}
use Rattle.floor.specs.declared.Floor.{Floor}

-- n has at most k + 1 digits
unfoldable pub has_up_to : ℕ → ℕ → Bool
has_up_to n k = ltb n (10 ^ (k + 1))

-- how many digits a number of 32 bits has; its digits
unfoldable pub digit_count : ℕ → ℕ
digit_count n = 1 + lowest 9 (has_up_to n)

unfoldable pub decimal : ℕ → List ℕ
decimal n = fixed (digit_count n) n

-- the words of the line, each with the blanks around it
abbrev pub accepted_faces : List ℕ
accepted_faces = 97 ∷ 99 ∷ 99 ∷ 101 ∷ 112 ∷ 116 ∷ 101 ∷ 100 ∷ 32 ∷ 102 ∷ 97 ∷ 99 ∷ 101 ∷ 115 ∷ 32 ∷ []

abbrev pub walkable_word : List ℕ
walkable_word = 32 ∷ 119 ∷ 97 ∷ 108 ∷ 107 ∷ 97 ∷ 98 ∷ 108 ∷ 101 ∷ 32 ∷ []

abbrev pub edges_word : List ℕ
edges_word = 32 ∷ 101 ∷ 100 ∷ 103 ∷ 101 ∷ 115 ∷ 32 ∷ []

abbrev pub perimeters_word : List ℕ
perimeters_word = 32 ∷ 112 ∷ 101 ∷ 114 ∷ 105 ∷ 109 ∷ 101 ∷ 116 ∷ 101 ∷ 114 ∷ 115 ∷ 32 ∷ []

abbrev pub refused_word : List ℕ
refused_word = 114 ∷ 101 ∷ 102 ∷ 117 ∷ 115 ∷ 101 ∷ 100 ∷ 32 ∷ []

abbrev pub at_word : List ℕ
at_word = 32 ∷ 97 ∷ 116 ∷ 32 ∷ []

abbrev pub line_feed : List ℕ
line_feed = 10 ∷ []

abbrev pub too_long : List ℕ
too_long = 116 ∷ 111 ∷ 111 ∷ 32 ∷ 108 ∷ 111 ∷ 110 ∷ 103 ∷ []

-- a word and then a number
abbrev pub named : List ℕ → ℕ → List ℕ
named word n = word ++ decimal n

-- the line of an accepted floor, of a refused one
unfoldable pub accepted_line : Floor → List ℕ
accepted_line r =
    named accepted_faces r.faces ++ (named walkable_word r.walkable ++ (named edges_word r.edges ++ (named perimeters_word r.perimeters ++ line_feed)))

unfoldable pub refused_line : Floor → List ℕ
refused_line r = named refused_word r.number ++ (named at_word r.place ++ line_feed)

unfoldable pub line_of : Floor → List ℕ
line_of r = cond (eqb r.number 0) (accepted_line r) (refused_line r)

-- the line of a file, with so much work memory
unfoldable pub file_line : List ℕ → ℕ → List ℕ
file_line b room = cond (ltb 65536 (length b)) (too_long ++ line_feed) (line_of (reader_answer b room))

-- the work memory behind it: a file that is too long is not read
unfoldable pub file_memory : List ℕ → List ℕ → List ℕ
file_memory b work = cond (ltb 65536 (length b)) work (reader_memory work)
