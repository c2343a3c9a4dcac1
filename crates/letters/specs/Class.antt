-- The class of a byte: a table gives one class for each of the 256 byte values. Definitions only.
use Rattle.std.specs.Prelude.{ℕ, Bool, cond, ◌&&◌, ◌||◌, leb, eqb}

-- b is from `low` to `high`, ends included
abbrev pub within : ℕ → ℕ → ℕ → Bool
within low high b = leb low b && leb b high

-- 1 letter, 2 digit, 3 underscore, 4 minus, 5 point, 6 blank (space, tab), 7 LF, 8 CR, 0 refused
unfoldable pub class_of : ℕ → ℕ
class_of b =
    cond (within 97 122 b || within 65 90 b) 1
    (cond (within 48 57 b) 2
    (cond (eqb b 95) 3 (cond (eqb b 45) 4 (cond (eqb b 46) 5 (cond (eqb b 32 || eqb b 9) 6 (cond (eqb b 10) 7 (cond (eqb b 13) 8 0)))))))

-- the byte is refused
unfoldable pub is_refused : ℕ → Bool
is_refused b = eqb (class_of b) 0

-- the byte is a digit
unfoldable pub is_digit : ℕ → Bool
is_digit b = eqb (class_of b) 2

-- the byte is a blank
unfoldable pub is_blank : ℕ → Bool
is_blank b = eqb (class_of b) 6

-- the byte is a CR
unfoldable pub is_return : ℕ → Bool
is_return b = eqb (class_of b) 8

-- the byte stands in no word: a blank, or the CR of a line's end
unfoldable pub is_gap : ℕ → Bool
unfolding is_blank is_return
is_gap b = is_blank b || is_return b

-- the byte ends a line
unfoldable pub is_end : ℕ → Bool
is_end b = eqb (class_of b) 7

-- the byte may stand in a name: a letter, a digit, an underscore
unfoldable pub name_byte : ℕ → Bool
name_byte b = within 1 3 (class_of b)

-- the byte may stand in a word: one of a name, a minus, a point
unfoldable pub word_byte : ℕ → Bool
word_byte b = within 1 5 (class_of b)
