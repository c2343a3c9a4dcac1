-- A worked example, computed. Assumes nothing.
use mathlib.Core.Path.{◌≡◌, refl}
use mathlib.Core.List.{[], ◌∷◌}
use Rattle.letters.specs.Class.{class_of, is_blank, is_return, is_gap, is_end}
use Rattle.text.specs.Scan.{grow, split, keep, nonempty, words, lines}
use Rattle.text.specs.Written.{word_lines}

-- `a  b`, CR LF, a blank line, `c` with no LF: three lines
three_lines : word_lines (97 ∷ 32 ∷ 9 ∷ 98 ∷ 13 ∷ 10 ∷ 32 ∷ 10 ∷ 99 ∷ []) ≡ ((97 ∷ []) ∷ (98 ∷ []) ∷ []) ∷ [] ∷ ((99 ∷ []) ∷ []) ∷ []
unfolding word_lines words lines nonempty keep split grow is_gap is_blank is_return is_end class_of
three_lines = refl
