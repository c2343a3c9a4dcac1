-- Worked examples, computed. Assumes nothing.
use mathlib.Core.Path.{◌≡◌, refl}
use mathlib.Core.List.{[], ◌∷◌}
use Rattle.verdict.specs.Lowest.{lowest, any_under}
use Rattle.verdict.specs.Verdict.{refused, rule, rule_of_each, ◌then◌}
use Rattle.letters.specs.Class.{class_of, is_digit, is_blank, is_return, is_refused, is_gap, is_end}
use Rattle.text.specs.Scan.{run, grow, split, keep, nonempty, words, lines}
use Rattle.text.specs.Sound.{bad_at, rule31, rule32, rules31to32}
use Rattle.names.specs.Name.{same}
use Rattle.number.specs.Count.{value, is_count}
use Rattle.text.specs.Written.{word_lines}
use Rattle.text.specs.Reading.{read_lines}
use Rattle.layout.specs.Grammar.{beginlayout, roomcount, trackcount, obstaclecount, doorhookcount, donelayout, section_of, follows, opens, words_of, open_fault, fault, next, finish}
use Rattle.layout.specs.Layout.{grammar, layout_verdict}

-- a line behind `donelayout` is late: 33 at line 4
late_line : layout_verdict (98 ∷ 101 ∷ 103 ∷ 105 ∷ 110 ∷ 108 ∷ 97 ∷ 121 ∷ 111 ∷ 117 ∷ 116 ∷ 10 ∷ 114 ∷ 111 ∷ 111 ∷ 109 ∷ 99 ∷ 111 ∷ 117 ∷ 110 ∷ 116 ∷ 32 ∷ 48 ∷ 10 ∷ 100 ∷ 111 ∷ 110 ∷ 101 ∷ 108 ∷ 97 ∷ 121 ∷ 111 ∷ 117 ∷ 116 ∷ 10 ∷ 120 ∷ []) ≡ refused 33 4
unfolding layout_verdict grammar read_lines finish next fault open_fault words_of opens follows section_of beginlayout roomcount trackcount obstaclecount doorhookcount donelayout word_lines words lines nonempty keep split grow run value is_count same rules31to32 rule31 rule32 bad_at rule rule_of_each ◌then◌ lowest any_under class_of is_digit is_blank is_return is_refused is_gap is_end
late_line = refl
