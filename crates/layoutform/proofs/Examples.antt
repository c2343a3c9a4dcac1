-- Worked examples, computed. Assumes nothing.
use mathlib.Core.Path.{◌≡◌, refl}
use mathlib.Core.List.{List, [], ◌∷◌}
use Prim.Native.Nat.{ℕ}
use Rattle.verdict.specs.Lowest.{lowest, any_under}
use Rattle.verdict.specs.Verdict.{refused, rule, rule_of_each, ◌then◌}
use Rattle.letters.specs.Class.{class_of, is_digit, is_blank, is_return, is_refused, is_gap, is_end, name_byte}
use Rattle.text.specs.Scan.{run, grow, split, keep, nonempty, words, lines}
use Rattle.text.specs.Sound.{bad_at, rule31, rule32, rules31to32}
use Rattle.names.specs.Name.{same, is_name, same_name}
use Rattle.letters.specs.Case.{lower, lowered}
use Rattle.number.specs.Count.{value, is_count}
use Rattle.number.specs.Number.{minus, count, says, right, some, none, number_of, fixed, width, plain, fraction, printed}
use Rattle.text.specs.Written.{after, spaced, ended, word_lines}
use Rattle.text.specs.Reading.{read_lines}
use Rattle.layout.specs.Grammar.{beginlayout, roomcount, trackcount, obstaclecount, doorhookcount, donelayout, section_of, follows, opens, with_entry, names_of, known, names_in, entry_long, numbers, door_fault, hook_fault, name_fault, doors_of, entry_fault, words_of, open_fault, fault, next, finish}
use Rattle.layout.specs.Layout.{grammar, layout_verdict, layout_of}
use Rattle.layoutform.specs.Form.{entry_named, entry_of, parts_of_typed, parts_of, entry_line, section, form, form_text}
use Rattle.layoutform.specs.Rewrite.{renamed_at, named, name_in, renamed_from, renamed, renamed_form}

-- a layout of one room, `Hall 1.5 0 -0`
hall : List ℕ
hall = 98 ∷ 101 ∷ 103 ∷ 105 ∷ 110 ∷ 108 ∷ 97 ∷ 121 ∷ 111 ∷ 117 ∷ 116 ∷ 10 ∷ 114 ∷ 111 ∷ 111 ∷ 109 ∷ 99 ∷ 111 ∷ 117 ∷ 110 ∷ 116 ∷ 32 ∷ 49 ∷ 10 ∷ 72 ∷ 97 ∷ 108 ∷ 108 ∷ 32 ∷ 49 ∷ 46 ∷ 53 ∷ 32 ∷ 48 ∷ 32 ∷ 45 ∷ 48 ∷ 10 ∷ 100 ∷ 111 ∷ 110 ∷ 101 ∷ 108 ∷ 97 ∷ 121 ∷ 111 ∷ 117 ∷ 116 ∷ []

-- the whole case of the paper: `hall 1.5 0 0`
hall_form : form_text (parts_of hall) ≡ 98 ∷ 101 ∷ 103 ∷ 105 ∷ 110 ∷ 108 ∷ 97 ∷ 121 ∷ 111 ∷ 117 ∷ 116 ∷ 10 ∷ 114 ∷ 111 ∷ 111 ∷ 109 ∷ 99 ∷ 111 ∷ 117 ∷ 110 ∷ 116 ∷ 32 ∷ 49 ∷ 10 ∷ 104 ∷ 97 ∷ 108 ∷ 108 ∷ 32 ∷ 49 ∷ 46 ∷ 53 ∷ 32 ∷ 48 ∷ 32 ∷ 48 ∷ 10 ∷ 116 ∷ 114 ∷ 97 ∷ 99 ∷ 107 ∷ 99 ∷ 111 ∷ 117 ∷ 110 ∷ 116 ∷ 32 ∷ 48 ∷ 10 ∷ 111 ∷ 98 ∷ 115 ∷ 116 ∷ 97 ∷ 99 ∷ 108 ∷ 101 ∷ 99 ∷ 111 ∷ 117 ∷ 110 ∷ 116 ∷ 32 ∷ 48 ∷ 10 ∷ 100 ∷ 111 ∷ 111 ∷ 114 ∷ 104 ∷ 111 ∷ 111 ∷ 107 ∷ 99 ∷ 111 ∷ 117 ∷ 110 ∷ 116 ∷ 32 ∷ 48 ∷ 10 ∷ 100 ∷ 111 ∷ 110 ∷ 101 ∷ 108 ∷ 97 ∷ 121 ∷ 111 ∷ 117 ∷ 116 ∷ 10 ∷ []
unfolding hall form_text form section entry_line parts_of parts_of_typed entry_of layout_of layout_verdict grammar read_lines finish next fault open_fault words_of entry_fault name_fault entry_long names_in numbers entry_named known names_of with_entry opens follows section_of beginlayout roomcount trackcount obstaclecount doorhookcount donelayout ended spaced after word_lines words lines nonempty keep split grow run number_of minus count says right some none value is_count fixed width plain fraction printed same lower lowered is_name same_name rules31to32 rule31 rule32 bad_at rule rule_of_each ◌then◌ lowest any_under class_of is_digit is_blank is_return is_refused is_gap is_end name_byte
hall_form = refl

-- two hooks of that room, one with the five numbers more, and a door that has the room's name
hooked : List ℕ
hooked = 98 ∷ 101 ∷ 103 ∷ 105 ∷ 110 ∷ 108 ∷ 97 ∷ 121 ∷ 111 ∷ 117 ∷ 116 ∷ 10 ∷ 114 ∷ 111 ∷ 111 ∷ 109 ∷ 99 ∷ 111 ∷ 117 ∷ 110 ∷ 116 ∷ 32 ∷ 49 ∷ 10 ∷ 72 ∷ 97 ∷ 108 ∷ 108 ∷ 32 ∷ 49 ∷ 46 ∷ 53 ∷ 32 ∷ 48 ∷ 32 ∷ 45 ∷ 48 ∷ 10 ∷ 100 ∷ 111 ∷ 111 ∷ 114 ∷ 104 ∷ 111 ∷ 111 ∷ 107 ∷ 99 ∷ 111 ∷ 117 ∷ 110 ∷ 116 ∷ 32 ∷ 50 ∷ 10 ∷ 72 ∷ 65 ∷ 76 ∷ 76 ∷ 32 ∷ 71 ∷ 97 ∷ 116 ∷ 101 ∷ 32 ∷ 48 ∷ 32 ∷ 48 ∷ 32 ∷ 48 ∷ 32 ∷ 49 ∷ 32 ∷ 48 ∷ 32 ∷ 48 ∷ 32 ∷ 45 ∷ 48 ∷ 10 ∷ 104 ∷ 97 ∷ 108 ∷ 108 ∷ 32 ∷ 104 ∷ 97 ∷ 108 ∷ 108 ∷ 32 ∷ 49 ∷ 32 ∷ 50 ∷ 32 ∷ 51 ∷ 32 ∷ 48 ∷ 32 ∷ 48 ∷ 32 ∷ 48 ∷ 32 ∷ 49 ∷ 32 ∷ 53 ∷ 32 ∷ 54 ∷ 32 ∷ 55 ∷ 32 ∷ 56 ∷ 32 ∷ 48 ∷ 57 ∷ 46 ∷ 53 ∷ 48 ∷ 10 ∷ 100 ∷ 111 ∷ 110 ∷ 101 ∷ 108 ∷ 97 ∷ 121 ∷ 111 ∷ 117 ∷ 116 ∷ []

hooked_form : form_text (parts_of hooked) ≡ 98 ∷ 101 ∷ 103 ∷ 105 ∷ 110 ∷ 108 ∷ 97 ∷ 121 ∷ 111 ∷ 117 ∷ 116 ∷ 10 ∷ 114 ∷ 111 ∷ 111 ∷ 109 ∷ 99 ∷ 111 ∷ 117 ∷ 110 ∷ 116 ∷ 32 ∷ 49 ∷ 10 ∷ 104 ∷ 97 ∷ 108 ∷ 108 ∷ 32 ∷ 49 ∷ 46 ∷ 53 ∷ 32 ∷ 48 ∷ 32 ∷ 48 ∷ 10 ∷ 116 ∷ 114 ∷ 97 ∷ 99 ∷ 107 ∷ 99 ∷ 111 ∷ 117 ∷ 110 ∷ 116 ∷ 32 ∷ 48 ∷ 10 ∷ 111 ∷ 98 ∷ 115 ∷ 116 ∷ 97 ∷ 99 ∷ 108 ∷ 101 ∷ 99 ∷ 111 ∷ 117 ∷ 110 ∷ 116 ∷ 32 ∷ 48 ∷ 10 ∷ 100 ∷ 111 ∷ 111 ∷ 114 ∷ 104 ∷ 111 ∷ 111 ∷ 107 ∷ 99 ∷ 111 ∷ 117 ∷ 110 ∷ 116 ∷ 32 ∷ 50 ∷ 10 ∷ 104 ∷ 97 ∷ 108 ∷ 108 ∷ 32 ∷ 103 ∷ 97 ∷ 116 ∷ 101 ∷ 32 ∷ 48 ∷ 32 ∷ 48 ∷ 32 ∷ 48 ∷ 32 ∷ 49 ∷ 32 ∷ 48 ∷ 32 ∷ 48 ∷ 32 ∷ 48 ∷ 10 ∷ 104 ∷ 97 ∷ 108 ∷ 108 ∷ 32 ∷ 104 ∷ 97 ∷ 108 ∷ 108 ∷ 32 ∷ 49 ∷ 32 ∷ 50 ∷ 32 ∷ 51 ∷ 32 ∷ 48 ∷ 32 ∷ 48 ∷ 32 ∷ 48 ∷ 32 ∷ 49 ∷ 32 ∷ 53 ∷ 32 ∷ 54 ∷ 32 ∷ 55 ∷ 32 ∷ 56 ∷ 32 ∷ 57 ∷ 46 ∷ 53 ∷ 48 ∷ 10 ∷ 100 ∷ 111 ∷ 110 ∷ 101 ∷ 108 ∷ 97 ∷ 121 ∷ 111 ∷ 117 ∷ 116 ∷ 10 ∷ []
unfolding hooked form_text form section entry_line parts_of parts_of_typed entry_of layout_of layout_verdict grammar read_lines finish next fault open_fault words_of entry_fault name_fault hook_fault door_fault entry_long names_in numbers doors_of entry_named known names_of with_entry opens follows section_of beginlayout roomcount trackcount obstaclecount doorhookcount donelayout ended spaced after word_lines words lines nonempty keep split grow run number_of minus count says right some none value is_count fixed width plain fraction printed same lower lowered is_name same_name rules31to32 rule31 rule32 bad_at rule rule_of_each ◌then◌ lowest any_under class_of is_digit is_blank is_return is_refused is_gap is_end name_byte
hooked_form = refl

-- with the name `Den` for room 0: the room and its hooks, and no door
hooked_den : renamed_form hooked 0 (68 ∷ 101 ∷ 110 ∷ []) ≡ 98 ∷ 101 ∷ 103 ∷ 105 ∷ 110 ∷ 108 ∷ 97 ∷ 121 ∷ 111 ∷ 117 ∷ 116 ∷ 10 ∷ 114 ∷ 111 ∷ 111 ∷ 109 ∷ 99 ∷ 111 ∷ 117 ∷ 110 ∷ 116 ∷ 32 ∷ 49 ∷ 10 ∷ 100 ∷ 101 ∷ 110 ∷ 32 ∷ 49 ∷ 46 ∷ 53 ∷ 32 ∷ 48 ∷ 32 ∷ 48 ∷ 10 ∷ 116 ∷ 114 ∷ 97 ∷ 99 ∷ 107 ∷ 99 ∷ 111 ∷ 117 ∷ 110 ∷ 116 ∷ 32 ∷ 48 ∷ 10 ∷ 111 ∷ 98 ∷ 115 ∷ 116 ∷ 97 ∷ 99 ∷ 108 ∷ 101 ∷ 99 ∷ 111 ∷ 117 ∷ 110 ∷ 116 ∷ 32 ∷ 48 ∷ 10 ∷ 100 ∷ 111 ∷ 111 ∷ 114 ∷ 104 ∷ 111 ∷ 111 ∷ 107 ∷ 99 ∷ 111 ∷ 117 ∷ 110 ∷ 116 ∷ 32 ∷ 50 ∷ 10 ∷ 100 ∷ 101 ∷ 110 ∷ 32 ∷ 103 ∷ 97 ∷ 116 ∷ 101 ∷ 32 ∷ 48 ∷ 32 ∷ 48 ∷ 32 ∷ 48 ∷ 32 ∷ 49 ∷ 32 ∷ 48 ∷ 32 ∷ 48 ∷ 32 ∷ 48 ∷ 10 ∷ 100 ∷ 101 ∷ 110 ∷ 32 ∷ 104 ∷ 97 ∷ 108 ∷ 108 ∷ 32 ∷ 49 ∷ 32 ∷ 50 ∷ 32 ∷ 51 ∷ 32 ∷ 48 ∷ 32 ∷ 48 ∷ 32 ∷ 48 ∷ 32 ∷ 49 ∷ 32 ∷ 53 ∷ 32 ∷ 54 ∷ 32 ∷ 55 ∷ 32 ∷ 56 ∷ 32 ∷ 57 ∷ 46 ∷ 53 ∷ 48 ∷ 10 ∷ 100 ∷ 111 ∷ 110 ∷ 101 ∷ 108 ∷ 97 ∷ 121 ∷ 111 ∷ 117 ∷ 116 ∷ 10 ∷ []
unfolding hooked renamed renamed_at name_in renamed_from named form_text form section entry_line parts_of parts_of_typed entry_of layout_of layout_verdict grammar read_lines finish next fault open_fault words_of entry_fault name_fault hook_fault door_fault entry_long names_in numbers doors_of entry_named known names_of with_entry opens follows section_of beginlayout roomcount trackcount obstaclecount doorhookcount donelayout ended spaced after word_lines words lines nonempty keep split grow run number_of minus count says right some none value is_count fixed width plain fraction printed same lower lowered is_name same_name rules31to32 rule31 rule32 bad_at rule rule_of_each ◌then◌ lowest any_under class_of is_digit is_blank is_return is_refused is_gap is_end name_byte
hooked_den = refl

-- a room that is none comes before a door that is no name: 39
no_room : layout_verdict (98 ∷ 101 ∷ 103 ∷ 105 ∷ 110 ∷ 108 ∷ 97 ∷ 121 ∷ 111 ∷ 117 ∷ 116 ∷ 10 ∷ 114 ∷ 111 ∷ 111 ∷ 109 ∷ 99 ∷ 111 ∷ 117 ∷ 110 ∷ 116 ∷ 32 ∷ 49 ∷ 10 ∷ 72 ∷ 97 ∷ 108 ∷ 108 ∷ 32 ∷ 48 ∷ 32 ∷ 48 ∷ 32 ∷ 48 ∷ 10 ∷ 100 ∷ 111 ∷ 111 ∷ 114 ∷ 104 ∷ 111 ∷ 111 ∷ 107 ∷ 99 ∷ 111 ∷ 117 ∷ 110 ∷ 116 ∷ 32 ∷ 50 ∷ 10 ∷ 100 ∷ 101 ∷ 110 ∷ 32 ∷ 97 ∷ 46 ∷ 98 ∷ 32 ∷ 48 ∷ 32 ∷ 48 ∷ 32 ∷ 48 ∷ 32 ∷ 49 ∷ 32 ∷ 48 ∷ 32 ∷ 48 ∷ 32 ∷ 48 ∷ 10 ∷ []) ≡ refused 39 5
unfolding layout_verdict grammar read_lines finish next fault open_fault words_of entry_fault name_fault hook_fault door_fault entry_long names_in numbers doors_of entry_named known names_of with_entry opens follows section_of beginlayout roomcount trackcount obstaclecount doorhookcount donelayout ended spaced after word_lines words lines nonempty keep split grow run number_of minus count says right some none value is_count fixed width plain fraction printed same lower lowered is_name same_name rules31to32 rule31 rule32 bad_at rule rule_of_each ◌then◌ lowest any_under class_of is_digit is_blank is_return is_refused is_gap is_end name_byte
no_room = refl

-- a door twice, letter case ignored, comes before a number that is none: 37
door_twice : layout_verdict (98 ∷ 101 ∷ 103 ∷ 105 ∷ 110 ∷ 108 ∷ 97 ∷ 121 ∷ 111 ∷ 117 ∷ 116 ∷ 10 ∷ 114 ∷ 111 ∷ 111 ∷ 109 ∷ 99 ∷ 111 ∷ 117 ∷ 110 ∷ 116 ∷ 32 ∷ 49 ∷ 10 ∷ 72 ∷ 97 ∷ 108 ∷ 108 ∷ 32 ∷ 48 ∷ 32 ∷ 48 ∷ 32 ∷ 48 ∷ 10 ∷ 100 ∷ 111 ∷ 111 ∷ 114 ∷ 104 ∷ 111 ∷ 111 ∷ 107 ∷ 99 ∷ 111 ∷ 117 ∷ 110 ∷ 116 ∷ 32 ∷ 50 ∷ 10 ∷ 104 ∷ 97 ∷ 108 ∷ 108 ∷ 32 ∷ 103 ∷ 97 ∷ 116 ∷ 101 ∷ 32 ∷ 48 ∷ 32 ∷ 48 ∷ 32 ∷ 48 ∷ 32 ∷ 49 ∷ 32 ∷ 48 ∷ 32 ∷ 48 ∷ 32 ∷ 48 ∷ 10 ∷ 104 ∷ 97 ∷ 108 ∷ 108 ∷ 32 ∷ 71 ∷ 65 ∷ 84 ∷ 69 ∷ 32 ∷ 48 ∷ 32 ∷ 48 ∷ 32 ∷ 48 ∷ 32 ∷ 49 ∷ 32 ∷ 48 ∷ 32 ∷ 48 ∷ 32 ∷ 120 ∷ 10 ∷ []) ≡ refused 37 6
unfolding layout_verdict grammar read_lines finish next fault open_fault words_of entry_fault name_fault hook_fault door_fault entry_long names_in numbers doors_of entry_named known names_of with_entry opens follows section_of beginlayout roomcount trackcount obstaclecount doorhookcount donelayout ended spaced after word_lines words lines nonempty keep split grow run number_of minus count says right some none value is_count fixed width plain fraction printed same lower lowered is_name same_name rules31to32 rule31 rule32 bad_at rule rule_of_each ◌then◌ lowest any_under class_of is_digit is_blank is_return is_refused is_gap is_end name_byte
door_twice = refl

-- ten words: 33
ten_words : layout_verdict (98 ∷ 101 ∷ 103 ∷ 105 ∷ 110 ∷ 108 ∷ 97 ∷ 121 ∷ 111 ∷ 117 ∷ 116 ∷ 10 ∷ 114 ∷ 111 ∷ 111 ∷ 109 ∷ 99 ∷ 111 ∷ 117 ∷ 110 ∷ 116 ∷ 32 ∷ 49 ∷ 10 ∷ 72 ∷ 97 ∷ 108 ∷ 108 ∷ 32 ∷ 48 ∷ 32 ∷ 48 ∷ 32 ∷ 48 ∷ 10 ∷ 100 ∷ 111 ∷ 111 ∷ 114 ∷ 104 ∷ 111 ∷ 111 ∷ 107 ∷ 99 ∷ 111 ∷ 117 ∷ 110 ∷ 116 ∷ 32 ∷ 50 ∷ 10 ∷ 104 ∷ 97 ∷ 108 ∷ 108 ∷ 32 ∷ 103 ∷ 97 ∷ 116 ∷ 101 ∷ 32 ∷ 48 ∷ 32 ∷ 48 ∷ 32 ∷ 48 ∷ 32 ∷ 49 ∷ 32 ∷ 48 ∷ 32 ∷ 48 ∷ 32 ∷ 48 ∷ 32 ∷ 48 ∷ 10 ∷ []) ≡ refused 33 5
unfolding layout_verdict grammar read_lines finish next fault open_fault words_of entry_fault name_fault hook_fault door_fault entry_long names_in numbers doors_of entry_named known names_of with_entry opens follows section_of beginlayout roomcount trackcount obstaclecount doorhookcount donelayout ended spaced after word_lines words lines nonempty keep split grow run number_of minus count says right some none value is_count fixed width plain fraction printed same lower lowered is_name same_name rules31to32 rule31 rule32 bad_at rule rule_of_each ◌then◌ lowest any_under class_of is_digit is_blank is_return is_refused is_gap is_end name_byte
ten_words = refl

-- sixty-five hooks: 36
too_many : layout_verdict (98 ∷ 101 ∷ 103 ∷ 105 ∷ 110 ∷ 108 ∷ 97 ∷ 121 ∷ 111 ∷ 117 ∷ 116 ∷ 10 ∷ 114 ∷ 111 ∷ 111 ∷ 109 ∷ 99 ∷ 111 ∷ 117 ∷ 110 ∷ 116 ∷ 32 ∷ 49 ∷ 10 ∷ 72 ∷ 97 ∷ 108 ∷ 108 ∷ 32 ∷ 48 ∷ 32 ∷ 48 ∷ 32 ∷ 48 ∷ 10 ∷ 100 ∷ 111 ∷ 111 ∷ 114 ∷ 104 ∷ 111 ∷ 111 ∷ 107 ∷ 99 ∷ 111 ∷ 117 ∷ 110 ∷ 116 ∷ 32 ∷ 54 ∷ 53 ∷ 10 ∷ []) ≡ refused 36 4
unfolding layout_verdict grammar read_lines finish next fault open_fault words_of entry_fault name_fault hook_fault door_fault entry_long names_in numbers doors_of entry_named known names_of with_entry opens follows section_of beginlayout roomcount trackcount obstaclecount doorhookcount donelayout ended spaced after word_lines words lines nonempty keep split grow run number_of minus count says right some none value is_count fixed width plain fraction printed same lower lowered is_name same_name rules31to32 rule31 rule32 bad_at rule rule_of_each ◌then◌ lowest any_under class_of is_digit is_blank is_return is_refused is_gap is_end name_byte
too_many = refl

-- a text that ends among the hooks: 38
ends_early : layout_verdict (98 ∷ 101 ∷ 103 ∷ 105 ∷ 110 ∷ 108 ∷ 97 ∷ 121 ∷ 111 ∷ 117 ∷ 116 ∷ 10 ∷ 114 ∷ 111 ∷ 111 ∷ 109 ∷ 99 ∷ 111 ∷ 117 ∷ 110 ∷ 116 ∷ 32 ∷ 49 ∷ 10 ∷ 72 ∷ 97 ∷ 108 ∷ 108 ∷ 32 ∷ 48 ∷ 32 ∷ 48 ∷ 32 ∷ 48 ∷ 10 ∷ 100 ∷ 111 ∷ 111 ∷ 114 ∷ 104 ∷ 111 ∷ 111 ∷ 107 ∷ 99 ∷ 111 ∷ 117 ∷ 110 ∷ 116 ∷ 32 ∷ 50 ∷ 10 ∷ 104 ∷ 97 ∷ 108 ∷ 108 ∷ 32 ∷ 103 ∷ 97 ∷ 116 ∷ 101 ∷ 32 ∷ 48 ∷ 32 ∷ 48 ∷ 32 ∷ 48 ∷ 32 ∷ 49 ∷ 32 ∷ 48 ∷ 32 ∷ 48 ∷ 32 ∷ 48 ∷ 10 ∷ []) ≡ refused 38 5
unfolding layout_verdict grammar read_lines finish next fault open_fault words_of entry_fault name_fault hook_fault door_fault entry_long names_in numbers doors_of entry_named known names_of with_entry opens follows section_of beginlayout roomcount trackcount obstaclecount doorhookcount donelayout ended spaced after word_lines words lines nonempty keep split grow run number_of minus count says right some none value is_count fixed width plain fraction printed same lower lowered is_name same_name rules31to32 rule31 rule32 bad_at rule rule_of_each ◌then◌ lowest any_under class_of is_digit is_blank is_return is_refused is_gap is_end name_byte
ends_early = refl
