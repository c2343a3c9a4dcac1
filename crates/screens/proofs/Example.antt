-- The small case, computed: its texts are alike but for the name of room 0, and there the own caption, the lengths and 40 differ.
-- Assumes nothing.
use mathlib.Core.Path.{◌≡◌, refl, sym, ap, ◌∙◌}
use mathlib.Core.Logic.{◌≢◌, inl, inr}
use mathlib.Core.Bool.{true}
use mathlib.Core.List.{List, [], ◌∷◌}
use Prim.Native.Nat.{ℕ, zero, suc, ◌<◌}
use native.Mathlib.Omega.{arith}
use lib.Count.{ones}
use lib.ListN.{length, get_or}
use Rattle.verdict.specs.Lowest.{lowest, any_under}
use Rattle.verdict.specs.Verdict.{refused, rule, rule_of_each, ◌then◌}
use Rattle.letters.specs.Class.{class_of, is_digit, is_blank, is_return, is_refused, is_gap, is_end, name_byte}
use Rattle.letters.specs.Case.{lower, lowered}
use Rattle.text.specs.Scan.{run, grow, split, keep, nonempty, words, lines}
use Rattle.text.specs.Sound.{bad_at, rule31, rule32, rules31to32}
use Rattle.text.specs.Written.{after, spaced, ended, word_lines, rule40}
use Rattle.text.specs.Reading.{Word, spoken, read_lines}
use Rattle.names.specs.Name.{same, is_name, same_name}
use Rattle.number.specs.Count.{value, is_count}
use Rattle.number.specs.Number.{minus, count, says, right, some, none, number_of, fixed, width, plain, fraction, printed}
use Rattle.layout.specs.Grammar.{beginlayout, roomcount, trackcount, obstaclecount, doorhookcount, donelayout, section_of, follows, opens, with_entry, names_of, known, names_in, entry_long, numbers, door_fault, hook_fault, name_fault, doors_of, entry_fault, words_of, open_fault, fault, next, finish}
use Rattle.layout.specs.Layout.{grammar, layout_verdict, layout_of}
use Rattle.rooms.specs.Rooms.{room_names}
use Rattle.layoutform.specs.Form.{entry_named, entry_of, parts_of_typed, parts_of, entry_line, section, form, form_text}
use Rattle.layoutform.specs.Rewrite.{renamed_at, named, name_in, renamed_from, renamed, rewrite_verdict}
use Rattle.caption.specs.Caption.{has_room, room_name, caption_of}
use Rattle.sight.specs.Rows.{sees, with_mark}
use Rattle.sight.specs.Grammar.{room_of, room_fault, seen_fault, observer_fault, line_fault, moved_to, rows_behind, fault as sightFault, next as sightNext, finish as sightFinish}
use Rattle.sight.specs.Plain.{NamesRoom}
use Rattle.sight.specs.Sight.{grammar as sight_grammar, sight_verdict, rows_of}
use Rattle.sightform.specs.Form.{seen_to, seen_line, room_lines, lines_to, sight_text}
use Rattle.sightform.specs.Rewrite.{shown_names, rewritten_sight, sight_rewrite_verdict}
use Rattle.screens.specs.Alike.{AlikeLine, Alongside, AlikeLayouts, AlikeSights}
use Rattle.screens.specs.Calls.{shown_caption}
use Rattle.screens.specs.Example.{hall, den, hall_sees, den_sees, NameExample}
use Rattle.screens.proofs.Captions.{shown_is}
use Rattle.screens.proofs.Screens.{same_screens}

-- ---- the layouts

hall_names : List Word
hall_names = (72 ∷ 97 ∷ 108 ∷ 108 ∷ []) ∷ (98 ∷ 97 ∷ 114 ∷ []) ∷ []

den_names : List Word
den_names = (68 ∷ 101 ∷ 110 ∷ 95 ∷ 50 ∷ []) ∷ (98 ∷ 97 ∷ 114 ∷ []) ∷ []

names_are : (room_names hall ≡ hall_names) × (room_names den ≡ den_names)
unfolding hall_names den_names hall den room_names room_name renamed renamed_at name_in renamed_from named rewrite_verdict rule40 form_text form section entry_line parts_of parts_of_typed entry_of layout_of layout_verdict grammar read_lines finish next fault open_fault words_of entry_fault name_fault hook_fault door_fault entry_long names_in numbers doors_of entry_named known names_of with_entry opens follows section_of beginlayout roomcount trackcount obstaclecount doorhookcount donelayout ended spaced after word_lines words lines nonempty keep split grow run number_of minus count says right some none value is_count fixed width plain fraction printed same lower lowered is_name same_name rules31to32 rule31 rule32 bad_at rule rule_of_each ◌then◌ lowest any_under class_of is_digit is_blank is_return is_refused is_gap is_end name_byte
names_are = (refl, refl)

layouts_read : ((layout_verdict hall).number ≡ 0) × (((layout_verdict den).number ≡ 0) × (parts_of den ≡ renamed (parts_of hall) 0 (room_name den 0)))
unfolding hall den room_names room_name renamed renamed_at name_in renamed_from named rewrite_verdict rule40 form_text form section entry_line parts_of parts_of_typed entry_of layout_of layout_verdict grammar read_lines finish next fault open_fault words_of entry_fault name_fault hook_fault door_fault entry_long names_in numbers doors_of entry_named known names_of with_entry opens follows section_of beginlayout roomcount trackcount obstaclecount doorhookcount donelayout ended spaced after word_lines words lines nonempty keep split grow run number_of minus count says right some none value is_count fixed width plain fraction printed same lower lowered is_name same_name rules31to32 rule31 rule32 bad_at rule rule_of_each ◌then◌ lowest any_under class_of is_digit is_blank is_return is_refused is_gap is_end name_byte
layouts_read = (refl, (refl, refl))

-- the forms of 125 and 127 bytes, into an output of 125
layout_forms : (length (form_text (parts_of hall)) ≡ 125) × ((length (form_text (parts_of den)) ≡ 127) × (((rewrite_verdict hall 125).number ≡ 0) × ((rewrite_verdict den 125).number ≡ 40)))
unfolding hall den room_names room_name renamed renamed_at name_in renamed_from named rewrite_verdict rule40 form_text form section entry_line parts_of parts_of_typed entry_of layout_of layout_verdict grammar read_lines finish next fault open_fault words_of entry_fault name_fault hook_fault door_fault entry_long names_in numbers doors_of entry_named known names_of with_entry opens follows section_of beginlayout roomcount trackcount obstaclecount doorhookcount donelayout ended spaced after word_lines words lines nonempty keep split grow run number_of minus count says right some none value is_count fixed width plain fraction printed same lower lowered is_name same_name rules31to32 rule31 rule32 bad_at rule rule_of_each ◌then◌ lowest any_under class_of is_digit is_blank is_return is_refused is_gap is_end name_byte
layout_forms = (refl, (refl, (refl, refl)))

other_names : (i : ℕ) → i ≢ 0 → room_name hall i ≡ room_name den i
unfolding room_name
other_names i n = rw (names_are.0, names_are.1) (go i n)
  where
    go : (i : ℕ) → i ≢ 0 → get_or hall_names i [] ≡ get_or den_names i []
    go zero n = absurd (n refl)
    go (suc i) n = unfold hall_names den_names in refl

hall_den : AlikeLayouts 0 hall den
hall_den = record { reads = layouts_read.0; other_reads = layouts_read.1.0; others = other_names; parts = layouts_read.1.1 }

-- ---- visibility

sights_read : ((sight_verdict hall hall_sees).number ≡ 0) × ((sight_verdict den den_sees).number ≡ 0)
unfolding hall_sees den_sees sight_verdict rows_of sight_grammar sightFault sightNext sightFinish line_fault seen_fault observer_fault room_fault room_of moved_to rows_behind sees with_mark ones shown_names rewritten_sight sight_text lines_to room_lines seen_to seen_line sight_rewrite_verdict hall den room_names room_name renamed renamed_at name_in renamed_from named rewrite_verdict rule40 form_text form section entry_line parts_of parts_of_typed entry_of layout_of layout_verdict grammar read_lines finish next fault open_fault words_of entry_fault name_fault hook_fault door_fault entry_long names_in numbers doors_of entry_named known names_of with_entry opens follows section_of beginlayout roomcount trackcount obstaclecount doorhookcount donelayout ended spaced after word_lines words lines nonempty keep split grow run number_of minus count says right some none value is_count fixed width plain fraction printed same lower lowered is_name same_name rules31to32 rule31 rule32 bad_at rule rule_of_each ◌then◌ lowest any_under class_of is_digit is_blank is_return is_refused is_gap is_end name_byte
sights_read = (refl, refl)

-- the forms of 19 and 20 bytes, into an output of 19
sight_forms : (length (rewritten_sight hall hall_sees) ≡ 19) × ((length (rewritten_sight den den_sees) ≡ 20) × (((sight_rewrite_verdict hall hall_sees 19).number ≡ 0) × ((sight_rewrite_verdict den den_sees 19).number ≡ 40)))
unfolding hall_sees den_sees sight_verdict rows_of sight_grammar sightFault sightNext sightFinish line_fault seen_fault observer_fault room_fault room_of moved_to rows_behind sees with_mark ones shown_names rewritten_sight sight_text lines_to room_lines seen_to seen_line sight_rewrite_verdict hall den room_names room_name renamed renamed_at name_in renamed_from named rewrite_verdict rule40 form_text form section entry_line parts_of parts_of_typed entry_of layout_of layout_verdict grammar read_lines finish next fault open_fault words_of entry_fault name_fault hook_fault door_fault entry_long names_in numbers doors_of entry_named known names_of with_entry opens follows section_of beginlayout roomcount trackcount obstaclecount doorhookcount donelayout ended spaced after word_lines words lines nonempty keep split grow run number_of minus count says right some none value is_count fixed width plain fraction printed same lower lowered is_name same_name rules31to32 rule31 rule32 bad_at rule rule_of_each ◌then◌ lowest any_under class_of is_digit is_blank is_return is_refused is_gap is_end name_byte
sight_forms = (refl, (refl, (refl, refl)))

-- a word that names room i
at : {names : List Word} {w : Word} (i : ℕ) → is_name w ≡ true → i < length names → same_name w (get_or names i []) ≡ true → NamesRoom names w i
at i n l e = record { name = n; inside = l; same = e }

sight_lines : Alongside (AlikeLine hall_names den_names) (spoken (word_lines hall_sees)) (spoken (word_lines den_sees))
unfolding hall_sees den_sees hall_names den_names spoken word_lines words lines nonempty keep split grow value class_of is_blank is_return is_gap is_end same lower lowered is_name same_name run name_byte
sight_lines = (
  inr (record { room = 0; here = at 0 refl (omega arith) refl; there = at 0 refl (omega arith) refl }, refl),
  (inr (record { room = 1; here = at 1 refl (omega arith) refl; there = at 1 refl (omega arith) refl }, refl), (inl refl, tt)),
)

hall_den_sees : AlikeSights 0 hall den hall_sees den_sees
hall_den_sees = record { layouts = hall_den; reads = sights_read.0; other_reads = sights_read.1; lines = rw (names_are.0, names_are.1) sight_lines }

-- that both are accepted has to be asked for: the first visibility is refused with the other layout
pub not_theirs : sight_verdict den hall_sees ≡ refused 39 1
unfolding hall_sees den_sees sight_verdict rows_of sight_grammar sightFault sightNext sightFinish line_fault seen_fault observer_fault room_fault room_of moved_to rows_behind sees with_mark ones shown_names rewritten_sight sight_text lines_to room_lines seen_to seen_line sight_rewrite_verdict hall den room_names room_name renamed renamed_at name_in renamed_from named rewrite_verdict rule40 form_text form section entry_line parts_of parts_of_typed entry_of layout_of layout_verdict grammar read_lines finish next fault open_fault words_of entry_fault name_fault hook_fault door_fault entry_long names_in numbers doors_of entry_named known names_of with_entry opens follows section_of beginlayout roomcount trackcount obstaclecount doorhookcount donelayout ended spaced after word_lines words lines nonempty keep split grow run number_of minus count says right some none value is_count fixed width plain fraction printed same lower lowered is_name same_name rules31to32 rule31 rule32 bad_at rule rule_of_each ◌then◌ lowest any_under class_of is_digit is_blank is_return is_refused is_gap is_end name_byte
not_theirs = refl

-- ---- what differs

own_captions : (house : List ℕ) → (shown_caption hall house 0 ≡ (72 ∷ 97 ∷ 108 ∷ 108 ∷ [])) × (shown_caption den house 0 ≡ (68 ∷ 101 ∷ 110 ∷ 95 ∷ 50 ∷ []))
unfolding caption_of has_room room_name
own_captions house = (shown_is hall house 0 ∙ rw names_are.0 (unfold hall_names in refl), shown_is den house 0 ∙ rw names_are.1 (unfold den_names in refl))

own_differs : (house : List ℕ) → shown_caption hall house 0 ≢ shown_caption den house 0
own_differs house e =
    let (h, d) = own_captions house in
    let n : ◌≡◌ {A = ℕ} 4 5 = ap length (sym h ∙ e ∙ d) in
    omega arith

pub name_example : NameExample
name_example =
    let (hall-long, (den-long, (hall-fits, den-not))) = layout_forms in
    let (sees-long, (other-long, (sees-fits, other-not))) = sight_forms in
    record {
      alike = hall_den_sees;
      same = same_screens 0 hall den hall_sees den_sees hall_den_sees;
      own = own_differs;
      layout_long = λ e. let n : ◌≡◌ {A = ℕ} 125 127 = sym hall-long ∙ e ∙ den-long in omega arith;
      sight_long = λ e. let n : ◌≡◌ {A = ℕ} 19 20 = sym sees-long ∙ e ∙ other-long in omega arith;
      layout_room = 125;
      layout_40 = (hall-fits, den-not);
      sight_room = 19;
      sight_40 = (sees-fits, other-not);
    }
