-- The names that a layout's fixed form shows, with a room's new name or without: those of its parts, in lower case; and that visibility is
-- read alike with them. Assumes nothing.
use mathlib.Core.Path.{◌≡◌, refl, ap, ◌∙◌}
use mathlib.Core.Bool.{true, false}
use mathlib.Core.List.{List, [], ◌∷◌, map}
use Prim.Native.Nat.{ℕ, suc}
use lib.ListN.{length, set, length-map, length-set}
use Rattle.verdict.proofs.Lists.{map_at_lem}
use Rattle.verdict.proofs.Lowest.{lowest_same_lem}
use Rattle.names.specs.Name.{is_name}
use Rattle.letters.specs.Case.{lowered}
use Rattle.text.specs.Reading.{Word, Line, nth, read_lines}
use Rattle.text.specs.Written.{word_lines}
use Rattle.names.proofs.NameLaws.{same_name_lowered, same_name_sym}
use Rattle.layout.specs.Grammar.{Typed, names_of, known_but}
use Rattle.layoutform.specs.Form.{Entry, LayoutParts, parts_of, form_text}
use Rattle.layoutform.specs.Rewrite.{renamed}
use Rattle.rooms.specs.Rooms.{room_names}
use Rattle.verdict.proofs.Each.{Each}
use Rattle.layoutform.proofs.PartLaws.{part_names, GoodEntry, GoodParts, parts_good}
use Rattle.layoutform.proofs.LineLaws.{line_names}
use Rattle.layoutform.proofs.FormLaws.{form_typed}
use Rattle.layoutform.proofs.FormTrip.{good_typed_again}
use Rattle.layoutform.proofs.RenameLaws.{renamed_names_lem, renamed_good, names_of_parts}
use Rattle.sight.specs.Grammar.{room_of, State, start, fault, next, sight_grammar}
use Rattle.sight.specs.Sight.{grammar}
use Rattle.sightform.specs.Rewrite.{shown_names, renamed_names}

-- the names of right parts are in lower case
small_names : (k : ℕ) (rooms : List Word) (es : List Entry) → Each (GoodEntry k rooms) es → map lowered (part_names es) ≡ part_names es
unfolding part_names
small_names k rooms [] g = refl
small_names k rooms (e ∷ es) (g, h) = rw (g.name.small, small_names k rooms es h)

module _ (p : LayoutParts) (g : GoodParts p) where
  -- the names that are read from a fixed form, and shown for it
  pub form_room_names : room_names (form_text p) ≡ part_names p.rooms
  unfolding room_names form_typed
  form_room_names = ap (λ (t : Typed). names_of t.rooms) (good_typed_again p g) ∙ line_names p.rooms

  pub form_shown_names : shown_names (form_text p) ≡ part_names p.rooms
  unfolding shown_names
  form_shown_names = ap (map lowered) form_room_names ∙ small_names 2 _ p.rooms g.rooms

-- a layout's fixed form shows the names that the layout shows
pub shown_again : (layout : List ℕ) → shown_names (form_text (parts_of layout)) ≡ shown_names layout
unfolding shown_names
shown_again layout = form_shown_names (parts_of layout) (parts_good layout) ∙ names_of_parts layout

pub rooms_again : (layout : List ℕ) → length (room_names (form_text (parts_of layout))) ≡ length (room_names layout)
rooms_again layout = ap length (form_room_names (parts_of layout) (parts_good layout) ∙ names_of_parts layout) ∙ length-map (room_names layout) lowered

-- with a new name, its fixed form shows that one for room i
module _ (layout : List ℕ) (i : ℕ) (w : Word) (n : is_name w ≡ true) (k : known_but i w (room_names layout) ≡ false) where
  renamed_parts : part_names (renamed (parts_of layout) i w).rooms ≡ renamed_names layout i w
  unfolding renamed_names shown_names renamed
  renamed_parts = renamed_names_lem (parts_of layout).rooms i (lowered w) ∙ ap (λ (ns : List Word). set ns i (lowered w)) (names_of_parts layout)

  pub shown_renamed : shown_names (form_text (renamed (parts_of layout) i w)) ≡ renamed_names layout i w
  shown_renamed = form_shown_names (renamed (parts_of layout) i w) (renamed_good layout i w n k) ∙ renamed_parts

  pub rooms_renamed : length (room_names (form_text (renamed (parts_of layout) i w))) ≡ length (room_names layout)
  unfolding renamed_names shown_names
  rooms_renamed =
      ap length (form_room_names (renamed (parts_of layout) i w) (renamed_good layout i w n k) ∙ renamed_parts)
      ∙ length-set (map lowered (room_names layout)) i (lowered w) ∙ length-map (room_names layout) lowered

-- ---- visibility is read alike with the layout's names in lower case

module _ (ns : List Word) where
  room_lowered : (w : Word) → room_of (map lowered ns) w ≡ room_of ns w
  unfolding room_of
  room_lowered w =
      rw (length-map ns lowered)
      (lowest_same_lem (length ns) _ _ (λ j l. rw (map_at_lem lowered [] [] ns j l) (same_name_sym w _ ∙ same_name_lowered _ w ∙ same_name_sym _ w)))

  fault_lowered : (st : State) (l : Line) → fault (map lowered ns) st l ≡ fault ns st l
  unfolding fault
  fault_lowered st l = rw (length-map ns lowered, room_lowered (nth l 0))

  next_lowered : (st : State) (l : Line) → next (map lowered ns) st l ≡ next ns st l
  unfolding next
  next_lowered st l = rw (room_lowered (nth l 0))

  read_lowered : (ls : List Line) (n : ℕ) (st : State) → read_lines (sight_grammar (map lowered ns)) n st ls ≡ read_lines (sight_grammar ns) n st ls
  unfolding read_lines
  read_lowered [] n st = refl
  read_lowered (l ∷ ls) n st = rw (fault_lowered st l, next_lowered st l, read_lowered ls (suc n) (next ns st l))

  pub grammar_lowered : (s : List ℕ) → grammar (map lowered ns) s ≡ grammar ns s
  unfolding grammar
  grammar_lowered s = read_lowered (word_lines s) 0 start

-- and so with its fixed form
pub grammar_again : (layout s : List ℕ) → grammar (room_names (form_text (parts_of layout))) s ≡ grammar (room_names layout) s
grammar_again layout s = rw (form_room_names (parts_of layout) (parts_good layout), names_of_parts layout) (grammar_lowered (room_names layout) s)
