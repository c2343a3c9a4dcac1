-- The fixed form's text is accepted and read as the same parts; a second rewriting changes no byte. Assumes nothing.
use mathlib.Core.Path.{◌≡◌, refl, ap, ◌∙◌}
use mathlib.Core.Bool.{Bool, true, false, ◌||◌}
use mathlib.Core.List.{List}
use Prim.Native.Nat.{ℕ, ◌≤◌}
use native.Mathlib.Omega.{arith}
use lib.Dec.{ltb}
use lib.ListN.{length}
use borrow.Author.Tests.{le-ltb}
use Rattle.verdict.specs.declared.Answer.{Answer}
use Rattle.verdict.specs.Verdict.{accepted, rule}
use Rattle.letters.specs.Class.{class_of, name_byte}
use Rattle.text.specs.Scan.{run}
use Rattle.text.specs.Sound.{rules31to32}
use Rattle.names.specs.Name.{is_name}
use Rattle.text.proofs.WrittenLaws.{AllPlain, AllLines, Plain, written_read, written_sound}
use Rattle.names.proofs.WordLaws.{name_plain}
use Rattle.number.proofs.WordLaws.{count_plain}
use Rattle.text.specs.Reading.{Word}
use Rattle.layout.specs.Grammar.{Reading, start, read_from, beginlayout, roomcount, trackcount, obstaclecount, doorhookcount, donelayout}
use Rattle.layout.specs.Layout.{grammar, layout_verdict, layout_of}
use Rattle.layoutform.specs.Form.{Entry, LayoutParts, parts_of_typed, parts_of, entry_line, section, form, form_text, longest_form}
use Rattle.text.specs.Written.{rule40}
use Rattle.verdict.proofs.Each.{Each, each_append, each_map}
use Rattle.layout.proofs.ReadLaws.{verdict_sound, layout_accepted}
use Rattle.layoutform.proofs.PartLaws.{GoodEntry, GoodParts, parts_good}
use Rattle.layoutform.proofs.LineLaws.{line_plain, lines_again}
use Rattle.layoutform.proofs.FormLaws.{form_typed, form_lines}
use Rattle.layoutform.proofs.LengthLaws.{form_short}

-- ---- the form can be written

section_plain : (k : ℕ) (rooms : List Word) (key : Word) (es : List Entry) → Plain key → Each (GoodEntry k rooms) es → AllLines (section key es)
unfolding section
section_plain k rooms key es p g = ((p, (count_plain (length es), tt)), each_map (GoodEntry k rooms) AllPlain entry_line (line_plain k rooms) es g)

plain_first : Plain beginlayout
unfolding beginlayout is_name name_byte class_of run
plain_first = name_plain _ refl

plain_rooms : Plain roomcount
unfolding roomcount is_name name_byte class_of run
plain_rooms = name_plain _ refl

plain_tracks : Plain trackcount
unfolding trackcount is_name name_byte class_of run
plain_tracks = name_plain _ refl

plain_obstacles : Plain obstaclecount
unfolding obstaclecount is_name name_byte class_of run
plain_obstacles = name_plain _ refl

plain_hooks : Plain doorhookcount
unfolding doorhookcount is_name name_byte class_of run
plain_hooks = name_plain _ refl

plain_last : Plain donelayout
unfolding donelayout is_name name_byte class_of run
plain_last = name_plain _ refl

pub form_plain : (p : LayoutParts) → GoodParts p → AllLines (form p)
unfolding form
form_plain p g = (
  (plain_first, tt),
  each_append AllPlain (section roomcount p.rooms) _ (section_plain 2 _ roomcount p.rooms plain_rooms g.rooms)
      (each_append AllPlain (section trackcount p.tracks) _ (section_plain 3 _ trackcount p.tracks plain_tracks g.tracks)
      (each_append AllPlain (section obstaclecount p.obstacles) _ (section_plain 4 _ obstaclecount p.obstacles plain_obstacles g.obstacles)
      (each_append AllPlain (section doorhookcount p.hooks) _ (section_plain 5 _ doorhookcount p.hooks plain_hooks g.hooks) ((plain_last, tt), tt)))),
)

-- ---- right parts, written and read

module _ (p : LayoutParts) (g : GoodParts p) where
  form_grammar : grammar (form_text p) ≡ record { verdict = accepted; typed = form_typed p }
  unfolding grammar form_text
  form_grammar = ap (read_from 0 start) (written_read (form p) (form_plain p g)) ∙ form_lines p g

  form_sound : rules31to32 (form_text p) ≡ accepted
  unfolding form_text
  form_sound = written_sound (form p) (form_plain p g) (omega (arith, form_short p g))

  pub good_accepted : layout_verdict (form_text p) ≡ accepted
  good_accepted = verdict_sound (form_text p) (ap (λ (a : Answer). a.number) form_sound) ∙ ap (λ (r : Reading). r.verdict) form_grammar

  pub good_typed_again : layout_of (form_text p) ≡ form_typed p
  good_typed_again = layout_accepted (form_text p) (ap (λ (a : Answer). a.number) good_accepted) ∙ ap (λ (r : Reading). r.typed) form_grammar

  pub good_again : parts_of (form_text p) ≡ p
  unfolding parts_of parts_of_typed form_typed
  good_again = ap parts_of_typed good_typed_again ∙ rw (lines_again 2 _ p.rooms g.rooms, lines_again 3 _ p.tracks g.tracks, lines_again 4 _ p.obstacles g.obstacles, lines_again 5 _ p.hooks g.hooks)

  -- the form is never over 65,536 bytes: 40 is for an output that is too short alone
  pub short_40 : (room : ℕ) → rule40 (form_text p) room ≡ rule 40 (ltb room (length (form_text p))) 0
  unfolding rule40
  short_40 room = ap (λ t. rule 40 t 0) (rw (le-ltb 65536 (length (form_text p)) (omega (arith, form_short p g))) (or_no (ltb room (length (form_text p)))))
    where
      or_no : (t : Bool) → (t || false) ≡ t
      or_no true = refl
      or_no false = refl

-- ---- the theorems, for the parts of every text

-- the form's text is accepted ..
pub form_accepted : (s : List ℕ) → layout_verdict (form_text (parts_of s)) ≡ accepted
form_accepted s = good_accepted (parts_of s) (parts_good s)

-- .. and read as the same parts: names, signs, millionths and how many digits stood after the point
pub form_read : (s : List ℕ) → parts_of (form_text (parts_of s)) ≡ parts_of s
form_read s = good_again (parts_of s) (parts_good s)

-- a second rewriting changes no byte
pub form_twice : (s : List ℕ) → form_text (parts_of (form_text (parts_of s))) ≡ form_text (parts_of s)
form_twice s = ap form_text (form_read s)

pub form_within : (s : List ℕ) → length (form_text (parts_of s)) ≤ longest_form
form_within s = form_short (parts_of s) (parts_good s)
