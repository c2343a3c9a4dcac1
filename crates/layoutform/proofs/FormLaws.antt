-- The fixed form is spelled as the paper tells, so it is accepted, with the entries in order. Assumes nothing.
use mathlib.Core.Path.{◌≡◌, refl, ap, ◌∙◌}
use mathlib.Core.List.{List, [], ◌∷◌, ◌++◌, map}
use mathlib.Core.Logic.{inr}
use Prim.Native.Nat.{ℕ, ◌≤◌}
use native.Mathlib.Omega.{arith}
use lib.ListN.{length, length-map}
use Rattle.verdict.specs.Verdict.{accepted}
use Rattle.number.specs.Number.{plain}
use Rattle.number.proofs.CountLaws.{plain_value, plain_count}
use Rattle.text.specs.Reading.{Word, Line, spoken}
use Rattle.layout.specs.Grammar.{Typed, start, read_from, roomcount, trackcount, obstaclecount, doorhookcount, donelayout}
use Rattle.layoutform.specs.Form.{Entry, LayoutParts, entry_line, section, form}
use Rattle.layout.specs.Plain.{IsEntry, Section, Spelled}
use Rattle.verdict.proofs.Each.{Each, each_at, each_map}
use Rattle.layout.proofs.PlainLaws.{apart_told, doors_told, spelled_accepts}
use Rattle.layoutform.proofs.PartLaws.{part_names, GoodEntry, GoodParts}
use Rattle.layoutform.proofs.LineLaws.{line_names, line_doors, line_good}

-- the entries of a form as they are written
unfoldable pub form_typed : LayoutParts → Typed
form_typed p = record {
  rooms = map entry_line p.rooms;
  tracks = map entry_line p.tracks;
  obstacles = map entry_line p.obstacles;
  hooks = map entry_line p.hooks;
}

-- ---- no line of a form is blank

spoken_entries : (es : List Entry) (ls : List Line) → spoken (map entry_line es ++ ls) ≡ map entry_line es ++ spoken ls
unfolding spoken entry_line
spoken_entries [] ls = refl
spoken_entries (e ∷ es) ls = ap (λ (x : List Line). entry_line e ∷ x) (spoken_entries es ls)

spoken_section : (key : Word) (es : List Entry) (ls : List Line) → spoken (section key es ++ ls) ≡ section key es ++ spoken ls
unfolding spoken section
spoken_section key es ls = ap (λ (x : List Line). (key ∷ plain (length es) ∷ []) ∷ x) (spoken_entries es ls)

spoken_last : spoken ((donelayout ∷ []) ∷ []) ≡ (donelayout ∷ []) ∷ []
unfolding spoken
spoken_last = refl

-- ---- a section of the form

section_spelled : (k : ℕ) (key : Word) (rooms es : List Entry) → length es ≤ 64 → Each (GoodEntry k (part_names rooms)) es → Section (IsEntry k (map entry_line rooms)) key (section key es) (map entry_line es)
unfolding section
section_spelled k key rooms es few g = record {
  count = plain (length es);
  spelled = refl;
  right = plain_count (length es) few;
  told = plain_value (length es) (omega arith) ∙ rw (length-map es entry_line);
  entry = each_at (IsEntry k (map entry_line rooms)) [] (map entry_line es) (each_map (GoodEntry k (part_names rooms)) (IsEntry k (map entry_line rooms)) entry_line (line_good k rooms) es g);
}

pub form_spelled : (p : LayoutParts) → GoodParts p → Spelled (form p) (form_typed p)
unfolding form form_typed spoken
form_spelled p g =
    let last = (donelayout ∷ []) ∷ [] in
    let hooks = section doorhookcount p.hooks ++ last in
    let obstacles = section obstaclecount p.obstacles ++ hooks in
    let tracks = section trackcount p.tracks ++ obstacles in
    record {
      rooms = section roomcount p.rooms;
      tracks = section trackcount p.tracks;
      obstacles = section obstaclecount p.obstacles;
      hooks = section doorhookcount p.hooks;
      order = rw (spoken_section roomcount p.rooms tracks, spoken_section trackcount p.tracks obstacles, spoken_section obstaclecount p.obstacles hooks, spoken_section doorhookcount p.hooks last, spoken_last);
      has_rooms = section_spelled 2 roomcount p.rooms p.rooms g.few_rooms g.rooms;
      has_tracks = inr (section_spelled 3 trackcount p.rooms p.tracks g.few_tracks g.tracks);
      has_obstacles = inr (section_spelled 4 obstaclecount p.rooms p.obstacles g.few_obstacles g.obstacles);
      has_hooks = inr (section_spelled 5 doorhookcount p.rooms p.hooks g.few_hooks g.hooks);
      apart = apart_told (map entry_line p.rooms) (rw (line_names p.rooms) g.apart);
      doors = doors_told (map entry_line p.hooks) (rw (line_doors (part_names p.rooms) p.hooks g.hooks) g.doors);
    }

-- the law: the form's lines are accepted, with its entries
pub form_lines : (p : LayoutParts) → GoodParts p → read_from 0 start (form p) ≡ record { verdict = accepted; typed = form_typed p }
form_lines p g = spelled_accepts (form p) (form_typed p) (form_spelled p g) 0
