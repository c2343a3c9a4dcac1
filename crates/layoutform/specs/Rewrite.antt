-- Rewriting a layout, with a room number and a typed name or with neither: the verdicts and what is written. Definitions only.
use Rattle.std.specs.Prelude.{cond, List, [], ◌∷◌, map, ℕ, zero, suc, get_or}
use Rattle.verdict.specs.declared.Answer.{Answer}
use Rattle.verdict.specs.Verdict.{◌then◌}
use Rattle.letters.specs.Case.{lowered}
use Rattle.names.specs.Name.{same_name}
use Rattle.text.specs.Reading.{Word}
use Rattle.text.specs.Written.{rule40}
use Rattle.layout.specs.Layout.{layout_verdict}
use Rattle.rooms.specs.Rooms.{name_verdict}
use Rattle.layoutform.specs.Form.{Entry, LayoutParts, parts_of, form_text}

-- an entry with another name
unfoldable pub named : Word → Entry → Entry
named w e = record { name = w; door = e.door; numbers = e.numbers }

-- entry i with another name
unfoldable pub renamed_at : List Entry → ℕ → Word → List Entry
renamed_at [] i w = []
renamed_at (e ∷ es) zero w = named w e ∷ es
renamed_at (e ∷ es) (suc i) w = e ∷ renamed_at es i w

-- the name of entry i, none past the last
unfoldable pub name_in : List Entry → ℕ → Word
name_in es i = get_or (map (λ (e : Entry). e.name) es) i []

-- an entry with the new name where it has the old one
unfoldable pub renamed_from : Word → Word → Entry → Entry
renamed_from old w e = named (cond (same_name e.name old) w e.name) e

-- the parts with the typed name, in lower case, for room i, there and in its hooks
unfoldable pub renamed : LayoutParts → ℕ → Word → LayoutParts
renamed p i w = record {
  rooms = renamed_at p.rooms i (lowered w);
  tracks = p.tracks;
  obstacles = p.obstacles;
  hooks = map (renamed_from (name_in p.rooms i) (lowered w)) p.hooks;
}

-- the fixed form of a text's parts with the typed name for room i
abbrev pub renamed_form : List ℕ → ℕ → Word → List ℕ
renamed_form s i w = form_text (renamed (parts_of s) i w)

-- the text's refusals, then 40
unfoldable pub rewrite_verdict : List ℕ → ℕ → Answer
rewrite_verdict s room = layout_verdict s then rule40 (form_text (parts_of s)) room

-- the text's refusals, then those of the name, then 40
unfoldable pub rename_verdict : List ℕ → ℕ → Word → ℕ → Answer
rename_verdict s i w room = layout_verdict s then name_verdict s i w then rule40 (renamed_form s i w) room
