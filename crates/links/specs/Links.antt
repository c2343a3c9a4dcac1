-- The link check: rule 42, and its refusals in order. Definitions only.
use Rattle.std.specs.Prelude.{ℕ, Bool, not, ◌&&◌, List, length, leb, eqb}
use Rattle.verdict.specs.Verdict.{rule_of_each, ◌then◌}
use Rattle.verdict.specs.declared.Answer.{Answer}
use Rattle.tables.specs.Parts.{none32, Parts, parts_of, transition}
use Rattle.floor.specs.Reader.{reader_verdict}
use Rattle.layout.specs.Layout.{layout_verdict}
use Rattle.rooms.specs.Rooms.{room_names}

-- the transition of edge entry i is not under so many rooms; -1 is under every number
unfoldable pub astray : Parts → ℕ → ℕ → Bool
astray p rooms i = not (eqb (transition p i) none32) && leb rooms (transition p i)

-- 42: a transition isn't under roomcount; place the lowest such entry
unfoldable pub rule42 : Parts → ℕ → Answer
rule42 p rooms = rule_of_each 42 p.edges (astray p rooms) (λ i. i)

-- the reader's refusals, the layout's, then 42. `room` is the work memory's length
unfoldable pub link_verdict : List ℕ → ℕ → List ℕ → Answer
link_verdict b room text = reader_verdict b room then layout_verdict text then rule42 (parts_of b) (length (room_names text))
