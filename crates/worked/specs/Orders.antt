-- M-107's examples: on a floor that the reader accepts, W4's triangle, edits of one field by two benches whose order counts, and two nudges
-- that no one nudge replaces. Definitions only.
use Rattle.std.specs.Prelude.{◌*◌, ◌≡◌, replicate, pos}
use Rattle.verdict.specs.Verdict.{refused}
use Rattle.record.specs.Record.{size}
use Rattle.laying.specs.Area.{area_floor}
use Rattle.journal.specs.Wish.{paint, link, nudge}
use Rattle.journal.specs.Step.{State, lent, refusal}
use Rattle.journal.specs.Calls.{edit, step}
use Rattle.journal.specs.Order.{InTurn, DifferentEitherWay}
use Rattle.journal.specs.SoundFloor.{AcceptedFloor}
use Rattle.worked.specs.Worked.{triangle}

-- the triangle and an empty journal with room for two records, one of each bench
abbrev pub lent_triangle : State
lent_triangle = lent triangle (replicate (2 * size) 0) 0

pub record OrderExamples : Type 0 where
  pub accepted : AcceptedFloor triangle
  -- face 0 painted with 5 and with 3, edge 0 linked to room 1 and to room 2: the later one is seen
  pub paints : DifferentEitherWay area_floor lent_triangle 0 (paint 0 5) 1 (paint 0 3)
  pub links : DifferentEitherWay area_floor lent_triangle 0 (link 0 (pos 1)) 1 (link 0 (pos 2))
  -- the first float nudged by 640 twice; a nudge by 1,280 is refused
  pub nudges : InTurn area_floor lent_triangle 0 (nudge 0 (pos 640)) 1 (nudge 0 (pos 640))
  pub sum : step area_floor (edit 1 (nudge 0 (pos 1280))) lent_triangle ≡ refusal (refused 24 0) lent_triangle
