-- An edge entry's number is small; where 17 is met every edge entry names a half-edge.
use Rattle.std.proofs.Common.{arith, sym, ap}
use Rattle.tables.proofs.Reading.{sized_of}
use Rattle.verdict.proofs.Results.{first_under}
use Rattle.border.proofs.Edges.{edges_in}
use Rattle.border.proofs.loops_verdict.Goals as goal

pub refuse_at-requires : goal.refuse_at-requires
refuse_at-requires c = first_under _ _ _ _ c.first_wrong_transition.ensures (omega (arith, (sized_of _ c.requires.right_header.0).edges))

pub perimeters_verdict-requires : goal.perimeters_verdict-requires
perimeters_verdict-requires c = (c.requires.right_header.0, edges_in _ (ap (λ a. a.number) (sym c.in_ok-edges_verdict.ensures.answer)))
