-- A half-edge's number is small.
use Rattle.std.proofs.Common.{arith}
use Rattle.verdict.proofs.Results.{first_under}
use Rattle.pairs.proofs.Halves.{few_walkable}
use Rattle.pairs.proofs.runs_verdict.Goals as goal

pub refuse_at-requires : goal.refuse_at-requires
refuse_at-requires c = first_under _ _ _ _ c.first_repeat-repeat.ensures.answer (omega (arith, few_walkable _ c.requires.0))
