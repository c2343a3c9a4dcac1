-- A face's number is small.
use Rattle.std.proofs.Common.{arith}
use Rattle.tables.proofs.Reading.{sized_of}
use Rattle.verdict.proofs.Results.{first_under}
use Rattle.mesh.proofs.mesh_verdict.Goals as goal

pub refuse_at-requires : goal.refuse_at-requires
refuse_at-requires c = first_under _ _ _ _ c.first_cornered.ensures (omega (arith, (sized_of _ c.requires).faces))

pub refuse_at-requires-2 : goal.refuse_at-requires-2
refuse_at-requires-2 c = first_under _ _ _ _ c.first_strange.ensures (omega (arith, (sized_of _ c.requires).faces))

pub refuse_at-requires-3 : goal.refuse_at-requires-3
refuse_at-requires-3 c = first_under _ _ _ _ c.first_misplaced.ensures (omega (arith, (sized_of _ c.requires).faces))
