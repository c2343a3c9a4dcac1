-- The memory cleared, no vertex is mapped. Assumes nothing.
use Rattle.mates.proofs.Map.{past_cleared, mapped_none}
use Rattle.mates.proofs.map_vertices.Goals as goal

pub loop-v-init : goal.loop-v-init
loop-v-init c = record { mapped = mapped_none _ _ _ c.clear_to.ensures; past = past_cleared _ _ c.requires.2 c.clear_to.ensures }
