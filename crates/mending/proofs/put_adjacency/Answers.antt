-- Half-edge after half-edge. Assumes nothing.
use Rattle.std.proofs.Common.{arith}
use Rattle.tables.specs.Parts.{parts_of}
use Rattle.corners.specs.Corners.{recornered}
use Rattle.corners.proofs.Corners.{as_many}
use Rattle.seams.specs.Mended.{adjacency_of}
use Rattle.mending.proofs.Puts.{none_put, all_put}
use Rattle.mending.proofs.Tables.{adjacency_long, adjacency_more}
use Rattle.mending.proofs.put_adjacency.Goals as goal

pub loop-h-init : goal.loop-h-init
loop-h-init c = none_put _ (adjacency_of (recornered (parts_of c.args.bytes.now))) _

pub put_u32-requires : goal.put_u32-requires
put_u32-requires c = let p = parts_of c.args.bytes.now in omega (arith, adjacency_long (recornered p), as_many p, c.halves_of-n.ensures.0)

pub loop-h-preserved : goal.loop-h-preserved
loop-h-preserved c =
    let p = parts_of c.args.bytes.now in
    adjacency_more (recornered p) _ _ c.loop-h.h _ (omega (arith, as_many p, c.halves_of-n.ensures.0)) c.pairing_of.ensures c.loop-h.invariant c.put_u32.ensures

pub returns-clause-next : goal.returns-clause-next
returns-clause-next c = let p = parts_of c.args.bytes.now in omega (arith, adjacency_long (recornered p), as_many p, c.halves_of-n.ensures.0)

pub returns-clause-table : goal.returns-clause-table
returns-clause-table c =
    let p = parts_of c.args.bytes.now in
    all_put _ (adjacency_of (recornered p)) _ c.loop-h.h (omega (arith, adjacency_long (recornered p), as_many p, c.halves_of-n.ensures.0)) c.loop-h.invariant
