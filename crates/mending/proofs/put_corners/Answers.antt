-- Corner after corner. Assumes nothing.
use Rattle.std.proofs.Common.{arith}
use Rattle.tables.specs.Parts.{parts_of}
use Rattle.tables.proofs.Reading.{sized_of}
use Rattle.corners.specs.Corners.{mended_corners}
use Rattle.mending.proofs.Puts.{none_put, all_put}
use Rattle.mending.proofs.Tables.{corners_long, corner_more}
use Rattle.mending.proofs.put_corners.Goals as goal

pub loop-j-init : goal.loop-j-init
loop-j-init c = none_put _ (mended_corners (parts_of c.args.bytes.now)) _

pub put_u32-requires : goal.put_u32-requires
put_u32-requires c = omega (arith, corners_long (parts_of c.args.bytes.now) (sized_of _ c.requires.0.right), c.count_of-n.ensures.0)

pub loop-j-preserved : goal.loop-j-preserved
loop-j-preserved c =
    corner_more (parts_of c.args.bytes.now) (sized_of _ c.requires.0.right) _ _ c.loop-j.j _ (omega (arith, c.count_of-n.ensures.0)) c.corner_at.ensures c.loop-j.invariant c.put_u32.ensures

pub returns-clause-next : goal.returns-clause-next
returns-clause-next c = omega (arith, corners_long (parts_of c.args.bytes.now) (sized_of _ c.requires.0.right), c.count_of-n.ensures.0)

pub returns-clause-table : goal.returns-clause-table
returns-clause-table c =
    let p = parts_of c.args.bytes.now in
    all_put _ (mended_corners p) _ c.loop-j.j (omega (arith, corners_long p (sized_of _ c.requires.0.right), c.count_of-n.ensures.0)) c.loop-j.invariant
