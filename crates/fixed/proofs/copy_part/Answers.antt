-- A byte more is copied.
use Rattle.std.proofs.Common.{refl, arith}
use Rattle.wire.specs.Bytes.{put}
use Rattle.fixed.proofs.Parted.{copied_more}
use Rattle.fixed.proofs.copy_part.Goals as goal

pub loop-j-init : goal.loop-j-init
unfolding put
loop-j-init c = refl

pub loop-j-preserved : goal.loop-j-preserved
loop-j-preserved c = copied_more c.args.dst.now c.args.at c.args.src.now c.args.from c.loop-j.j _ c.loop-j.invariant (omega (arith, c.requires.0 (omega arith)))
