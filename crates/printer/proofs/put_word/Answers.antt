use Rattle.std.proofs.Common.{refl}
use Rattle.printer.proofs.WriteLaws.{wrote_none, wrote_more}
use Rattle.printer.proofs.put_word.Goals as goal

pub loop-b-init : goal.loop-b-init
loop-b-init c = wrote_none _ _

pub loop-b-preserved : goal.loop-b-preserved
loop-b-preserved c = wrote_more _ _ c.loop-b.invariant c.loop-b-test.true c.put_byte-e.ensures refl
