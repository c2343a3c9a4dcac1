-- Word after word.
use Rattle.std.proofs.Common.{refl, arith}
use Rattle.text.specs.Scan.{words}
use Rattle.layoutform.proofs.PrintLaws.{spaced_end, numbers_start, numbers_more, numbers_done}
use Rattle.layoutform.proofs.print.put_numbers.Goals as goal

pub loop-i-init : goal.loop-i-init
loop-i-init c = (omega arith, numbers_start c.args.k (words c.args.l.now) _ _ _ refl)

pub put_spaced-e-requires : goal.put_spaced-e-requires
put_spaced-e-requires c = omega arith

pub loop-i-preserved : goal.loop-i-preserved
loop-i-preserved c =
    (omega (arith, spaced_end _ c.put_spaced-e.ensures), numbers_more c.args.k (words c.args.l.now) c.loop-i.i (omega arith) (omega arith) c.loop-i.invariant.1 c.put_spaced-e.ensures)

pub returns : goal.returns
returns c = numbers_done c.args.k (words c.args.l.now) c.loop-i.i (omega arith) c.loop-i.invariant.1
