use Rattle.std.proofs.Common.{◌∙◌, sym}
use Rattle.letters.specs.Case.{lowered}
use Rattle.letters.proofs.CaseLaws.{length_lowered, lowered_at}
use Rattle.printer.proofs.WriteLaws.{wrote_none, wrote_more, wrote_all}
use Rattle.printer.proofs.put_lowered.Goals as goal

pub loop-b-init : goal.loop-b-init
loop-b-init c = wrote_none _ _

pub loop-b-preserved : goal.loop-b-preserved
loop-b-preserved c =
    let w = c.args.w.now in
    wrote_more (lowered w) c.loop-b.b-index c.loop-b.invariant (rw (length_lowered w) c.loop-b-test.true) c.put_byte-e.ensures
    (c.low.ensures ∙ sym (lowered_at w c.loop-b.b-index))

pub returns : goal.returns
returns c =
    let w = c.args.w.now in
    wrote_all (lowered w) c.loop-b.b-index c.loop-b.invariant (rw (length_lowered w) c.loop-b-test.false)
