-- A dry run tells whether the form fits; then it goes to the whole output, behind what the dry run left of its empty start.
use Rattle.std.proofs.Common.{arith, refl, ◌++◌}
use Rattle.printer.specs.Write.{Wrote}
use Rattle.printer.proofs.FitLaws.{too_short, long_enough}
use Rattle.layoutform.specs.Rewrite.{renamed_form}
use Rattle.layoutform.proofs.print.write_form.Goals as goal

pub returns-then-out-n : goal.returns-then-out-n
returns-then-out-n c =
    let h = too_short _ c.args.out.now _ _ c.put_form-n.ensures c.if-out-n.true _ refl in
    record { answer = h.0; memory = h.1 }

pub returns : goal.returns
returns c =
    let a = c.args in
    let written : Wrote (c.put_form-n.new.out ++ a.out.now) c.put_form-m.new.out 0 c.put_form-m.result (renamed_form a.s.now a.i a.name.now) = c.put_form-m.ensures in
    let h = long_enough _ a.out.now _ _ c.put_form-n.ensures _ _ (omega (arith, c.put_form-n.ensures.next, c.requires.short)) c.if-out-n.false written in
    record { answer = h.0; memory = h.1 }
