-- A dry run tells whether the form is too long or does not fit; then it goes to the whole output.
use Rattle.std.proofs.Common.{refl}
use Rattle.printer.proofs.FitLaws.{too_long, too_short, long_enough}
use Rattle.sightform.proofs.print.write_form.Goals.{then-m-gt65536-via-then-m-gt65536, then-m-gt65536-via-else-m-gt65536+then-out-m}
use Rattle.sightform.proofs.print.write_form.Goals as goal

pub returns-then-m-gt65536-clause-answer : goal.returns-then-m-gt65536-clause-answer
returns-then-m-gt65536-clause-answer c =
    elim c.then-m-gt65536.branch [
      | then-m-gt65536-via-then-m-gt65536 w ↦ (too_long _ c.args.out.now _ _ c.put_form-m.ensures w.if-m-gt65536.true _ refl).0
      | then-m-gt65536-via-else-m-gt65536+then-out-m w ↦ (too_short _ c.args.out.now _ _ c.put_form-m.ensures w.if-out-m.true _ refl).0
    ]

pub returns-then-m-gt65536-clause-memory : goal.returns-then-m-gt65536-clause-memory
returns-then-m-gt65536-clause-memory c =
    elim c.then-m-gt65536.branch [
      | then-m-gt65536-via-then-m-gt65536 w ↦ (too_long _ c.args.out.now _ _ c.put_form-m.ensures w.if-m-gt65536.true _ refl).1
      | then-m-gt65536-via-else-m-gt65536+then-out-m w ↦ (too_short _ c.args.out.now _ _ c.put_form-m.ensures w.if-out-m.true _ refl).1
    ]

pub returns : goal.returns
returns c =
    let h = long_enough _ c.args.out.now _ _ c.put_form-m.ensures _ _ c.if-m-gt65536.false c.if-out-m.false c.put_form-length.ensures in
    record { answer = h.0; memory = h.1 }
