-- 20, then the rules; the work memory is cleared; then 40 or the form.
use Rattle.std.proofs.Common.{refl, arith}
use Rattle.std.proofs.lemmas.Result.{err_from_is_err_and}
use Rattle.verdict.specs.Verdict.{refused, accepted}
use Rattle.verdict.specs.Refusals.{number_of, told_form}
use Rattle.verdict.proofs.Results.{accepts, number_positive}
use Rattle.plant.proofs.Order.{bare_right}
use Rattle.plant.proofs.Answers.{little_memory, rule_refuses, room_decides}
use Rattle.plant.proofs.written.Goals as goal

pub returns-then-work-lt-WORK_SIZE : goal.returns-then-work-lt-WORK_SIZE
returns-then-work-lt-WORK_SIZE c =
    let h = little_memory c.args.bytes.now c.args.work.now c.args.out.now (omega arith) _ refl in
    record { answer = h.0; memory = h.1.0; output = h.1.1 }

pub returns-in_err-so : goal.returns-in_err-so
returns-in_err-so c =
    let r = c.in_err-so.field-0.0 in
    let h = rule_refuses c.args.bytes.now c.args.work.now c.args.out.now (omega arith) _ _ c.bare_verdict-so.ensures.memory c.clear_to.ensures
    (refused (number_of r.refusal) r.place) c.in_err-so.ensures.answer (λ z. absurd (omega (arith, number_positive r.refusal, z))) _ refl in
    let p = err_from_is_err_and c.from_residual.result c.from_residual.ensures.1 in
    record { answer = rw (p.1, p.2) h.0; memory = h.1.0; output = h.1.1 }

pub write_out-requires : goal.write_out-requires
write_out-requires c = bare_right _ (accepts c.in_ok-so.ensures.answer)

pub returns : goal.returns
returns c =
    let h = room_decides c.args.bytes.now c.args.work.now c.args.out.now (omega arith) _ _ c.bare_verdict-so.ensures.memory c.clear_to.ensures
    accepted c.in_ok-so.ensures.answer refl (told_form c.write_out.result) _ (c.write_out.ensures.answer, c.write_out.ensures.output) in
    record { answer = h.0; memory = h.1.0; output = h.1.1 }
