-- The layout's refusals, and then 40 or the form.
use Rattle.std.proofs.Common.{arith, [], length, ◌≡◌}
use Rattle.std.specs.declared.result.Result.TheVariants.{Ok, Err}
use Rattle.std.proofs.lemmas.Result.{err_from_is_err_and}
use Rattle.verdict.specs.Verdict.{refused}
use Rattle.verdict.specs.Refusals.{number_of}
use Rattle.verdict.proofs.Results.{here, refused_answer, refused_memory}
use Rattle.layout.specs.Starts.{told_layout}
use Rattle.layout.proofs.AnsweredLaws.{answered, verdict_told}
use Rattle.layoutform.specs.Form.{parts_of, form_text}
use Rattle.layoutform.specs.Rewrite.{rewrite_verdict}
use Rattle.layoutform.proofs.AnswerLaws.{own_short, rewrite_by}
use Rattle.layoutform.proofs.rewritten.Goals as goal

pub returns-in_err-r : goal.returns-in_err-r
unfolding rewrite_verdict
returns-in_err-r c =
    let a = c.args in
    let r = c.in_err-r.field-0.0 in
    let p = err_from_is_err_and c.from_residual.result c.from_residual.ensures.1 in
    let e : refused (number_of r.refusal) r.place ≡ rewrite_verdict a.text.now (length a.out.now) = here r _ (verdict_told _ (Err r) c.in_err-r.ensures) in
    record { answer = rw (p.1, p.2) (refused_answer (form_text (parts_of a.text.now)) a.out.now r e); memory = refused_memory (form_text (parts_of a.text.now)) a.out.now r e }

pub write_form-requires-clause-held : goal.write_form-requires-clause-held
write_form-requires-clause-held c = ((answered _ (told_layout c.in_ok-r.r) c.in_ok-r.ensures).held, omega arith)

pub write_form-requires-clause-short : goal.write_form-requires-clause-short
write_form-requires-clause-short c = own_short _ []

pub returns : goal.returns
returns c =
    let h = rewrite_by c.args.text.now [] _ _ c.args.out.now (verdict_told _ (Ok c.in_ok-r.r) c.in_ok-r.ensures) (c.write_form.ensures.answer, c.write_form.ensures.memory) in
    record { answer = h.0; memory = h.1 }
