-- The layout's refusals, those of the name, and then 40 or the form.
use Rattle.std.proofs.Common.{length, ◌≡◌}
use Rattle.std.specs.declared.result.Result.TheVariants.{Ok, Err}
use Rattle.std.proofs.lemmas.Result.{err_from_is_err_and}
use Rattle.verdict.specs.Verdict.{refused}
use Rattle.verdict.specs.Refusals.{number_of}
use Rattle.verdict.proofs.Results.{here, past, refused_answer, refused_memory}
use Rattle.layout.specs.Starts.{told_layout}
use Rattle.layout.proofs.AnsweredLaws.{answered, verdict_told}
use Rattle.layoutform.specs.Rewrite.{rename_verdict, renamed_form}
use Rattle.layoutform.proofs.AnswerLaws.{rename_name, rename_short, rename_by}
use Rattle.layoutform.proofs.renamed.Goals as goal

pub returns-in_err-r : goal.returns-in_err-r
unfolding rename_verdict
returns-in_err-r c =
    let a = c.args in
    let r = c.in_err-r.field-0.0 in
    let p = err_from_is_err_and c.from_residual.result c.from_residual.ensures.1 in
    let e : refused (number_of r.refusal) r.place ≡ rename_verdict a.text.now a.room a.name.now (length a.out.now) = here r _ (here r _ (verdict_told _ (Err r) c.in_err-r.ensures)) in
    let form = renamed_form a.text.now a.room a.name.now in
    record { answer = rw (p.1, p.2) (refused_answer form a.out.now r e); memory = refused_memory form a.out.now r e }

pub returns-in_err-name_verdict : goal.returns-in_err-name_verdict
unfolding rename_verdict
returns-in_err-name_verdict c =
    let a = c.args in
    let r = c.in_err-name_verdict.field-0.0 in
    let p = err_from_is_err_and c.from_residual-in_err-name_verdict.result c.from_residual-in_err-name_verdict.ensures.1 in
    let e : refused (number_of r.refusal) r.place ≡ rename_verdict a.text.now a.room a.name.now (length a.out.now) = here r _ (past (verdict_told _ (Ok c.in_ok-r.r) c.in_ok-r.ensures) c.in_err-name_verdict.ensures) in
    let form = renamed_form a.text.now a.room a.name.now in
    record { answer = rw (p.1, p.2) (refused_answer form a.out.now r e); memory = refused_memory form a.out.now r e }

pub write_form-requires-clause-held : goal.write_form-requires-clause-held
write_form-requires-clause-held c = ((answered _ (told_layout c.in_ok-r.r) c.in_ok-r.ensures).held, rename_name _ _ _ c.in_ok-name_verdict.ensures)

pub write_form-requires-clause-short : goal.write_form-requires-clause-short
write_form-requires-clause-short c = rename_short _ _ _ c.in_ok-name_verdict.ensures

pub returns : goal.returns
returns c =
    let h = rename_by _ _ _ c.in_ok-name_verdict.ensures _ _ c.args.out.now (verdict_told _ (Ok c.in_ok-r.r) c.in_ok-r.ensures) (c.write_form.ensures.answer, c.write_form.ensures.memory) in
    record { answer = h.0; memory = h.1 }
