-- The layout's refusals, those of the visibility, and then 40 or the form.
use Rattle.std.proofs.Common.{arith, [], length, ◌≡◌}
use Rattle.std.specs.declared.result.Result.TheVariants.{Err}
use Rattle.std.proofs.lemmas.Result.{err_from_is_err_and}
use Rattle.verdict.specs.Verdict.{refused}
use Rattle.verdict.specs.Refusals.{number_of}
use Rattle.verdict.proofs.Results.{here, refused_answer, refused_memory}
use Rattle.layout.specs.Starts.{told_layout}
use Rattle.layout.proofs.AnsweredLaws.{verdict_told}
use Rattle.rooms.proofs.RoomLaws.{rooms_kept}
use Rattle.sight.specs.Sight.{sight_verdict}
use Rattle.sight.proofs.AnswerLaws.{sight_told}
use Rattle.sightform.specs.Rewrite.{rewritten_sight, sight_rewrite_verdict}
use Rattle.sightform.proofs.AnswerLaws.{rows_sized, rewrite_by}
use Rattle.sightform.proofs.rewritten.Goals as goal

pub returns-in_err-r : goal.returns-in_err-r
unfolding sight_rewrite_verdict sight_verdict
returns-in_err-r c =
    let a = c.args in
    let r = c.in_err-r.field-0.0 in
    let p = err_from_is_err_and c.from_residual.result c.from_residual.ensures.1 in
    let e : refused (number_of r.refusal) r.place ≡ sight_rewrite_verdict a.layout.now a.vis.now (length a.out.now) = here r _ (here r _ (here r _ (verdict_told _ (Err r) c.in_err-r.ensures))) in
    let form = rewritten_sight a.layout.now a.vis.now in
    record { answer = rw (p.1, p.2) (refused_answer form a.out.now r e); memory = refused_memory form a.out.now r e }

pub returns-in_err-rows : goal.returns-in_err-rows
unfolding sight_rewrite_verdict
returns-in_err-rows c =
    let a = c.args in
    let r = c.in_err-rows.field-0.0 in
    let p = err_from_is_err_and c.from_residual-in_err-rows.result c.from_residual-in_err-rows.ensures.1 in
    let e : refused (number_of r.refusal) r.place ≡ sight_rewrite_verdict a.layout.now a.vis.now (length a.out.now) = here r _ (sight_told _ _ (Err r) c.in_err-rows.ensures) in
    let form = rewritten_sight a.layout.now a.vis.now in
    record { answer = rw (p.1, p.2) (refused_answer form a.out.now r e); memory = refused_memory form a.out.now r e }

pub write_form-requires-clause-small : goal.write_form-requires-clause-small
write_form-requires-clause-small c = (rows_sized _ _ _ c.in_ok-rows.ensures, omega arith)

pub write_form-requires-clause-kept : goal.write_form-requires-clause-kept
write_form-requires-clause-kept c = rooms_kept _ (told_layout c.in_ok-r.r) c.in_ok-r.ensures

pub returns : goal.returns
returns c =
    let h = rewrite_by c.args.layout.now c.args.vis.now _ c.in_ok-rows.ensures (told_layout c.in_ok-r.r) c.in_ok-r.ensures c.args.out.now _ _ [] (c.write_form.ensures.answer, c.write_form.ensures.memory) in
    record { answer = h.0; memory = h.1 }
