-- The rules refuse, or 40 decides.
use Rattle.std.proofs.Common.{◌∙◌, refl, ap}
use Rattle.verdict.specs.Output.{form_memory}
use Rattle.verdict.specs.declared.Answer.{Answer}
use Rattle.seams.specs.Mend.{mended_form, mended_list, answer_by}
use Rattle.mend.proofs.Outputs.{rules_refuse, room_decides}
use Rattle.mend.proofs.seams_mended.Goals as goal

pub write_both-requires : goal.write_both-requires
write_both-requires c = c.in-Ok.ensures.ready refl

pub returns-in-Ok : goal.returns-in-Ok
returns-in-Ok c =
    let a = c.args in
    let x = room_decides a.bytes.now a.out.now a.list.now c.in-Ok.ensures.answer in
    let told = c.write_both.ensures in
    record {
      answer = told.answer ∙ ap (λ (v : Answer). answer_by v a.bytes.now) x;
      memory = told.memory ∙ c.in-Ok.ensures.memory;
      form = told.form ∙ ap (λ (v : Answer). form_memory v (mended_form a.bytes.now) a.out.now) x;
      list = told.list ∙ ap (λ (v : Answer). form_memory v (mended_list a.bytes.now) a.list.now) x;
    }

pub returns-in-Err : goal.returns-in-Err
returns-in-Err c =
    let a = c.args in
    let h = rules_refuse a.bytes.now a.out.now a.list.now c.in-Err.r c.in-Err.ensures.answer in
    record { answer = c.refused_mending.ensures ∙ h.0; memory = c.in-Err.ensures.memory; form = h.1.0; list = h.1.1 }
