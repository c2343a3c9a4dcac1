-- 40 where the output is shorter than the form, and the form where it is not.
use Rattle.std.proofs.Common.{◌∙◌, ◌≡◌, arith, length}
use Rattle.verdict.specs.Verdict.{refused, accepted}
use Rattle.verdict.specs.declared.Refused.{Refused}
use Rattle.verdict.specs.declared.Refusal.TheVariants.{OutputShort}
use Rattle.verdict.proofs.Results.{accepts, past, broken_less, met_less, refused_answer, refused_memory, written_answer, written_memory}
use Rattle.floor.specs.Rewrite.{fixed_form, rewrite_verdict, rewrite_answer, rewrite_memory}
use Rattle.floor.proofs.Meaning.{accepted_of}
use Rattle.floor.proofs.rewritten.Goals as goal

pub form_length-length-requires : goal.form_length-length-requires
form_length-length-requires c = (accepted_of _ _ (accepts c.in_ok-read_verdict.ensures.answer)).header

pub write_form-requires : goal.write_form-requires
write_form-requires c = ((accepted_of _ _ (accepts c.in_ok-read_verdict.ensures.answer)).header, omega arith)

abbrev short : Refused
short = record { refusal = OutputShort; place = 0 }

pub returns-then-out-length : goal.returns-then-out-length
unfolding rewrite_answer rewrite_memory rewrite_verdict fixed_form
returns-then-out-length c =
    let a = c.args in
    let e : refused 40 0 ≡ rewrite_verdict a.bytes.now (length a.work.now) (length a.out.now) = past c.in_ok-read_verdict.ensures.answer (broken_less 40 _ _ 0 (omega arith)) in
    record { answer = refused_answer (fixed_form a.bytes.now) a.out.now short e; memory = c.read_verdict.ensures.memory; output = refused_memory (fixed_form a.bytes.now) a.out.now short e }

pub returns : goal.returns
unfolding rewrite_answer rewrite_memory rewrite_verdict fixed_form
returns c =
    let a = c.args in
    let e : accepted ≡ rewrite_verdict a.bytes.now (length a.work.now) (length a.out.now) = past c.in_ok-read_verdict.ensures.answer (met_less 40 _ _ 0 (omega arith)) in
    record {
      answer = written_answer (fixed_form a.bytes.now) a.out.now _ e c.form_length-length.ensures.0;
      memory = c.read_verdict.ensures.memory;
      output = c.write_form.ensures ∙ written_memory (fixed_form a.bytes.now) a.out.now e;
    }
