-- The verdict, and the counts where it accepts.
use Rattle.std.proofs.Common.{◌∙◌, ap, arith}
use Rattle.verdict.specs.Verdict.{refused}
use Rattle.verdict.specs.Refusals.{number_of}
use Rattle.verdict.specs.declared.Answer.{Answer}
use Rattle.verdict.proofs.Results.{accepts, number_positive}
use Rattle.tables.specs.Parts.{parts_of}
use Rattle.floor.specs.Reader.{answer_of, reader_answer}
use Rattle.floor.proofs.Answers.{on_refusal, walkable_is}
use Rattle.floor.proofs.Meaning.{accepted_of}
use Rattle.floor.proofs.read.Goals as goal

pub counted-requires : goal.counted-requires
counted-requires c = let a = accepted_of _ _ (accepts c.in-Ok.ensures.answer) in (a.header, walkable_is _ a)

pub returns-in-Ok-clause-answer : goal.returns-in-Ok-clause-answer
unfolding reader_answer
returns-in-Ok-clause-answer c = c.counted.ensures ∙ ap (λ (a : Answer). answer_of a (parts_of c.args.bytes.now)) c.in-Ok.ensures.answer

pub returns-in-Err-clause-answer : goal.returns-in-Err-clause-answer
unfolding reader_answer
returns-in-Err-clause-answer c =
    let r = c.in-Err.refused in
    let p = parts_of c.args.bytes.now in
    rw c.number.ensures (on_refusal (refused (number_of r.refusal) r.place) p (λ z. absurd (omega (arith, number_positive r.refusal, z)))
    ∙ ap (λ (a : Answer). answer_of a p) c.in-Err.ensures.answer)
