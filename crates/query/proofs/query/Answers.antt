-- The reader's refusals, then the rest.
use Rattle.std.proofs.Common.{◌∙◌}
use Rattle.verdict.proofs.Results.{accepts, number_positive}
use Rattle.floor.proofs.Meaning.{accepted_of}
use Rattle.query.proofs.Reaches.{handed}
use Rattle.query.proofs.Replies.{reader_refuses, reader_accepts}
use Rattle.query.proofs.query.Goals as goal

pub asked-requires : goal.asked-requires
asked-requires c = accepted_of _ _ (accepts c.in-Ok.ensures.answer)

pub returns-in-Ok-clause-answer : goal.returns-in-Ok-clause-answer
returns-in-Ok-clause-answer c =
    let x = handed _ c.ranges.x _ c.widened.ensures in
    let y = handed _ c.ranges.y _ c.widened-in-Ok.ensures in
    rw (x, y) at c.asked.ensures ∙ reader_accepts _ _ c.args.x c.args.y (accepts c.in-Ok.ensures.answer)

pub returns-in-Err-clause-answer : goal.returns-in-Err-clause-answer
returns-in-Err-clause-answer c = c.refused.ensures ∙ reader_refuses _ _ _ _ _ (number_positive c.in-Err.r.refusal) c.in-Err.ensures.answer
