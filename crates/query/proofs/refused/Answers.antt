-- Nothing but the number and the place.
use Rattle.verdict.specs.Verdict.{refused}
use Rattle.verdict.specs.Refusals.{number_of}
use Rattle.verdict.proofs.Results.{number_positive}
use Rattle.query.proofs.Replies.{on_refusal}
use Rattle.query.proofs.refused.Goals as goal

pub returns : goal.returns
returns c = rw c.number.ensures (on_refusal (refused (number_of c.args.r.refusal) c.args.r.place) (number_positive c.args.r.refusal) 0 0 0)
