-- What rules 1 to 14 leave for the half-edges.
use Rattle.std.proofs.Common.{arith}
use Rattle.verdict.proofs.Results.{accepts}
use Rattle.floor.proofs.Meaning.{early_met}
use Rattle.floor.proofs.rules_1_to_15.Goals as goal

pub runs_verdict-requires : goal.runs_verdict-requires
runs_verdict-requires c = ((early_met _ (accepts c.in_ok-rules_1_to_14.ensures.answer)).header, omega arith)
