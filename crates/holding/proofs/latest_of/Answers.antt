-- The first that passes from the last one down is the highest. Assumes nothing.
use Rattle.std.proofs.Common.{rules, tests}
use Rattle.holding.specs.Held.{stored, is_of, held, latest, latest_held}
use Rattle.holding.proofs.Chains.{find_is_last}
use Rattle.holding.proofs.latest_of.Goals as goal

pub returns : goal.returns
unfolding latest_held held latest
returns c = find_is_last (λ i. is_of c.args.bench (stored c.args.journal.now i)) _ _ _ _ _ c.rev.ensures.source c.find.ensures.ran (λ x b q k. search (rules, tests))
