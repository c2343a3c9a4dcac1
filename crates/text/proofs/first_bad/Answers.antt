use Rattle.std.proofs.Common.{rules, tests}
use Rattle.text.specs.Sound.{bad_at}
use Rattle.verdict.proofs.Found.{find_is_first}
use Rattle.text.proofs.first_bad.Goals as goal

pub returns : goal.returns
returns c = find_is_first (bad_at c.args.s.now) _ _ _ _ c.find.ensures.ran (λ x b q k. search (rules, tests))
