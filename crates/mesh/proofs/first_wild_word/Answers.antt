-- What `find` answers, where each look answers the test.
use Rattle.std.proofs.Common.{rules, tests}
use Rattle.mesh.specs.Floats.{wild_from}
use Rattle.verdict.proofs.Found.{find_is_first}
use Rattle.mesh.proofs.first_wild_word.Goals as goal

pub returns : goal.returns
unfolding wild_from
returns c = find_is_first (wild_from c.args.bytes.now c.args.at) _ _ _ _ c.find.ensures.ran (λ x b q k. search (rules, tests))
