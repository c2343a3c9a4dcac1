-- What `find` answers, where each look answers the test.
use Rattle.std.proofs.Common.{rules, tests}
use Rattle.tables.specs.Parts.{parts_of}
use Rattle.mesh.specs.Floats.{wild_head}
use Rattle.verdict.proofs.Found.{find_is_first}
use Rattle.mesh.proofs.first_wild_head.Goals as goal

pub returns : goal.returns
returns c = find_is_first (wild_head (parts_of c.args.bytes.now)) _ _ _ _ c.find.ensures.ran (λ x b q k. search (rules, tests))
