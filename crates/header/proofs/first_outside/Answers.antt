-- The first that lies outside is what `find` finds.
use Rattle.std.proofs.Common.{rules, tests}
use Rattle.tables.specs.Tables.{outside_at}
use Rattle.tables.specs.Header.{floor_tables}
use Rattle.verdict.proofs.Found.{find_is_first}
use Rattle.header.proofs.first_outside.Goals as goal

pub returns : goal.returns
returns c = find_is_first (outside_at 136 floor_tables c.args.bytes.now) _ _ _ _ c.find.ensures.ran (λ x b q k. search (rules, tests))
