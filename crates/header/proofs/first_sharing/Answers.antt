-- The first that shares a byte is what `find` finds.
use Rattle.std.proofs.Common.{rules, tests}
use Rattle.tables.specs.Tables.{shares_earlier}
use Rattle.tables.specs.Header.{floor_tables}
use Rattle.verdict.proofs.Found.{find_is_first}
use Rattle.header.proofs.first_sharing.Goals as goal

pub returns : goal.returns
returns c = find_is_first (shares_earlier floor_tables c.args.bytes.now) _ _ _ _ c.find.ensures.ran (λ x b q k. search (rules, tests))
