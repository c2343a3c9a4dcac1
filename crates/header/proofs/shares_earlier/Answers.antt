-- Whether one of the earlier tables shares a byte is what `any` tells.
use Rattle.std.proofs.Common.{rules, tests}
use Rattle.tables.specs.Tables.{table_at, span_of, shares, shares_earlier}
use Rattle.tables.specs.Header.{floor_tables}
use Rattle.verdict.proofs.Found.{any_is_any_under}
use Rattle.header.proofs.shares_earlier.Goals as goal

pub returns : goal.returns
unfolding shares_earlier
returns c = any_is_any_under (λ j. shares (span_of c.args.bytes.now (table_at floor_tables c.args.k)) (span_of c.args.bytes.now (table_at floor_tables j))) _ _ _ _ c.any.ensures.ran (λ x b q k. search (rules, tests))
