-- Whether a byte differs is what `any` tells.
use Rattle.std.proofs.Common.{rules, tests}
use Rattle.tables.specs.Header.{magic, differs, starts_wrong}
use Rattle.verdict.proofs.Found.{any_is_any_under}
use Rattle.header.proofs.starts_wrong.Goals as goal

pub returns : goal.returns
unfolding starts_wrong differs
returns c = any_is_any_under (differs magic c.args.bytes.now) _ _ _ _ c.any.ensures.ran (λ x b q k. search (rules, tests))
