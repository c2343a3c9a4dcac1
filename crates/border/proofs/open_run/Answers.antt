-- What `any` answers, where each look answers the test.
use Rattle.std.proofs.Common.{rules, tests}
use Rattle.tables.specs.Parts.{parts_of}
use Rattle.border.specs.Loops.{open_at, open_run}
use Rattle.std.proofs.Common.{◌+◌}
use Rattle.verdict.proofs.Found.{any_is_any_under}
use Rattle.border.proofs.open_run.Goals as goal

pub returns : goal.returns
unfolding open_run
returns c = any_is_any_under (λ k. open_at (parts_of c.args.bytes.now) c.args.s c.args.t (c.args.s + k)) _ _ _ _ c.any.ensures.ran (λ x b q k. search (rules, tests))
