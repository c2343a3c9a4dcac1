-- What `any` answers, where each look answers the test.
use Rattle.std.proofs.Common.{rules, tests, ap, ◌∙◌, ℕ}
use Rattle.tables.specs.Parts.{parts_of}
use Rattle.border.specs.Memory.{unmarked}
use Rattle.verdict.specs.Lowest.{any_under}
use Rattle.verdict.proofs.Found.{any_is_any_under}
use Rattle.border.proofs.has_unmarked.Goals as goal

pub returns : goal.returns
returns c =
    any_is_any_under (unmarked (parts_of c.args.bytes.now) c.args.work.now) _ _ _ _ c.any.ensures.ran (λ x b q k. search (rules, tests))
    ∙ ap (λ (n : ℕ). any_under n (unmarked (parts_of c.args.bytes.now) c.args.work.now)) c.halves_of.ensures.0
