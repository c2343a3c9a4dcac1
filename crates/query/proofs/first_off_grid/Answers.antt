-- What `find` answers, where each look answers the test.
use Rattle.std.proofs.Common.{rules, tests, ap, ◌∙◌, ℕ}
use Rattle.tables.specs.Parts.{parts_of}
use Rattle.query.specs.Rules.{off_grid}
use Rattle.verdict.specs.Lowest.{first}
use Rattle.verdict.proofs.Found.{find_is_first}
use Rattle.query.proofs.first_off_grid.Goals as goal

pub returns : goal.returns
returns c =
    find_is_first (off_grid (parts_of c.args.bytes.now)) _ _ _ _ c.find.ensures.ran (λ x b q k. search (rules, tests))
    ∙ ap (λ (n : ℕ). first n (off_grid (parts_of c.args.bytes.now))) c.count_of.ensures.0
