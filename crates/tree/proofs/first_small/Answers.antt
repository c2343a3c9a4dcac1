-- What `find` answers, where each look answers the test.
use Rattle.std.proofs.Common.{rules, tests, ap, ◌∙◌, ℕ}
use Rattle.tables.specs.Parts.{parts_of}
use Rattle.tree.specs.Boxes.{too_small}
use Rattle.verdict.specs.Lowest.{first}
use Rattle.verdict.proofs.Found.{find_is_first}
use Rattle.tree.proofs.first_small.Goals as goal

pub returns : goal.returns
returns c =
    find_is_first (too_small (parts_of c.args.bytes.now)) _ _ _ _ c.find.ensures.ran (λ x b q k. search (rules, tests))
    ∙ ap (λ (n : ℕ). first n (too_small (parts_of c.args.bytes.now))) c.node_count.ensures.0
