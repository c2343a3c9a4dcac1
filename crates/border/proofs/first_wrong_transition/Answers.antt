-- What `find` answers, where each look answers the test.
use Rattle.std.proofs.Common.{rules, tests, ap, ◌∙◌, ℕ}
use Rattle.tables.specs.Parts.{parts_of}
use Rattle.border.specs.Loops.{wrong_transition}
use Rattle.verdict.specs.Lowest.{first}
use Rattle.verdict.proofs.Found.{find_is_first}
use Rattle.border.proofs.first_wrong_transition.Goals as goal

pub returns : goal.returns
returns c =
    find_is_first (wrong_transition (parts_of c.args.bytes.now)) _ _ _ _ c.find.ensures.ran (λ x b q k. search (rules, tests))
    ∙ ap (λ (n : ℕ). first n (wrong_transition (parts_of c.args.bytes.now))) c.edges_of.ensures.0
