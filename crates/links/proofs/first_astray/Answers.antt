-- What `find` answers, where each look answers the test.
use Rattle.std.proofs.Common.{rules, tests, ap, ◌∙◌, ℕ}
use Rattle.tables.specs.Parts.{parts_of}
use Rattle.links.specs.Links.{astray}
use Rattle.verdict.specs.Lowest.{first}
use Rattle.verdict.proofs.Found.{find_is_first}
use Rattle.links.proofs.first_astray.Goals as goal

pub returns : goal.returns
returns c =
    find_is_first (astray (parts_of c.args.bytes.now) c.args.rooms) _ _ _ _ c.find.ensures.ran (λ x b q k. search (rules, tests))
    ∙ ap (λ (n : ℕ). first n (astray (parts_of c.args.bytes.now) c.args.rooms)) c.count_of.ensures.0
