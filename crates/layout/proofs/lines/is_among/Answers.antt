-- The entries one after the other.
use Rattle.std.proofs.Common.{rules, tests, ◌∙◌, eqb, not, ◌&&◌, get_or}
use Rattle.verdict.proofs.Found.{any_is_any_under}
use Rattle.names.specs.Name.{same_name}
use Rattle.text.specs.Reading.{nth}
use Rattle.layout.specs.Starts.{entry_at}
use Rattle.layout.proofs.HeldLaws.{known_held}
use Rattle.layout.proofs.lines.is_among.Goals as goal

pub returns : goal.returns
returns c =
    let a = c.args in
    any_is_any_under (λ j. not (eqb j a.but) && same_name a.w.now (nth (entry_at a.s.now (get_or a.starts.now j 0)) a.k)) _ _ _ _ c.any.ensures.ran (λ x b q k. search (rules, tests))
    ∙ known_held _ _ _ _ _ _ c.requires.0.inside
