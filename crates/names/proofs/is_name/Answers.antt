use Rattle.std.proofs.Common.{◌∙◌, sym, rules, tests}
use Rattle.std.proofs.lemmas.Iterator.{YieldsList-from_slice}
use Rattle.std.proofs.lemmas.Iterator.Search.{all_from_yields_List}
use Rattle.letters.specs.Class.{name_byte}
use Rattle.names.proofs.NameLaws.{name_by, name_not}
use Rattle.names.proofs.is_name.Goals as goal

pub returns-then-is_within : goal.returns-then-is_within
returns-then-is_within c =
    name_by _ _ (sym c.is_within.ensures ∙ c.if-is_within.true)
    (all_from_yields_List name_byte _ _ _ c.all.ensures.ran (YieldsList-from_slice c.args.w.now cc) (λ x b q k. search (rules, tests)))

pub returns-else-is_within : goal.returns-else-is_within
returns-else-is_within c = c.if-is_within.false ∙ name_not _ (sym c.is_within.ensures ∙ c.if-is_within.false)
