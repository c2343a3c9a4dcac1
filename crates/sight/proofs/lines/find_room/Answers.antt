-- The rooms one after the other.
use Rattle.std.proofs.Common.{◌≡◌, true, unwrap_or, rules, tests, ap, ◌∙◌}
use Rattle.std.proofs.lemmas.Iterator.{serves_from_Range}
use Rattle.verdict.proofs.Found.{find_is_first}
use Rattle.text.specs.Reading.{Word}
use Rattle.names.specs.Name.{is_name, same_name}
use Rattle.layout.specs.Starts.{kept_name}
use Rattle.sight.proofs.FindLaws.{kept_good, found_room}
use Rattle.sight.proofs.lines.find_room.Goals as goal

pub find-requires-clause-callable : goal.find-requires-clause-callable
find-requires-clause-callable c =
    serves_from_Range (λ x q k. search (rules, tests))
    (λ x low h.
    let named : (u : Word) → u ≡ kept_name c.args.layout.now c.args.starts.now x → is_name u ≡ true = λ u e. ap is_name e ∙ kept_good _ _ _ c.requires.0 x h in
    search (rules, named))

pub returns : goal.returns
returns c =
    let r = find_is_first (λ j. same_name c.args.w.now (kept_name c.args.layout.now c.args.starts.now j)) _ _ _ _ c.find.ensures.ran (λ x b q k. search (rules, tests)) in
    c.unwrap_or.ensures ∙ ap (λ o. unwrap_or o c.args.n) r ∙ found_room _ _ _ c.requires.0 _
