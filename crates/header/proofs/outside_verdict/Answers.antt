-- The rule is broken where `find` finds one, at its offset field.
use Rattle.std.proofs.Common.{rules, ap, ◌∙◌, ◌≡◌}
use Rattle.std.specs.Option.{option_map}
use Rattle.verdict.specs.Lowest.{first}
use Rattle.verdict.specs.Refusals.{rule_at}
use Rattle.verdict.proofs.Results.{each_by_place}
use Rattle.tables.specs.Tables.{table_at, outside_at, rule5}
use Rattle.tables.specs.Header.{floor_tables}
use Rattle.header.proofs.outside_verdict.Goals as goal

pub returns : goal.returns
unfolding rule5
returns c =
    let m : c.map-field.result ≡ option_map (λ k. (table_at floor_tables k).offset) (first 9 (outside_at 136 floor_tables c.args.bytes.now)) = search rules in
    c.refuse_at.ensures ∙ ap (rule_at 5) m ∙ each_by_place 5 9 (outside_at 136 floor_tables c.args.bytes.now) (λ k. (table_at floor_tables k).offset)
