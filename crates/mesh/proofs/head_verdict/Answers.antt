-- The place of the first wild float of the header, where there is one.
use Rattle.std.proofs.Common.{rules, arith, ap, sym, ◌∙◌, ◌≡◌, ◌+◌, ◌*◌}
use Rattle.std.specs.Option.{option_map}
use Rattle.verdict.specs.Lowest.{first}
use Rattle.verdict.specs.Refusals.{rule_at}
use Rattle.verdict.proofs.Results.{some_lowest, each_by_place, place_under}
use Rattle.tables.specs.Parts.{parts_of}
use Rattle.mesh.specs.Floats.{wild_head, rule7_head}
use Rattle.mesh.proofs.head_verdict.Goals as goal

pub map-place-requires : goal.map-place-requires
map-place-requires c x e = (some_lowest 15 (wild_head (parts_of c.args.bytes.now)) x (sym e ∙ c.first_wild_head.ensures)).1

pub refuse_at-requires : goal.refuse_at-requires
refuse_at-requires c = place_under 15 _ (wild_head (parts_of c.args.bytes.now)) (λ i. 12 + 4 * i) _ (search rules) (λ k l. omega arith)

pub returns : goal.returns
unfolding rule7_head
returns c =
    let place : c.map-place.result ≡ option_map (λ i. 12 + 4 * i) (first 15 (wild_head (parts_of c.args.bytes.now))) = search rules in
    c.refuse_at.ensures ∙ ap (rule_at 7) place ∙ each_by_place 7 15 (wild_head (parts_of c.args.bytes.now)) (λ i. 12 + 4 * i)
