-- A half-edge's number is small; where 15 is met, all half-edges are chained and no two run the same way.
use Rattle.std.proofs.Common.{arith, refl, sym, ◌∙◌, ◌≡◌, ℕ, subst}
use Rattle.verdict.specs.Lowest.{lowest}
use Rattle.verdict.proofs.Results.{first_under, none_lowest, nothing_at}
use Rattle.chains.specs.Chains.{Chained}
use Rattle.tables.specs.Parts.{parts_of}
use Rattle.pairs.specs.Halves.{halves, repeats}
use Rattle.pairs.specs.Chains.{chains, chain}
use Rattle.pairs.proofs.Halves.{few_walkable}
use Rattle.pairs.proofs.Group.{repeat_none}
use Rattle.pairs.proofs.pairs_verdict.Goals as goal

pub refuse_at-requires : goal.refuse_at-requires
refuse_at-requires c = first_under _ _ _ _ c.first_repeat.ensures.answer (omega (arith, few_walkable _ c.requires.0))

pub first_wrong_adjacent-requires : goal.first_wrong_adjacent-requires
first_wrong_adjacent-requires c =
    let p = parts_of c.args.bytes.now in
    let none : lowest (halves p) (repeats p) ≡ halves p = none_lowest (halves p) (repeats p) (sym (nothing_at 15 _ (omega arith) c.in_ok-refuse_at.ensures) ∙ c.first_repeat.ensures.answer) in
    record {
      right_header = (c.requires.0, repeat_none p _ refl (omega (arith, none)));
      chained = (omega arith, subst (λ (k : ℕ). Chained chains (chain p) c.first_repeat.new.work k) none c.first_repeat.ensures.memory.0);
    }

pub refuse_at-requires-2 : goal.refuse_at-requires-2
refuse_at-requires-2 c = first_under _ _ _ _ c.first_wrong_adjacent.ensures (omega (arith, few_walkable _ c.requires.0))
