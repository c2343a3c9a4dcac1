-- The memory cleared, no half-edge is chained; one more is, unless it repeats. Assumes nothing.
use Rattle.std.proofs.Common.{arith, ◌≡◌, sym, subst, ◌∙◌, List, ℕ, ◌<◌}
use Rattle.verdict.specs.Lowest.{lowest}
use Rattle.verdict.proofs.Results.{found_first, no_first}
use Rattle.pairs.specs.Halves.{halves, repeats}
use Rattle.verdict.proofs.Lowest.{lowest_none, lowest_more, lowest_hit}
use Rattle.chains.specs.Chains.{Chained}
use Rattle.chains.proofs.Chains.{chained_none}
use Rattle.tables.specs.Parts.{parts_of}
use Rattle.pairs.proofs.Halves.{few_walkable}
use Rattle.pairs.proofs.Chains.{half_chained}
use Rattle.corners.specs.Corners.{recornered}
use Rattle.mates.specs.Keys.{run_chains, run_chain, run_key}
use Rattle.mates.proofs.Runs.{top_cleared, top_last, repeat_found, repeat_not}
use Rattle.mates.proofs.first_repeat.Goals as goal

pub loop-h-init : goal.loop-h-init
loop-h-init c =
    let key = run_key (recornered (parts_of c.args.bytes.now)) in
    record {
      none = lowest_none _;
      chained = subst (λ (w : List ℕ). Chained run_chains key w 0) (sym c.clear_to.ensures) (chained_none key run_chains c.args.work.now);
      map = top_cleared _ _ c.requires.mapped.0 c.clear_to.ensures;
    }

pub returns-then-is_some : goal.returns-then-is_some
returns-then-is_some c =
    let p = parts_of c.args.bytes.now in
    let l = c.loop-h in
    let twice = repeat_found _ _ _ _ _ c.from_of-a.ensures.0 c.to_of-b.ensures.0 c.find_run.ensures (sym c.is_some.ensures ∙ c.if-is_some.true) in
    let found : lowest (halves p) (repeats (recornered p)) ≡ l.h = lowest_hit _ _ _ l.invariant.none twice (omega (arith, c.halves_of-n.ensures.0)) in
    record {
      answer = found_first _ _ _ (sym found) (omega (arith, c.halves_of-n.ensures.0));
      chained = subst (λ (k : ℕ). Chained run_chains (run_key (recornered p)) l.work k) (sym found) l.invariant.chained;
      memory = l.invariant.map;
    }

pub loop-h-preserved : goal.loop-h-preserved
loop-h-preserved c =
    let few : c.loop-h.h < 12288 = omega (arith, c.halves_of-n.ensures.0, few_walkable c.args.bytes.now c.requires.right_header.0) in
    let l = c.loop-h in
    let v = c.mixed.ensures in
    record {
      none = lowest_more _ _ l.invariant.none (repeat_not _ _ _ _ _ c.from_of-a.ensures.0 c.to_of-b.ensures.0 c.find_run.ensures (sym c.is_some.ensures ∙ c.if-is_some.false));
      chained = half_chained run_chains run_chain _ _ _ _ _ _ _ few (omega (arith, c.requires.mapped.0)) l.invariant.chained c.from_of-a.ensures.0 c.to_of-b.ensures.0 v c.put_last.ensures;
      map = top_last _ _ _ _ v.1 few c.put_last.ensures ∙ l.invariant.map;
    }

pub returns : goal.returns
returns c =
    let p = parts_of c.args.bytes.now in
    let l = c.loop-h in
    let end : l.h ≡ halves p = omega (arith, c.halves_of-n.ensures.0) in
    let none : lowest (halves p) (repeats (recornered p)) ≡ halves p = subst (λ (k : ℕ). lowest k (repeats (recornered p)) ≡ k) end l.invariant.none in
    record {
      answer = no_first _ _ none;
      chained = subst (λ (k : ℕ). Chained run_chains (run_key (recornered p)) l.work k) (end ∙ sym none) l.invariant.chained;
      memory = l.invariant.map;
    }
