-- One half-edge more: it repeats a lower one, or is chained behind those before it.
use Rattle.std.proofs.Common.{◌≡◌, ◌∙◌, refl, sym, ap, subst, arith, ℕ, ◌<◌, ◌≤◌, ◌*◌, true, false, List, length, drop}
use Rattle.verdict.specs.Lowest.{lowest}
use Rattle.verdict.specs.Memory.{work_size, cleared_to, past, SamePast}
use Rattle.verdict.proofs.Lowest.{lowest_none, lowest_more, lowest_hit}
use Rattle.verdict.proofs.Memory.{drop_cleared}
use Rattle.verdict.proofs.Results.{found_first, no_first}
use Rattle.chains.specs.Chains.{Chained}
use Rattle.chains.proofs.Chains.{chained_none}
use Rattle.tables.specs.Parts.{parts_of}
use Rattle.pairs.specs.Halves.{halves, repeats}
use Rattle.pairs.specs.Chains.{chains, chain_of, chain}
use Rattle.pairs.proofs.Halves.{few_walkable}
use Rattle.pairs.proofs.Chains.{past_last, half_chained}
use Rattle.pairs.proofs.first_repeat.Goals as goal

pub loop-h-init : goal.loop-h-init
loop-h-init c =
    let p = parts_of c.args.bytes.now in
    record {
      none = lowest_none _;
      chained = subst (λ (w : List ℕ). Chained chains (chain p) w 0) (sym c.clear_to.ensures) (chained_none (chain p) chains c.args.work.now);
      kept = refl;
    }

-- clearing and chaining keep what lies past the work memory
kept : (w v u : List ℕ) → work_size ≤ length w → u ≡ cleared_to (2 * chains) w → SamePast v u → SamePast v w
unfolding past
kept w v u l e q = q ∙ ap (drop work_size) e ∙ drop_cleared work_size (2 * chains) w (omega arith) (omega (arith, l))

pub returns-then-is_run : goal.returns-then-is_run
unfolding repeats
returns-then-is_run c =
    let p = parts_of c.args.bytes.now in
    let l = c.loop-h in
    let told : repeats p l.h ≡ true = rw (← c.from_of-a.ensures.0, ← c.to_of-b.ensures.0) (sym c.is_run.ensures ∙ c.if-is_run.true) in
    let found : lowest (halves p) (repeats p) ≡ l.h = lowest_hit _ _ _ l.invariant.none told (omega arith) in
    record {
      answer = found_first _ _ _ (sym found) (omega arith);
      memory = (subst (λ (k : ℕ). Chained chains (chain p) l.work k) (sym found) l.invariant.chained, kept c.args.work.now l.work c.clear_to.new.work c.requires.1 c.clear_to.ensures l.invariant.kept);
    }

pub loop-h-preserved : goal.loop-h-preserved
unfolding repeats
loop-h-preserved c =
    let p = parts_of c.args.bytes.now in
    let l = c.loop-h in
    let small : l.h < 12288 = omega (arith, few_walkable c.args.bytes.now c.requires.0) in
    let told : repeats p l.h ≡ false = rw (← c.from_of-a.ensures.0, ← c.to_of-b.ensures.0) (sym c.is_run.ensures ∙ c.if-is_run.false) in
    record {
      none = lowest_more _ _ l.invariant.none told;
      chained = half_chained chains chain_of _ _ _ _ _ _ _ small (omega arith) l.invariant.chained c.from_of-a.ensures.0 c.to_of-b.ensures.0 c.mixed.ensures c.put_last.ensures;
      kept = past_last _ _ _ _ c.mixed.ensures.1 small c.put_last.ensures ∙ l.invariant.kept;
    }

pub returns : goal.returns
returns c =
    let p = parts_of c.args.bytes.now in
    let l = c.loop-h in
    let end : l.h ≡ halves p = omega arith in
    let none : lowest (halves p) (repeats p) ≡ halves p = subst (λ (k : ℕ). lowest k (repeats p) ≡ k) end l.invariant.none in
    record {
      answer = no_first _ _ none;
      memory = (subst (λ (k : ℕ). Chained chains (chain p) l.work k) (end ∙ sym none) l.invariant.chained, kept c.args.work.now l.work c.clear_to.new.work c.requires.1 c.clear_to.ensures l.invariant.kept);
    }
