-- The walk along the chain meets the half-edge, or none. Assumes nothing.
use Rattle.std.proofs.Common.{arith, refl, sym, ◌∙◌, ◌<◌}
use Rattle.chains.specs.Chains.{one_more}
use Rattle.chains.proofs.Walk.{at_some, walk_found, walk_none, found_some, found_none}
use Rattle.tables.specs.Parts.{parts_of}
use Rattle.pairs.specs.Chains.{chains, chain_of}
use Rattle.pairs.proofs.Halves.{few_walkable}
use Rattle.pairs.proofs.Chains.{Run, run_start, run_step}
use Rattle.pairs.proofs.is_run.Goals as goal

pub loop-next-init : goal.loop-next-init
loop-next-init c = run_start chains chain_of _ _ _ _ _ c.requires.chained.1 _ _ c.mixed.ensures c.last_of-next.ensures.0

pub returns-then-runs_so : goal.returns-then-runs_so
returns-then-runs_so c =
    let found = walk_found _ c.loop-next.invariant _ c.in-Some.is (sym c.runs_so.ensures ∙ c.if-runs_so.true) in
    sym (found_some _ _ _ found _ refl)

pub before_of-next-requires : goal.before_of-next-requires
before_of-next-requires c =
    let p = at_some _ _ c.in-Some.is in
    omega (arith, p, c.requires.right_header, c.requires.chained.0, c.loop-next.invariant.within, few_walkable c.args.bytes.now c.requires.right_header.0)

-- one step along the chain
stepped : (c : goal.After-before_of-next)
    → Run chain_of (parts_of c.args.bytes.now) c.args.a c.args.b c.args.s (one_more c.before_of-next.result) × (one_more c.before_of-next.result < one_more c.loop-next.next)
stepped c =
    run_step chains chain_of _ _ _ _ _ c.requires.chained.1 _ _ _ c.in-Some.is c.loop-next.invariant c.before_of-next.ensures.0 (sym c.runs_so.ensures ∙ c.if-runs_so.false)

pub loop-next-preserved : goal.loop-next-preserved
loop-next-preserved c = (stepped c).0

pub loop-next-smaller : goal.loop-next-smaller
loop-next-smaller c = (stepped c).1

pub returns : goal.returns
returns c = sym (found_none _ _ _ (walk_none _ c.loop-next.invariant c.in_default.is) refl)
