-- The borders chained; one half-edge more; all of them. Assumes nothing.
use Rattle.std.proofs.Common.{arith, ap, ◌∙◌, length}
use Rattle.tables.specs.Parts.{parts_of}
use Rattle.corners.proofs.Corners.{as_many}
use Rattle.follow.specs.Ready.{web_in}
use Rattle.follow.proofs.Numbers.{top_same}
use Rattle.follow.proofs.Floors.{small_of, balanced_of, ready_same}
use Rattle.follow.proofs.Chains.{chained_held}
use Rattle.follow.proofs.Passing.{passed_none, passed_all, passed_few}
use Rattle.follow.proofs.all_rings.Goals as goal

pub loop-c-init : goal.loop-c-init
loop-c-init c =
    let b = c.args.bytes.now in
    record {
      passed = passed_none (web_in b) _ (balanced_of b _ c.requires) (chained_held (web_in b) _ c.chain_all.ensures.chained);
      ready = c.chain_all.ensures.memory.0;
      map = c.chain_all.ensures.memory.1;
    }

pub turn-so-requires-clause-inside : goal.turn-so-requires-clause-inside
turn-so-requires-clause-inside c = omega (arith, as_many (parts_of c.args.bytes.now), c.halves_of-n.ensures.0)

pub loop-c-preserved : goal.loop-c-preserved
loop-c-preserved c =
    let turn = c.turn-so in
    record {
      passed = turn.ensures.passed;
      ready = ready_same _ _ c.loop-c.invariant.ready _ turn.auto.work turn.ensures.memory;
      map = top_same _ _ turn.ensures.memory ∙ c.loop-c.invariant.map;
    }

pub returns-clause-edges : goal.returns-clause-edges
returns-clause-edges c =
    let b = c.args.bytes.now in
    let r = c.loop-c in
    (passed_all (web_in b) r.work r.so.edges r.so.rings r.c r.invariant.passed (omega (arith, as_many (parts_of b), c.halves_of-n.ensures.0))).0

pub returns-clause-ends : goal.returns-clause-ends
returns-clause-ends c =
    let b = c.args.bytes.now in
    let r = c.loop-c in
    (passed_all (web_in b) r.work r.so.edges r.so.rings r.c r.invariant.passed (omega (arith, as_many (parts_of b), c.halves_of-n.ensures.0))).1

pub returns-clause-counts : goal.returns-clause-counts
returns-clause-counts c =
    let b = c.args.bytes.now in
    let r = c.loop-c in
    let e = passed_all (web_in b) r.work r.so.edges r.so.rings r.c r.invariant.passed (omega (arith, as_many (parts_of b), c.halves_of-n.ensures.0)) in
    let f = passed_few (web_in b) r.work r.so.edges r.so.rings r.c (small_of b _ c.requires) r.invariant.passed in
    (r.invariant.passed.count ∙ ap length e.1, f.0, f.1)
