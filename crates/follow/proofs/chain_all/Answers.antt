-- The chains empty; and there is no other half-edge. Assumes nothing.
use Rattle.std.proofs.Common.{arith, sym, ◌∙◌, ◌≡◌}
use Rattle.tables.specs.Parts.{parts_of}
use Rattle.corners.proofs.Corners.{as_many}
use Rattle.follow.specs.Ready.{web_in}
use Rattle.follow.proofs.Numbers.{top_same}
use Rattle.follow.proofs.Floors.{ready_same}
use Rattle.follow.proofs.chain_all.Goals as goal

pub loop-h-init : goal.loop-h-init
loop-h-init c =
    let b = c.args.bytes.now in
    let e : c.halves_of-h.result ≡ (web_in b).halves = c.halves_of-h.ensures.0 ∙ sym (as_many (parts_of b)) in
    record {
      chained = rw e c.empty_chains.ensures.chained;
      ready = ready_same _ _ c.requires _ c.empty_chains.auto.work c.empty_chains.ensures.memory;
      map = top_same _ _ c.empty_chains.ensures.memory;
    }

pub chain_one-requires-clause-inside : goal.chain_one-requires-clause-inside
chain_one-requires-clause-inside c = omega (arith, c.halves_of-h.ensures.0, as_many (parts_of c.args.bytes.now))
