-- One vertex more; all of them. Assumes nothing.
use Rattle.std.proofs.Common.{arith, ap, sym, ◌∙◌}
use Rattle.tables.specs.Parts.{parts_of}
use Rattle.corners.proofs.Corners.{as_many}
use Rattle.follow.specs.Memory.{mates}
use Rattle.follow.specs.Ready.{web_in}
use Rattle.follow.proofs.Numbers.{mates_put}
use Rattle.follow.proofs.Chains.{chained_none, fill_step}
use Rattle.follow.proofs.empty_chains.Goals as goal

pub loop-v-preserved : goal.loop-v-preserved
loop-v-preserved c = record {
  heads = fill_step c.loop-v.work _ c.loop-v.v _ (omega (arith, c.requires.long)) (omega (arith, c.halves_of-n.ensures)) c.put_u16.ensures c.loop-v.invariant.heads;
  same = ap mates c.put_u16.ensures ∙ mates_put _ _ _ (omega arith) ∙ c.loop-v.invariant.same;
}

pub returns-clause-chained : goal.returns-clause-chained
returns-clause-chained c =
    let b = c.args.bytes.now in
    chained_none (web_in b) c.loop-v.work (λ x k. c.loop-v.invariant.heads x (omega arith) ∙ c.halves_of-n.ensures.0 ∙ sym (as_many (parts_of b)))
