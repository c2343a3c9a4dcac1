-- One half-edge more; all of them. Assumes nothing.
use Rattle.std.proofs.Common.{arith, ◌<◌, ◌≤◌, ◌∙◌}
use Rattle.tables.specs.Parts.{parts_of}
use Rattle.pairs.specs.Halves.{halves}
use Rattle.pairs.proofs.Halves.{few_walkable}
use Rattle.mates.proofs.Runs.{halves_same}
use Rattle.mates.proofs.Mates.{mated_all, mated_more, chains_mate, top_mate}
use Rattle.mates.proofs.put_mates.Goals as goal

pub loop-h-preserved : goal.loop-h-preserved
loop-h-preserved c =
    let p = parts_of c.args.bytes.now in
    let few : halves p ≤ 12288 = omega (arith, few_walkable c.args.bytes.now c.requires.right_header.0) in
    let small : c.loop-h.h < 12288 = omega (arith, c.halves_of-n.ensures.0) in
    record {
      mated = mated_more _ _ _ _ small c.put_u16.ensures _ (omega (arith, c.requires.mapped.0)) c.mate_of-mate.ensures c.loop-h.invariant.mated;
      chained = chains_mate _ _ _ _ small c.put_u16.ensures _ _ few c.loop-h.invariant.chained;
      map = top_mate _ _ _ _ small c.put_u16.ensures ∙ c.loop-h.invariant.map;
    }

pub returns-clause-mated : goal.returns-clause-mated
returns-clause-mated c = mated_all _ _ _ (omega (arith, c.halves_of-n.ensures.0, halves_same (parts_of c.args.bytes.now))) c.loop-h.invariant.mated
