-- Room after room.
use Rattle.std.proofs.Common.{arith}
use Rattle.sight.proofs.FindLaws.{kept_short}
use Rattle.sightform.proofs.PrintLaws.{seen_start, seen_more, seen_further, seen_done}
use Rattle.sightform.proofs.print.put_seen.Goals as goal

pub loop-j-init : goal.loop-j-init
loop-j-init c = record { few = omega arith; bound = omega arith; wrote = seen_start _ _ _ _ _ c.requires.1.1 _ _ _ }

pub put_if_seen-e-requires : goal.put_if_seen-e-requires
put_if_seen-e-requires c =
    let kept = c.requires.1.1 in
    (omega (arith, kept.few), (c.requires.1.0, kept_short _ _ _ kept _ c.loop-j-test.true))

pub loop-j-preserved : goal.loop-j-preserved
loop-j-preserved c =
    let a = c.args in
    let kept = c.requires.1.1 in
    let short = kept_short _ _ _ kept _ c.loop-j-test.true in
    record {
      few = omega arith;
      bound = omega (arith, seen_further a.layout.now a.starts.now a.i a.name.now a.row c.loop-j.j c.requires.1.0 short c.put_if_seen-e.ensures);
      wrote = seen_more _ _ _ _ _ kept _ _ c.loop-j-test.true c.loop-j.invariant.wrote c.put_if_seen-e.ensures;
    }

pub returns-clause-wrote : goal.returns-clause-wrote
returns-clause-wrote c = seen_done _ _ _ _ (omega (arith, c.loop-j.invariant.few)) c.loop-j.invariant.wrote

pub returns-clause-end : goal.returns-clause-end
returns-clause-end c = omega arith
