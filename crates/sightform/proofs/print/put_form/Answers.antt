-- Room after room.
use Rattle.std.proofs.Common.{◌<◌, arith}
use Rattle.sightform.proofs.PrintLaws.{first_rows, rows_done, rooms_start, rooms_more, rooms_done}
use Rattle.sightform.proofs.print.put_form.Goals as goal

pub loop-k-init : goal.loop-k-init
loop-k-init c = record { few = omega arith; bound = omega arith; wrote = rooms_start _ _ _ _ _ c.requires.kept _ _ }

pub put_room-e-requires-clause-small : goal.put_room-e-requires-clause-small
put_room-e-requires-clause-small c =
    let kept = c.requires.kept in
    let l : c.loop-k.k < c.args.n = (first_rows c.args.rows.now c.args.n c.loop-k.k (omega (arith, kept.few)) c.loop-k-test.true).0 in
    (omega (arith, kept.few), (c.requires.small.1, l))

pub loop-k-preserved : goal.loop-k-preserved
loop-k-preserved c =
    let kept = c.requires.kept in
    let (l, e) = first_rows c.args.rows.now _ _ (omega (arith, kept.few)) c.loop-k-test.true in
    record {
      few = omega arith;
      bound = omega (arith, c.put_room-e.ensures.end);
      wrote = rooms_more _ _ _ _ _ kept _ _ _ e c.loop-k.invariant.wrote c.put_room-e.ensures.wrote;
    }

pub returns : goal.returns
returns c =
    let kept = c.requires.kept in
    rooms_done _ _ _ _ _ kept _ _ (rows_done c.args.rows.now _ _ (omega (arith, kept.few)) c.loop-k.invariant.few c.loop-k-test.false) c.loop-k.invariant.wrote
