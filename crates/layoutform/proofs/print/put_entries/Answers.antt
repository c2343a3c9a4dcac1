-- Entry after entry.
use Rattle.std.proofs.Common.{arith}
use Rattle.layoutform.proofs.PrintLaws.{kept_start, kept_all, entries_start, entry_asked, entries_more, entries_further, entries_done}
use Rattle.layoutform.proofs.print.put_entries.Goals as goal

pub loop-start-init : goal.loop-start-init
loop-start-init c =
    let a = c.args in
    record { few = omega arith; bound = omega arith; wrote = entries_start a.k a.s.now a.starts.now a.n a.old.now a.name.now c.requires.1.1.1 _ _ }

pub put_one-e-requires : goal.put_one-e-requires
put_one-e-requires c =
    let a = c.args in
    let kept = c.requires.1.1.1 in
    let (l, e) = kept_start _ _ _ _ _ kept.inside c.loop-start-test.true c.line_at.ensures in
    (omega (arith, kept.few), (c.requires.1.0, (c.requires.1.1.0, entry_asked a.k a.s.now a.starts.now a.n a.old.now a.name.now kept _ _ l e)))

pub loop-start-preserved : goal.loop-start-preserved
loop-start-preserved c =
    let kept = c.requires.1.1.1 in
    let i = c.loop-start.invariant in
    let (l, e) = kept_start _ _ _ _ _ kept.inside c.loop-start-test.true c.line_at.ensures in
    record {
      few = omega arith;
      bound = omega (arith, entries_further _ _ _ _ _ _ kept _ _ l e i.wrote c.put_one-e.ensures c.requires.1.0);
      wrote = entries_more _ _ _ _ _ _ kept _ _ l e i.wrote c.put_one-e.ensures;
    }

pub returns-clause-wrote : goal.returns-clause-wrote
returns-clause-wrote c =
    entries_done _ _ _ _ _ _ c.requires.1.1.1 _ (kept_all c.args.starts.now _ _ c.requires.1.1.1.inside c.loop-start-test.false) c.loop-start.invariant.wrote

pub returns-clause-end : goal.returns-clause-end
returns-clause-end c = omega arith
