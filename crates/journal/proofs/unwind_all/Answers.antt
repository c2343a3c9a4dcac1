-- What an undo leaves, done or refused.
use Rattle.std.proofs.Common.{◌∙◌}
use Rattle.journal.proofs.Outs.{turn_done, turn_refused}
use Rattle.journal.proofs.unwind_all.Goals as goal

pub loop-kept-smaller : goal.loop-kept-smaller
loop-kept-smaller c = let l = c.loop-kept.invariant in (turn_done _ _ _ _ _ _ _ c.in-Ok.ensures l.right l.room).less

pub loop-kept-preserved : goal.loop-kept-preserved
loop-kept-preserved c =
    let l = c.loop-kept.invariant in
    let d = turn_done _ _ _ _ _ _ _ c.in-Ok.ensures l.right l.room in
    record { right = d.right; room = d.room; same = d.same ∙ l.same }

pub returns-in-Err : goal.returns-in-Err
returns-in-Err c = turn_refused _ _ _ _ _ _ _ c.in-Err.ensures ∙ c.loop-kept.invariant.same
