-- 20, then the rules, then 40 or both outputs; the work memory is cleared at the end.
use Rattle.std.proofs.Common.{arith}
use Rattle.mend.proofs.Outputs.{little_memory, all_decides}
use Rattle.mend.proofs.mend.Goals as goal

pub returns-then-work-lt-WORK_SIZE : goal.returns-then-work-lt-WORK_SIZE
returns-then-work-lt-WORK_SIZE c =
    let h = little_memory c.args.bytes.now c.args.work.now c.args.out.now c.args.list.now (omega arith) _ c.refused_mending.ensures in
    record { answer = h.0; memory = h.1.0; form = h.1.1.0; list = h.1.1.1 }

pub returns : goal.returns
returns c =
    let told = c.seams_mended-done.ensures in
    let h = all_decides c.args.bytes.now c.args.work.now c.args.out.now c.args.list.now (omega arith) _ _ told.memory c.clear_to.ensures _ _ _ told.answer told.form told.list in
    record { answer = h.0; memory = h.1.0; form = h.1.1.0; list = h.1.1.1 }
