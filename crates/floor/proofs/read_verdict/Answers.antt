-- 20, then the rest; the work memory is cleared at the end.
use Rattle.std.proofs.Common.{◌∙◌, arith}
use Rattle.verdict.proofs.Memory.{cleared_past}
use Rattle.floor.proofs.Answers.{too_little, enough}
use Rattle.floor.proofs.read_verdict.Goals as goal

pub returns-then-work-lt-WORK_SIZE : goal.returns-then-work-lt-WORK_SIZE
returns-then-work-lt-WORK_SIZE c = let h = too_little c.args.bytes.now c.args.work.now (omega arith) in record { answer = h.0; memory = h.1 }

pub returns : goal.returns
returns c =
    let h = enough c.args.bytes.now c.args.work.now (omega arith) in
    record { answer = c.floor_verdict-so.ensures.answer ∙ h.0; memory = c.clear_to.ensures ∙ cleared_past _ _ c.floor_verdict-so.ensures.memory ∙ h.1 }
