-- The rules of the floor as it is, then those of the changed corners.
use Rattle.std.proofs.Common.{arith, sym, ◌∙◌}
use Rattle.verdict.proofs.Results.{accepts, past}
use Rattle.seams.proofs.Order.{run_again}
use Rattle.mend.proofs.Steps.{early_of, ready_of}
use Rattle.mend.proofs.seams_verdict.Goals as goal

pub corners_verdict-requires : goal.corners_verdict-requires
corners_verdict-requires c =
    let e = early_of _ (accepts c.in_ok-rules_1_to_15.ensures.answer) in
    (e.header, e.mesh.finite, e.mesh.cornered, omega arith)

pub returns : goal.returns
returns c =
    let b = c.args.bytes.now in
    let e = early_of b (accepts c.in_ok-rules_1_to_15.ensures.answer) in
    let so = c.corners_verdict.ensures in
    record {
      answer = past c.in_ok-rules_1_to_15.ensures.answer (so.answer ∙ sym (run_again b e _));
      memory = so.memory ∙ c.rules_1_to_15.ensures.memory;
      ready = λ z. (ready_of b _ e (omega arith) (rw so.answer at z) (so.ready z), e.mesh);
    }
