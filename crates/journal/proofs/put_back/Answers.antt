-- The common rules, then undo after undo; 26 is the end of it.
use Rattle.verdict.proofs.Results.{accepts}
use Rattle.laying.specs.Area.{area_floor}
use Rattle.journal.specs.Step.{lent, common_verdict, put_back_step}
use Rattle.journal.specs.Calls.{step}
use Rattle.journal.proofs.Steps.{accepted_unless, few_room, common_met}
use Rattle.journal.proofs.Outs.{back_done, back_held}
use Rattle.journal.proofs.put_back.Goals as goal

pub unwind_all-kept-requires : goal.unwind_all-kept-requires
unfolding common_verdict
unwind_all-kept-requires c =
    let a = c.args in
    let m = common_met area_floor a.bench a.f (lent a.floor.now a.journal.now a.f) (accepts c.in_default.ensures) in
    (m.right, few_room _ _ m.few, m.owner)

pub returns-in-NoStep : goal.returns-in-NoStep
unfolding step put_back_step common_verdict
returns-in-NoStep c = rw c.of-in-NoStep.ensures (accepted_unless _ c.in_default.ensures (back_done _ _ _ _ c.unwind_all-kept.ensures c.in-NoStep.is))

pub returns-in_default-refusal : goal.returns-in_default-refusal
unfolding step put_back_step common_verdict
returns-in_default-refusal c =
    rw c.of-in_default-refusal.ensures (accepted_unless _ c.in_default.ensures (back_held _ _ _ _ c.unwind_all-kept.ensures c.in_default-refusal.not-NoStep))
