-- The common rules, then the record.
use Rattle.verdict.proofs.Results.{accepts}
use Rattle.laying.specs.Area.{area_floor}
use Rattle.journal.specs.Step.{lent, common_verdict}
use Rattle.journal.proofs.Steps.{few_room, common_met}
use Rattle.journal.proofs.undone.Goals as goal

pub take_out-requires : goal.take_out-requires
unfolding common_verdict
take_out-requires c =
    let a = c.args in
    let m = common_met area_floor a.bench a.f (lent a.floor.now a.journal.now a.f) (accepts c.in_ok-common_verdict.ensures) in
    (m.right, few_room _ _ m.few, m.owner)
