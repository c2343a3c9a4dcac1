-- A face's word is read where the place is inside.
use Rattle.verdict.proofs.Results.{accepts}
use Rattle.laying.specs.Area.{area_floor}
use Rattle.journal.specs.Step.{lent, common_verdict, open_verdict}
use Rattle.journal.proofs.Edits.{open_met}
use Rattle.journal.proofs.painted.Goals as goal

pub word_at-requires : goal.word_at-requires
unfolding open_verdict common_verdict
word_at-requires c =
    let a = c.args in
    let o = open_met area_floor a.bench 1 a.face (lent a.floor.now a.journal.now a.f) (accepts c.in_ok-open_verdict.ensures) in
    (o.common.right, o.inside)
