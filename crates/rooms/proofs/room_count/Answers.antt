-- The refusal, or the number of the rooms.
use Rattle.std.proofs.Common.{arith}
use Rattle.std.proofs.lemmas.Result.{err_from_is_err_and}
use Rattle.layout.specs.Starts.{no_layout, told_layout}
use Rattle.layout.proofs.AnsweredLaws.{answered}
use Rattle.rooms.proofs.RoomLaws.{rooms_told}
use Rattle.rooms.proofs.room_count.Goals as goal

pub returns-in_err-r : goal.returns-in_err-r
unfolding no_layout
returns-in_err-r c =
    let p = err_from_is_err_and c.from_residual.result c.from_residual.ensures.1 in
    rw (p.1, p.2) (rooms_told _ _ c.in_err-r.ensures)

pub overflow_cast-result : goal.overflow_cast-result
overflow_cast-result c = omega (arith, (answered _ (told_layout c.in_ok-r.r) c.in_ok-r.ensures).held)

pub returns : goal.returns
returns c = rooms_told _ (told_layout c.in_ok-r.r) c.in_ok-r.ensures
