-- A line with a fault leaves all as it is; of one without, the room that it names is one of the rooms.
use Rattle.std.proofs.Common.{arith, refl, ◌≤◌}
use Rattle.std.proofs.lemmas.Result.{err_from_is_err_and}
use Rattle.verdict.proofs.Results.{number_positive}
use Rattle.sight.proofs.FindLaws.{names_long}
use Rattle.sight.proofs.TurnLaws.{room_few, turn_faulty, turn_right, seen_asks, observer_asks}
use Rattle.sight.proofs.lines.turn.Goals as goal

pub returns-in_err-line_fault : goal.returns-in_err-line_fault
returns-in_err-line_fault c =
    let p = err_from_is_err_and c.from_residual.result c.from_residual.ensures.1 in
    let h = turn_faulty _ _ _ _ _ _ _ _ _ (names_long _ _ _ c.requires.0) c.word.ensures c.room_of-room.ensures refl c.in_err-line_fault.ensures (λ z. absurd (omega (arith, number_positive c.in_err-line_fault.field-0.0, z))) in
    record { answer = rw (p.1, p.2) h.0; marks = h.1 }

pub mark-requires : goal.mark-requires
mark-requires c =
    let few : c.room_of-room.result ≤ c.args.n = room_few _ c.args.rows.now _ _ c.args.st _ _ _ _ (names_long _ _ _ c.requires.0) c.word.ensures c.room_of-room.ensures refl c.in_ok-line_fault.ensures in
    (c.requires.1, λ h k. let m = seen_asks c.args.n c.args.st _ c.room_of-room.result _ few refl _ c.in_ok-line_fault.ensures h k in (omega (arith, m.0, c.requires.0.few), m.1))

pub moved-requires : goal.moved-requires
moved-requires c =
    let few : c.room_of-room.result ≤ c.args.n = room_few _ c.args.rows.now _ _ c.args.st _ _ _ _ (names_long _ _ _ c.requires.0) c.word.ensures c.room_of-room.ensures refl c.in_ok-line_fault.ensures in
    λ h k. let m = observer_asks c.args.n c.args.st _ c.room_of-room.result _ few refl _ c.in_ok-line_fault.ensures h k in (m.0, (omega (arith, m.1.0, c.requires.0.few), m.1.1))

pub returns : goal.returns
returns c =
    let h = turn_right _ _ _ _ _ _ _ _ _ (names_long _ _ _ c.requires.0) c.word.ensures c.room_of-room.ensures refl c.in_ok-line_fault.ensures _ _ refl c.mark.ensures c.moved.ensures in
    record { answer = h.0; marks = h.1 }
