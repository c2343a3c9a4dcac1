-- The bench's latest record is one of the first f; and what each rule is asked of.
use Rattle.std.proofs.Common.{arith, ap, ◌∙◌}
use Rattle.std.proofs.lemmas.Result.{err_from_is_err_and}
use Rattle.record.specs.Record.{flip}
use Rattle.laying.specs.Area.{area_floor}
use Rattle.journal.specs.Step.{lent}
use Rattle.journal.proofs.Outs.{latest_under, out_blocked, out_unfit, out_done}
use Rattle.journal.proofs.take_out.Goals as goal

pub is_blocked-blocked-requires : goal.is_blocked-blocked-requires
is_blocked-blocked-requires c = let a = c.args in (c.requires.1, latest_under area_floor _ (lent a.floor.now a.journal.now a.f) _ c.in-Some.ensures, c.requires.2)

pub returns-in_err-refuse_if : goal.returns-in_err-refuse_if
returns-in_err-refuse_if c =
    let p = err_from_is_err_and c.from_residual.result c.from_residual.ensures.1 in
    rw (p.1, p.2) (out_blocked area_floor _ _ _ c.in-Some.ensures _ c.is_blocked-blocked.ensures _ c.in_err-refuse_if.ensures)

pub get_record-requires : goal.get_record-requires
get_record-requires c = let a = c.args in omega (arith, latest_under area_floor _ (lent a.floor.now a.journal.now a.f) _ c.in-Some.ensures, c.requires.1)

pub returns-in_err-refuse_if-2 : goal.returns-in_err-refuse_if-2
returns-in_err-refuse_if-2 c =
    let p = err_from_is_err_and c.from_residual-in_err-refuse_if-2.result c.from_residual-in_err-refuse_if-2.ensures.1 in
    rw (p.1, p.2)
    (out_unfit area_floor _ _ _ c.in-Some.ensures _ c.is_blocked-blocked.ensures c.in_ok-refuse_if.ensures _ (c.flipped-r.ensures ∙ ap flip c.get_record.ensures) _ _ c.turn.ensures _ c.in_err-refuse_if-2.ensures)

pub close_up-requires : goal.close_up-requires
close_up-requires c = let a = c.args in (omega (arith, latest_under area_floor _ (lent a.floor.now a.journal.now a.f) _ c.in-Some.ensures), c.requires.1)

pub overflow_sub-result : goal.overflow_sub-result
overflow_sub-result c = let a = c.args in omega (arith, latest_under area_floor _ (lent a.floor.now a.journal.now a.f) _ c.in-Some.ensures)

pub returns : goal.returns
returns c =
    out_done area_floor _ _ _ c.in-Some.ensures _ c.is_blocked-blocked.ensures c.in_ok-refuse_if.ensures _ (c.flipped-r.ensures ∙ ap flip c.get_record.ensures) _ _ c.turn.ensures _
    c.in_ok-refuse_if-2.ensures c.close_up.ensures
