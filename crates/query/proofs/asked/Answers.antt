-- 29 and 30, then the walk.
use Rattle.std.proofs.Common.{◌≡◌, ◌∙◌}
use mir.Syntax.{w64}
use mir.ValLaws.{to_z-of_z}
use Rattle.verdict.specs.Verdict.{accepted}
use Rattle.verdict.proofs.Results.{number_positive}
use Rattle.verdict.proofs.Results as results
use Rattle.wire.proofs.Signed.{read_within}
use Rattle.tables.specs.Parts.{parts_of}
use Rattle.query.proofs.Replies.{rules29to30, refuses, near_x, near_y, ready, accepts}
use Rattle.query.proofs.asked.Goals as goal

pub walked-requires : goal.walked-requires
walked-requires c =
    let a = c.args in
    let e : accepted ≡ rules29to30 (parts_of a.bytes.now) a.x a.y = rw (← to_z-of_z w64 _ c.ranges.x, ← to_z-of_z w64 _ c.ranges.y) c.in-Ok.ensures in
    let z = results.accepts e in
    (ready _ c.requires a.x a.y z, read_within (near_x _ a.x a.y z) tt, read_within (near_y _ a.x a.y z) tt)

pub returns-in-Ok : goal.returns-in-Ok
returns-in-Ok c =
    let a = c.args in
    let e : accepted ≡ rules29to30 (parts_of a.bytes.now) a.x a.y = rw (← to_z-of_z w64 _ c.ranges.x, ← to_z-of_z w64 _ c.ranges.y) c.in-Ok.ensures in
    rw (to_z-of_z w64 _ c.ranges.x, to_z-of_z w64 _ c.ranges.y) at c.walked.ensures ∙ accepts _ a.x a.y (results.accepts e)

pub returns-in-Err : goal.returns-in-Err
returns-in-Err c =
    let a = c.args in
    c.refused.ensures ∙ refuses _ _ _ _ _ (number_positive c.in-Err.r.refusal) (rw (← to_z-of_z w64 _ c.ranges.x, ← to_z-of_z w64 _ c.ranges.y) c.in-Err.ensures)
