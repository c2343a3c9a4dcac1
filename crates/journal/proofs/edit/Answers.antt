-- 25 is asked of what the bench holds; then there is room for the record.
use Rattle.std.proofs.Common.{arith, sym, ◌∙◌, length}
use Rattle.verdict.proofs.Results.{unbroken_by}
use Rattle.laying.specs.Area.{area_floor}
use Rattle.journal.proofs.Steps.{fit_most, few_room}
use Rattle.journal.proofs.Edits.{open_met, space_met}
use Rattle.journal.proofs.edit.Goals as goal

pub held_by-held-requires : goal.held_by-held-requires
held_by-held-requires c = few_room _ _ (open_met area_floor _ _ _ _ c.requires).common.few

pub overflow_cast-bench : goal.overflow_cast-bench
overflow_cast-bench c = omega (arith, (open_met area_floor _ _ _ _ c.requires).common.owner)

pub write-requires : goal.write-requires
write-requires c =
    let o = open_met area_floor _ _ _ _ c.requires in
    (o.common.right, o.inside, space_met _ _ _ o.common.few (sym c.is_full.ensures ∙ unbroken_by 25 _ _ (omega arith) c.in_ok-refuse_if.ensures))

pub overflow_add-result : goal.overflow_add-result
overflow_add-result c = omega (arith, (open_met area_floor _ _ _ _ c.requires).common.few, fit_most (length c.args.journal.now))
