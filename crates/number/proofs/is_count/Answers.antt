use Rattle.std.proofs.Common.{◌∙◌, sym}
use borrow.Author.Tests.{eqb-true, eqb-false}
use Rattle.verdict.proofs.Bools.{clash}
use Rattle.number.proofs.CountLaws.{count_by, count_letters, count_not}
use Rattle.number.proofs.is_count.Goals as goal
use Rattle.number.proofs.is_count.Goals.{then-is_within, else-is_within}

pub returns-then-digits-n : goal.returns-then-digits-n
returns-then-digits-n c =
    elim c.if-is_within.branch [
      | then-is_within w ↦ count_by _ _ (sym c.is_within.ensures ∙ w.if-is_within.true) w.digits.ensures (eqb-true _ _ (sym w.value-is ∙ c.if-digits-n.true)) _ c.said.ensures
      | else-is_within w ↦ clash c.if-digits-n.true (w.value-is ∙ w.if-is_within.false)
    ]

pub returns-else-digits-n : goal.returns-else-digits-n
returns-else-digits-n c =
    c.if-digits-n.false
    ∙ elim c.if-is_within.branch [
      | then-is_within w ↦ count_letters _ _ w.digits.ensures (eqb-false _ _ (sym w.value-is ∙ c.if-digits-n.false))
      | else-is_within w ↦ count_not _ (sym c.is_within.ensures ∙ w.if-is_within.false)
    ]
