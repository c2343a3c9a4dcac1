-- Each return is one range of the exponent's field (proofs/Patterns).
use Rattle.std.proofs.Common.{sym, ◌∙◌, leb-true, leb-false, ne_eqb}
use Rattle.grid.proofs.Patterns.{zero_bits, low_bits, high_bits, mid_rest, mid_far, mid_on}
use Rattle.grid.proofs.Answers.{size_on, size_off, size_by, size_no}
use Rattle.grid.proofs.size_of.Goals as goal
use Rattle.grid.proofs.size_of.Goals.{then-e-lt121-via-then-e-lt121, then-e-lt121-via-else-e-lt121+then-e-gt143, then-m-d-eq0, else-m-d-eq0}

pub returns-then-b-eq0 : goal.returns-then-b-eq0
returns-then-b-eq0 c = sym (size_on _ 0 (zero_bits _ c.if-b-eq0.true))

pub returns-then-e-lt121 : goal.returns-then-e-lt121
returns-then-e-lt121 c =
    elim c.then-e-lt121.branch [
      | then-e-lt121-via-then-e-lt121 w ↦ sym (size_off _ (low_bits _ c.if-b-eq0.false w.if-e-lt121.true))
      | then-e-lt121-via-else-e-lt121+then-e-gt143 w ↦ sym (size_off _ (high_bits _ w.if-e-gt143.true))
    ]

pub returns : goal.returns
returns c =
    c.then_some.ensures
    ∙ elim c.if-m-d-eq0.branch [
      | then-m-d-eq0 w ↦ size_by _ _ _ (λ e. mid_on _ c.if-e-lt121.false c.if-e-gt143.false w.if-m-d-eq0.true (leb-true _ _ (sym w.then_some-is ∙ e))) (λ e. mid_far _ c.if-e-lt121.false c.if-e-gt143.false (leb-false _ _ (sym w.then_some-is ∙ e)))
      | else-m-d-eq0 w ↦ size_no _ _ _ (w.then_some-is ∙ ne_eqb _ _ w.if-m-d-eq0.false) (mid_rest _ c.if-e-lt121.false c.if-e-gt143.false w.if-m-d-eq0.false)
    ]
