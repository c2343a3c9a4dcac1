-- The three tests in turn.
use Rattle.std.proofs.Common.{ℕ, ◌≡◌, Bool, true, Some, is_some, sym, ap, ◌∙◌}
use Rattle.std.proofs.lemmas.Int.{to_z-of_z}
use mir.Syntax.{w64}
use mir.Val.{SFits}
use lib.IntN.{ℤ, ◌+ℤ◌}
use Rattle.grid.specs.Grid.{within, largest_step}
use Rattle.grid.specs.Answers.{scaled_at}
use Rattle.grid.proofs.Nudges.{no_step, no_grid, by_sum}
use Rattle.grid.proofs.Answers.{on_is, v_is, v_small, within_bound}
use Rattle.wire.proofs.Signed.{Reads, read, param, plus, fits, stored}
use Rattle.grid.proofs.may_nudge.Goals as goal

-- what the first test says
asked : (n : ℤ) (r t : Bool) → SFits w64 n → r ≡ within largest_step (read n) → r ≡ t → within largest_step n ≡ t
asked n r t f e h = sym (e ∙ ap (within largest_step) (to_z-of_z w64 n f)) ∙ h

-- the sum as the machine works it out
sum : (b : ℕ) (n z : ℤ) → within largest_step n ≡ true → scaled_at b ≡ Some z → Reads 66176 (read z +ℤ read n) (z +ℤ n)
sum b n z h e = plus (param (v_small b z e) tt) (param (within_bound largest_step n h) tt)

pub returns-then-not-is_within : goal.returns-then-not-is_within
returns-then-not-is_within c = sym (no_step _ c.args.n (asked _ _ _ c.ranges.n c.is_within.ensures c.if-not-is_within.true))

pub returns-in_default : goal.returns-in_default
returns-in_default c = sym (no_grid _ _ (sym (on_is _) ∙ ap is_some (sym c.scaled_of.ensures ∙ c.in_default.is)))

pub overflow_add-z : goal.overflow_add-z
overflow_add-z c =
    fits (sum c.args.b c.args.n _ (asked _ _ _ c.ranges.n c.is_within.ensures c.if-not-is_within.false) (sym c.scaled_of.ensures ∙ c.in-Some.is)) tt

pub returns : goal.returns
returns c =
    let h = asked _ _ _ c.ranges.n c.is_within.ensures c.if-not-is_within.false in
    let e = sym c.scaled_of.ensures ∙ c.in-Some.is in
    c.is_within-2.ensures
    ∙ ap (within 65536) ((stored (sum c.args.b _ _ h e) tt).same ∙ ap (λ (v : ℤ). v +ℤ c.args.n) (v_is _ _ e))
    ∙ sym (by_sum _ c.args.n h (sym (on_is _) ∙ ap is_some e))
