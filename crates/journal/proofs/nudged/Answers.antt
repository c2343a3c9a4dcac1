-- The verdict before the old word is read, its own rule, then the edit.
use Rattle.std.proofs.Common.{◌≡◌, sym, ap, ap₂, ◌∙◌, ℕ, ℤ, Bool, not, List, is_some, unwrap_or}
use Rattle.std.proofs.lemmas.Int.{to_z-of_z}
use mir.Syntax.{w32, w64}
use mir.Val.{SFits, to_z, of_z}
use Rattle.verdict.specs.declared.Refusal.TheVariants.{Nudge}
use Rattle.wire.specs.Bytes.{u32_at}
use Rattle.wire.proofs.Signed.{wider}
use Rattle.grid.specs.Answers.{nudged_at}
use Rattle.grid.proofs.Answers.{ok_is, bits_moved}
use Rattle.verdict.specs.Verdict.{rule}
use Rattle.verdict.proofs.Results.{accepts}
use Rattle.laying.specs.Area.{area_field, area_floor}
use Rattle.journal.specs.Wish.{nudge_wish}
use Rattle.journal.specs.Step.{lent, common_verdict, open_verdict}
use Rattle.journal.specs.Calls.{step}
use Rattle.journal.proofs.Edits.{open_met, own_refuses, edit_as}
use Rattle.journal.proofs.nudged.Goals as goal

-- the float's word
abbrev old : List ℕ → ℕ → ℕ
old fl place = u32_at fl (area_field fl 3 place)

-- the step, through the two widths
step_is : (by n : ℤ) → SFits w32 by → n ≡ to_z w32 (of_z w32 by) → to_z w64 (of_z w64 n) ≡ by
step_is by n h e = rw (e ∙ to_z-of_z w32 by h) (to_z-of_z w64 by (wider by h))

pub word_at-old-requires : goal.word_at-old-requires
unfolding open_verdict common_verdict
word_at-old-requires c =
    let a = c.args in
    let o = open_met area_floor a.bench 3 a.place (lent a.floor.now a.journal.now a.f) (accepts c.in_ok-open_verdict.ensures) in
    (o.common.right, o.inside)

pub returns-in_default : goal.returns-in_default
unfolding step open_verdict common_verdict rule
returns-in_default c =
    let a = c.args in
    let m = c.in_default.ensures ∙ ap₂ nudged_at c.word_at-old.ensures (step_is a.by _ c.ranges.by c.widened.ensures) in
    own_refuses area_floor a.bench (nudge_wish a.place a.by) (lent a.floor.now a.journal.now a.f) (record { refusal = Nudge; place = a.place }) c.in_ok-open_verdict.ensures
    (ap (λ (t : Bool). rule 24 (not t) a.place) (ap is_some m ∙ ok_is (old a.floor.now a.place) a.by))

pub returns : goal.returns
unfolding step
returns c =
    let a = c.args in
    let w = old a.floor.now a.place in
    let m = c.in-Some.ensures ∙ ap₂ nudged_at c.word_at-old.ensures (step_is a.by _ c.ranges.by c.widened.ensures) in
    let h = sym (ap is_some m ∙ ok_is w a.by) in
    c.edit.ensures
    ∙ edit_as area_floor a.bench (nudge_wish a.place a.by) (lent a.floor.now a.journal.now a.f) _ h (ap (λ o. unwrap_or o 0) m ∙ bits_moved w a.by _ h)
