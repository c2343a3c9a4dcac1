-- A record more is the bench's, and counts, or it is not. Assumes nothing.
use Rattle.std.proofs.Common.{arith, refl, ◌≡◌, ◌+◌, ◌∙◌, sym, ℕ, true, false}
use native.Mathlib.Numerals.{add-one}
use Rattle.verdict.specs.Lists.{tally}
use Rattle.record.specs.declared.Rec.{Rec}
use Rattle.holding.specs.Held.{stored, is_of, held}
use Rattle.holding.proofs.held_by.Goals as goal
use Rattle.holding.proofs.held_by.Goals.{then-own, else-own}

module _ (at : ℕ → Rec) (bench i : ℕ) where
  own_counts : is_of bench (at i) ≡ true → held at (i + 1) bench ≡ held at i bench + 1
  unfolding held tally
  own_counts e = rw (add-one, e) (omega arith)

  other_not : is_of bench (at i) ≡ false → held at (i + 1) bench ≡ held at i bench
  unfolding held tally
  other_not e = rw (add-one, e) (omega arith)

pub loop-i-init : goal.loop-i-init
unfolding held tally
loop-i-init c = (omega arith, refl)

pub loop-i-preserved : goal.loop-i-preserved
loop-i-preserved c =
    let at = stored c.args.journal.now in
    let b = c.args.bench in
    let i = c.loop-i.i in
    let so = c.loop-i.invariant in
    elim c.if-own.branch [
      | then-own w ↦ rw w.n-is (omega arith, omega (arith, so.1, own_counts at b i (sym c.is_own-own.ensures ∙ w.if-own.true)))
      | else-own w ↦ rw w.n-is (omega arith, omega (arith, so.1, other_not at b i (sym c.is_own-own.ensures ∙ w.if-own.false)))
    ]
