-- `sight::lines::mark` meets its contract. Assumes nothing.
use mathlib.Core.Path.{sym, ◌∙◌}
use native.Mathlib.Omega.{arith}
use Rattle.sight.proofs.StepLaws.{rows_blank, rows_kept, rows_marked}
use borrow.Author.Rules.{rules}
use Rattle.sight.proofs.lines.mark.Statement.{statement}
use Rattle.sight.proofs.lines.mark.Tie as tie

returns : tie.Need-returns-then-word_count-eq0
returns c = rows_blank _ _ _ _ (sym c.word_count.ensures ∙ c.if-word_count-eq0.true)

returns_2 : tie.Need-returns-then-st-eq0
returns_2 c = rows_kept _ _ _ _ (λ e. c.if-word_count-eq0.false (c.word_count.ensures ∙ e)) c.if-st-eq0.true

with_mark_requires : tie.Need-with_mark-requires
with_mark_requires c κs = c.requires.1 (omega (arith, c.word_count.ensures, c.if-word_count-eq0.false)) (omega (arith, c.if-st-eq0.false))

returns_3 : tie.Need-returns
returns_3 c = rows_marked _ _ _ _ _ (λ e. c.if-word_count-eq0.false (c.word_count.ensures ∙ e)) c.if-st-eq0.false c.with_mark.ensures

pub mark_spec : {M : Type 1} → statement M
mark_spec =
    tie.close
    (tie.spec (search rules) returns returns_2 (search rules) (search rules) with_mark_requires (search rules) (search rules) returns_3)
