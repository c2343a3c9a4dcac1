-- `sight::lines::moved` meets its contract. Assumes nothing.
use mathlib.Core.Path.{sym, ap, ◌∙◌}
use native.Mathlib.Omega.{arith}
use Rattle.number.specs.Count.{is_count}
use Rattle.sight.proofs.StepLaws.{moved_blank, moved_seen, moved_observer}
use borrow.Author.Rules.{rules}
use Rattle.sight.proofs.lines.moved.Statement.{statement}
use Rattle.sight.proofs.lines.moved.Tie as tie

returns : tie.Need-returns-then-word_count-eq0
returns c = moved_blank _ _ _ (sym c.word_count.ensures ∙ c.if-word_count-eq0.true)

returns_2 : tie.Need-returns-then-st-gt0
returns_2 c = moved_seen _ _ _ (λ e. c.if-word_count-eq0.false (c.word_count.ensures ∙ e)) c.if-st-gt0.true

count_of_requires : tie.Need-count_of-left-requires
count_of_requires c κs = ap is_count c.word.ensures ∙ (c.requires (omega (arith, c.word_count.ensures, c.if-word_count-eq0.false)) (omega (arith, c.if-st-gt0.false))).0

with_mark_requires : tie.Need-with_mark-told-requires
with_mark_requires c κs = (c.requires (omega (arith, c.word_count.ensures, c.if-word_count-eq0.false)) (omega (arith, c.if-st-gt0.false))).1

returns_3 : tie.Need-returns
returns_3 c = moved_observer _ _ _ _ _ _ (λ e. c.if-word_count-eq0.false (c.word_count.ensures ∙ e)) c.if-st-gt0.false c.word.ensures c.count_of-left.ensures c.with_mark-told.ensures

pub moved_spec : {M : Type 1} → statement M
moved_spec =
    tie.close
    (tie.spec (search rules) returns (search rules) returns_2 (search rules) count_of_requires with_mark_requires returns_3)
