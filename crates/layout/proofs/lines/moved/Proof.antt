-- `layout::lines::moved` meets its contract. Assumes nothing.
use Rattle.layout.proofs.HeldLaws.{moved_blank, moved_entry, moved_open}
use mathlib.Core.Path.{sym, ◌∙◌}
use borrow.Author.Rules.{rules}
use Rattle.layout.proofs.lines.moved.Statement.{statement}
use Rattle.layout.proofs.lines.moved.Tie as tie

returns : tie.Need-returns-then-word_count-eq0
returns c = moved_blank _ _ (sym c.word_count.ensures ∙ c.if-word_count-eq0.true)

returns_2 : tie.Need-returns-then-st-gt0
returns_2 c =
    let d = c.before in
    let e = d.before.before in
    moved_entry _ _ _ (λ z. e.if-word_count-eq0.false (e.word_count.ensures ∙ z)) d.if-st-gt0.true c.one_more.ensures

returns_3 : tie.Need-returns
returns_3 c =
    let d = c.before.before.before.before in
    let e = d.before.before in
    moved_open _ _ _ _ _ _ (λ z. e.if-word_count-eq0.false (e.word_count.ensures ∙ z)) d.if-st-gt0.false c.word.ensures c.opened-sect.ensures c.word-2.ensures c.count_in-left.ensures

pub moved_spec : {M : Type 1} → statement M
moved_spec =
    tie.close
    (tie.spec (search rules) returns (search rules) returns_2 (search rules) (search rules) (search rules) (search rules) returns_3)
