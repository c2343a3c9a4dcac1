-- `layout::lines::section_of` meets its contract: each keyword in turn. Assumes nothing.
use mathlib.Core.Path.{sym, ◌∙◌}
use Rattle.layout.proofs.LineLaws.{section_1, section_2, section_3, section_4, section_5, section_6, section_0}
use Rattle.layout.specs.Grammar.{beginlayout, roomcount, trackcount, obstaclecount, doorhookcount, donelayout}
use borrow.Author.Rules.{rules}
use Rattle.layout.proofs.lines.section_of.Statement.{statement}
use Rattle.layout.proofs.lines.section_of.Tie as tie

returns : tie.Need-returns-then-same_word
unfolding beginlayout
returns c = section_1 _ (sym c.same_word.ensures ∙ c.if-same_word.true)

returns_2 : tie.Need-returns-then-same_word-2
unfolding beginlayout roomcount
returns_2 c =
    let c1 = c.before.before.before in
    section_2 _ (sym c1.same_word.ensures ∙ c1.if-same_word.false) (sym c.same_word-2.ensures ∙ c.if-same_word-2.true)

returns_3 : tie.Need-returns-then-same_word-3
unfolding beginlayout roomcount trackcount
returns_3 c =
    let c2 = c.before.before.before in
    let c1 = c2.before.before.before in
    section_3 _ (sym c1.same_word.ensures ∙ c1.if-same_word.false) (sym c2.same_word-2.ensures ∙ c2.if-same_word-2.false) (sym c.same_word-3.ensures ∙ c.if-same_word-3.true)

returns_4 : tie.Need-returns-then-same_word-4
unfolding beginlayout roomcount trackcount obstaclecount
returns_4 c =
    let c3 = c.before.before.before in
    let c2 = c3.before.before.before in
    let c1 = c2.before.before.before in
    section_4 _ (sym c1.same_word.ensures ∙ c1.if-same_word.false) (sym c2.same_word-2.ensures ∙ c2.if-same_word-2.false) (sym c3.same_word-3.ensures ∙ c3.if-same_word-3.false) (sym c.same_word-4.ensures ∙ c.if-same_word-4.true)

returns_5 : tie.Need-returns-then-same_word-5
unfolding beginlayout roomcount trackcount obstaclecount doorhookcount
returns_5 c =
    let c4 = c.before.before.before in
    let c3 = c4.before.before.before in
    let c2 = c3.before.before.before in
    let c1 = c2.before.before.before in
    section_5 _ (sym c1.same_word.ensures ∙ c1.if-same_word.false) (sym c2.same_word-2.ensures ∙ c2.if-same_word-2.false) (sym c3.same_word-3.ensures ∙ c3.if-same_word-3.false) (sym c4.same_word-4.ensures ∙ c4.if-same_word-4.false) (sym c.same_word-5.ensures ∙ c.if-same_word-5.true)

returns_6 : tie.Need-returns-then-same_word-6
unfolding beginlayout roomcount trackcount obstaclecount doorhookcount donelayout
returns_6 c =
    let c5 = c.before.before.before in
    let c4 = c5.before.before.before in
    let c3 = c4.before.before.before in
    let c2 = c3.before.before.before in
    let c1 = c2.before.before.before in
    section_6 _ (sym c1.same_word.ensures ∙ c1.if-same_word.false) (sym c2.same_word-2.ensures ∙ c2.if-same_word-2.false) (sym c3.same_word-3.ensures ∙ c3.if-same_word-3.false) (sym c4.same_word-4.ensures ∙ c4.if-same_word-4.false) (sym c5.same_word-5.ensures ∙ c5.if-same_word-5.false) (sym c.same_word-6.ensures ∙ c.if-same_word-6.true)

returns_7 : tie.Need-returns
unfolding beginlayout roomcount trackcount obstaclecount doorhookcount donelayout
returns_7 c =
    let c5 = c.before.before.before in
    let c4 = c5.before.before.before in
    let c3 = c4.before.before.before in
    let c2 = c3.before.before.before in
    let c1 = c2.before.before.before in
    section_0 _ (sym c1.same_word.ensures ∙ c1.if-same_word.false) (sym c2.same_word-2.ensures ∙ c2.if-same_word-2.false) (sym c3.same_word-3.ensures ∙ c3.if-same_word-3.false) (sym c4.same_word-4.ensures ∙ c4.if-same_word-4.false) (sym c5.same_word-5.ensures ∙ c5.if-same_word-5.false) (sym c.same_word-6.ensures ∙ c.if-same_word-6.false)

pub section_of_spec : {M : Type 1} → statement M
section_of_spec =
    tie.close
    (tie.spec (search rules) returns (search rules) returns_2 (search rules) returns_3 (search rules) returns_4 (search rules) returns_5 (search rules) returns_6 returns_7)
