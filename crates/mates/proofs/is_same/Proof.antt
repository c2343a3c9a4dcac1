-- Three words compared, one after another. Assumes nothing.
use borrow.Author.Rules.{rules}
use native.Mathlib.Omega.{arith}
use mathlib.Core.Path.{sym, ◌∙◌}
use Rattle.wire.specs.Words.{Words}
use Rattle.tables.specs.Parts.{parts_of, table_of}
use Rattle.mates.proofs.Points.{vertex_words, words_differ, third_tells}
use Rattle.mates.proofs.is_same.Statement.{statement}
use Rattle.mates.proofs.is_same.Tie as tie

-- the coordinates are words
words : (k : tie.After-shared_slice_known-1) → Words (table_of (parts_of k.args.bytes.now) 0)
words k = vertex_words k.args.bytes.now k.requires.0 (record { byte = λ i. omega (arith, k.shared_slice_known-1.given i) })

returns : tie.Need-returns-then-point_word
returns c =
    let k = c.before.before.before in
    let s = k.requires in
    words_differ _ s.1 (words k) _ _ s.2 s.3 0 (omega arith)
    (λ e. c.if-point_word.true (c.point_word.ensures ∙ e ∙ sym c.point_word-2.ensures))

returns_2 : tie.Need-returns-then-point_word-2
returns_2 c =
    let k = c.before.before.before.before.before.before in
    let s = k.requires in
    words_differ _ s.1 (words k) _ _ s.2 s.3 1 (omega arith)
    (λ e. c.if-point_word-2.true (c.point_word-3.ensures ∙ e ∙ sym c.point_word-4.ensures))

returns_3 : tie.Need-returns
returns_3 c =
    let second = c.before.before in
    let first = second.before.before.before in
    let k = first.before.before.before in
    let s = k.requires in
    rw (c.point_word-5.ensures, c.point_word-6.ensures)
    (third_tells _ s.1 (words k) _ _ s.2 s.3 (sym first.point_word.ensures ∙ first.if-point_word.false ∙ first.point_word-2.ensures)
    (sym second.point_word-3.ensures ∙ second.if-point_word-2.false ∙ second.point_word-4.ensures))

pub is_same_spec : {M : Type 1} → statement M
is_same_spec = tie.close (tie.spec (λ c κs. search rules) (λ c κs. search rules) returns (λ c κs. search rules) (λ c κs. search rules) returns_2 (λ c κs. search rules) (λ c κs. search rules) returns_3)
