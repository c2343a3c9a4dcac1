-- The three mended corners, compared two by two. Assumes nothing.
use borrow.Author.Rules.{rules}
use native.Mathlib.Omega.{arith}
use mathlib.Core.Path.{sym, ◌∙◌}
use Rattle.tables.proofs.Reading.{sized_of}
use Rattle.mates.proofs.Verdict.{pinched_at, pinched_last}
use Rattle.mates.proofs.is_pinched.Statement.{statement}
use Rattle.mates.proofs.is_pinched.Tie as tie

returns : tie.Need-returns-then-a-b
returns c =
    let third = c.before in
    let s = third.before.before.before.before.before in
    let r = s.requires.0 in
    pinched_at _ (sized_of s.args.bytes.now r.0) r.1 r.2 _ r.3 0 (omega arith)
    (sym third.corner_of-a.ensures ∙ c.if-a-b.true ∙ third.corner_of-b.ensures)

returns_2 : tie.Need-returns-then-b-c
returns_2 c =
    let third = c.before.before in
    let s = third.before.before.before.before.before in
    let r = s.requires.0 in
    pinched_at _ (sized_of s.args.bytes.now r.0) r.1 r.2 _ r.3 1 (omega arith)
    (sym third.corner_of-b.ensures ∙ c.if-b-c.true ∙ third.corner_of-c.ensures)

returns_3 : tie.Need-returns
returns_3 c =
    let third = c.before.before in
    let s = third.before.before.before.before.before in
    let r = s.requires.0 in
    let x = third.corner_of-a.ensures in
    let y = third.corner_of-b.ensures in
    let z = third.corner_of-c.ensures in
    rw (z, x)
    (pinched_last _ (sized_of s.args.bytes.now r.0) r.1 r.2 _ r.3 (λ e. c.if-a-b.false (x ∙ e ∙ sym y)) (λ e. c.if-b-c.false (y ∙ e ∙ sym z)))

pub is_pinched_spec : {M : Type 1} → statement M
is_pinched_spec = tie.close (tie.spec (λ c κs. search rules) (λ c κs. search rules) (λ c κs. search rules) returns returns_2 returns_3)
