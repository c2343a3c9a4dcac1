-- Test by test. Assumes nothing.
use borrow.Author.Rules.{rules}
use mathlib.Core.Path.{sym}
use Rattle.laying.proofs.Allowed.{permitted_old, permitted_new, permitted_by}
use Rattle.laying.proofs.rules.is_permitted.Statement.{statement}
use Rattle.laying.proofs.rules.is_permitted.Tie as tie

returns : tie.Need-returns-then-old-gt22
returns c = sym (permitted_old c.args.old c.args.new c.if-old-gt22.true)

returns_2 : tie.Need-returns-then-new-gt22
returns_2 c = sym (permitted_new c.args.old c.args.new c.if-new-gt22.true)

returns_3 : tie.Need-returns-then-is_walkable
returns_3 c =
    let s = c.before.before.before.before.before in
    rw (permitted_by s.args.old s.args.new c.if-old-gt22.false c.if-new-gt22.false, ← c.is_walkable.ensures, c.if-is_walkable.true)
    c.is_walkable-w.ensures

returns_4 : tie.Need-returns
returns_4 c =
    let s = c.before.before.before.before.before in
    rw (permitted_by s.args.old s.args.new c.if-old-gt22.false c.if-new-gt22.false, ← c.is_walkable.ensures, c.if-is_walkable.false, c.is_walkable-w.ensures)

pub is_permitted_spec : {M : Type 1} → statement M
is_permitted_spec = tie.close (tie.spec returns returns_2 (search rules) (search rules) returns_3 returns_4)
