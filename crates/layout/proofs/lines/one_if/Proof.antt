-- `layout::lines::one_if` meets its contract. Assumes nothing.
use borrow.Author.Rules.{rules}
use Rattle.layout.proofs.lines.one_if.Statement.{statement}
use Rattle.layout.proofs.lines.one_if.Tie as tie

returns : tie.Need-returns-then-own
returns c = rw c.if-own.true

returns_2 : tie.Need-returns
returns_2 c = rw c.if-own.false

pub one_if_spec : {M : Type 1} → statement M
one_if_spec = tie.close (tie.spec (search rules) returns returns_2)
