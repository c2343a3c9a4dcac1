-- A table's span, asked. Assumes nothing.
use Rattle.tables.specs.Tables.{outside_at}
use borrow.Author.Rules.{rules}
use Rattle.header.proofs.outside_at.Statement.{statement}
use Rattle.header.proofs.outside_at.Tie as tie

returns : tie.Need-returns
unfolding outside_at
returns c = rw (← c.span_at.ensures, c.is_outside.ensures)

pub outside_at_spec : {M : Type 1} → statement M
outside_at_spec = tie.close (tie.spec (search rules) (search rules) returns)
