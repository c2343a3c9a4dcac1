-- By the number. Assumes nothing.
use borrow.Author.Rules.{rules}
use borrow.Author.Tests.{eq-eqb, ne_eqb}
use Rattle.inspect.specs.Line.{line_of}
use Rattle.inspect.proofs.line_of.Statement.{statement}
use Rattle.inspect.proofs.line_of.Tie as tie

returns : tie.Need-returns-then-r-eq0
unfolding line_of
returns c = rw (eq-eqb _ 0 c.if-r-eq0.true) c.put_accepted.ensures

returns_2 : tie.Need-returns
unfolding line_of
returns_2 c = rw (ne_eqb _ 0 c.if-r-eq0.false) c.put_refused.ensures

pub line_of_spec : {M : Type 1} → statement M
line_of_spec = tie.close (tie.spec (search rules) (search rules) returns (search rules) (search rules) returns_2)
