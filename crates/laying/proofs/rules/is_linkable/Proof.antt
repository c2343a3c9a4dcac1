-- `record::is_linkable` meets its contract. Assumes nothing.
use borrow.Author.Tests.{le-leb, lt-leb}
use Rattle.laying.specs.Allowed.{linkable}
use Rattle.laying.proofs.rules.is_linkable.Statement.{statement}
use Rattle.laying.proofs.rules.is_linkable.Tie as tie

returns : tie.Need-returns-then-word-le63
unfolding linkable
returns c = rw (le-leb c.args.word 63 c.if-word-le63.true)

returns_2 : tie.Need-returns
unfolding linkable
returns_2 c = rw (lt-leb c.args.word 63 c.if-word-le63.false)

pub is_linkable_spec : {M : Type 1} → statement M
is_linkable_spec = tie.close (tie.spec returns returns_2)
