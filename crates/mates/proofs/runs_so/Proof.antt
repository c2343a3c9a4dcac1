-- Both ends are compared. Assumes nothing.
use borrow.Author.Rules.{rules}
use borrow.Author.Tests.{eq-eqb, ne_eqb}
use Rattle.pairs.specs.Halves.{runs}
use Rattle.mates.proofs.runs_so.Statement.{statement}
use Rattle.mates.proofs.runs_so.Tie as tie

returns : tie.Need-returns-then-from_of-a
unfolding runs
returns c = rw (← c.from_of.ensures.0, ← c.to_of.ensures.0, eq-eqb _ _ c.if-from_of-a.true)

returns_2 : tie.Need-returns
unfolding runs
returns_2 c = rw (← c.from_of.ensures.0, ne_eqb _ _ c.if-from_of-a.false)

pub runs_so_spec : {M : Type 1} → statement M
runs_so_spec = tie.close (tie.spec (λ c κs. search rules) (λ c κs. search rules) returns returns_2)
