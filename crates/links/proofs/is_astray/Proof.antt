-- -1, or by the number of rooms. Assumes nothing.
use borrow.Author.Rules.{rules}
use native.Mathlib.Omega.{arith}
use Rattle.links.proofs.Meaning.{astray_none, astray_some}
use Rattle.links.proofs.is_astray.Statement.{statement}
use Rattle.links.proofs.is_astray.Tie as tie

returns : tie.Need-returns-then-t
returns c = astray_none _ _ _ _ c.word_of-t.ensures (omega (arith, c.if-t.true))

returns_2 : tie.Need-returns
returns_2 c = astray_some _ _ _ _ c.word_of-t.ensures (λ e. omega (arith, e, c.if-t.false))

pub is_astray_spec : {M : Type 1} → statement M
is_astray_spec = tie.close (tie.spec (λ c κs. search rules) returns returns_2)
