-- The definition, computed. Assumes nothing.
use borrow.Author.Rules.{rules}
use native.Mathlib.Omega.{arith}
use mathlib.Core.Path.{refl}
use Rattle.mates.specs.Keys.{point_chain, point_key}
use Rattle.mates.proofs.point_key.Statement.{statement}
use Rattle.mates.proofs.point_key.Tie as tie

returns : tie.Need-returns
unfolding point_key point_chain
returns c = (rw (c.point_word-x.ensures, c.point_word-y.ensures, c.point_word-z.ensures) refl, omega arith)

pub point_key_spec : {M : Type 1} → statement M
point_key_spec = tie.close (tie.spec (λ c κs. search rules) (search rules) (λ c κs. search rules) (search rules) (λ c κs. search rules) (search rules) (search rules) (search rules) (search rules) (search rules) (search rules) returns)
