-- The word read, and minus zero's made zero's. Assumes nothing.
use borrow.Author.Rules.{rules}
use mathlib.Core.Path.{ap, ◌∙◌}
use Rattle.grid.specs.Grid.{plain}
use Rattle.mates.proofs.point_word.Statement.{statement}
use Rattle.mates.proofs.point_word.Tie as tie

returns : tie.Need-returns
returns c = c.plain_of.ensures ∙ ap plain c.word_of-w.ensures

pub point_word_spec : {M : Type 1} → statement M
point_word_spec = tie.close (tie.spec (λ c κs. search rules) (λ c κs. search rules) returns)
