-- A size is told exactly on the grid.
use Rattle.std.proofs.Common.{ap, ◌∙◌, is_some}
use Rattle.grid.proofs.Answers.{size_some}
use Rattle.laying.proofs.rules.is_on_grid.Goals as goal

pub returns : goal.returns
returns c = c.is_some.ensures ∙ ap is_some c.size_of.ensures ∙ size_some _
