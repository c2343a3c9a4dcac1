-- The coordinate's word, asked of the grid.
use Rattle.std.proofs.Common.{◌∙◌}
use Rattle.query.proofs.Reaches.{coordinate_on}
use Rattle.query.proofs.is_on_grid.Goals as goal

pub returns : goal.returns
returns c = c.is_some.ensures ∙ coordinate_on _ _ _ _ _ c.word_of.ensures c.scaled_of.ensures
