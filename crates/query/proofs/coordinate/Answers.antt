-- The coordinate's word, in sixty-fourths.
use Rattle.std.proofs.Common.{sym, ◌∙◌, arith}
use Rattle.grid.proofs.Grid.{grid_on}
use Rattle.query.proofs.Nesting.{on_each}
use Rattle.query.proofs.Reaches.{coordinate_on, coordinate_is, coordinate_small}
use Rattle.query.proofs.coordinate.Goals as goal

pub unwrap-requires : goal.unwrap-requires
unwrap-requires c =
    coordinate_on _ _ _ _ _ c.word_of.ensures c.scaled_of.ensures ∙ grid_on (on_each _ _ (c.requires.0.grid _ (omega arith)) _ (omega arith))

pub returns : goal.returns
returns c =
    let s = sym c.scaled_of.ensures ∙ c.unwrap.ensures in
    (coordinate_is _ c.args.v c.args.e _ _ s c.word_of.ensures, coordinate_small _ _ s)
