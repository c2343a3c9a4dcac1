-- The file's own counts but for the nodes. Assumes nothing.
use borrow.Author.Rules.{rules}
use Rattle.tables.specs.Parts.{parts_of}
use Rattle.tables.proofs.Reading.{sized_of}
use Rattle.fixed.specs.Written.{numbers_of}
use Rattle.plant.proofs.Form.{counts_of}
use Rattle.plant.proofs.planted_numbers.Statement.{statement}
use Rattle.plant.proofs.planted_numbers.Tie as tie

nodes_for_requires : tie.Need-nodes_for-nodes-requires
unfolding numbers_of
nodes_for_requires c κs = let s = c.before.before in rw c.numbers_of-n.ensures (sized_of s.args.bytes.now s.requires).faces

returns : tie.Need-returns
returns c = let s = c.before.before.before in counts_of (parts_of s.args.bytes.now) _ _ c.numbers_of-n.ensures c.nodes_for-nodes.ensures

pub planted_numbers_spec : {M : Type 1} → statement M
planted_numbers_spec = tie.close (tie.spec (λ c κs. search rules) nodes_for_requires returns)
