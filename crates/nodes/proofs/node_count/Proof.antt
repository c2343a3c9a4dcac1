-- The count of nodes is that of the parts, and rule 4 bounds it. Assumes nothing.
use native.Mathlib.Omega.{arith}
use Rattle.tables.proofs.Reading.{sized_of}
use Rattle.nodes.proofs.node_count.Statement.{statement}
use Rattle.nodes.proofs.node_count.Tie as tie

count_of_requires : tie.Need-count_of-requires
count_of_requires c κs = (c.requires, omega arith)

returns : tie.Need-returns
returns c = (c.count_of.ensures.0, omega (arith, c.count_of.ensures.0, (sized_of _ c.requires).nodes))

pub node_count_spec : {M : Type 1} → statement M
node_count_spec = tie.close (tie.spec count_of_requires returns)
