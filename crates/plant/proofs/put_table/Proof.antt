-- The tree where the nodes stand; every other table is the file's own. Assumes nothing.
use borrow.Author.Rules.{rules}
use native.Mathlib.Omega.{arith}
use mathlib.Core.Path.{ap}
use lib.ListN.{length}
use Rattle.tables.specs.Parts.{parts_of}
use Rattle.plant.proofs.Form.{nodes_table, grown_table, stays_long, copied_table}
use Rattle.plant.proofs.put_table.Statement.{statement}
use Rattle.plant.proofs.put_table.Tie as tie

put_tree_requires : tie.Need-put_tree-requires
put_tree_requires c κs =
    let s = c.before.before.before.before in
    let m = s.requires.1 in
    (record { right = s.requires.0; finite = m.finite; cornered = m.cornered }, s.requires.3, omega (arith, s.requires.4, ap length (nodes_table (parts_of s.args.bytes.now) s.args.k c.if-k-eq-NODES.true)))

returns : tie.Need-returns-then-k-eq-NODES
returns c =
    let t = c.before.before.before.before in
    let s = t.before.before.before in
    grown_table (parts_of s.args.bytes.now) s.args.k _ _ _ _ t.if-k-eq-NODES.true c.put_tree.ensures

copy_table_requires : tie.Need-copy_table-requires
copy_table_requires c κs =
    let s = c.before.before.before.before in
    let l = s.requires.2 in
    (s.requires.0, l, omega (arith, s.requires.4, stays_long s.args.bytes.now s.requires.0 s.args.k l c.if-k-eq-NODES.false))

returns_2 : tie.Need-returns
returns_2 c =
    let e = c.before.before.before.before in
    let known = e.before.before in
    let s = known.before in
    copied_table s.args.bytes.now s.requires.0 s.args.k s.requires.2 e.if-k-eq-NODES.false (record { byte = λ i. omega (arith, known.shared_slice_known-1.given i) }) _ _ _ _ c.copy_table.ensures

pub put_table_spec : {M : Type 1} → statement M
put_table_spec = tie.close (tie.spec put_tree_requires (search rules) returns copy_table_requires (search rules) returns_2)
