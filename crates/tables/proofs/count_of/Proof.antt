-- A table's count is that of the parts. Assumes nothing.
use borrow.Author.Rules.{rules}
use native.Mathlib.Omega.{arith}
use mathlib.Core.Path.{ap}
use Rattle.tables.specs.declared.Table.{Table}
use Rattle.tables.proofs.Right.{header_met}
use Rattle.tables.proofs.Reading.{read_at, count_is}
use Rattle.tables.proofs.count_of.Statement.{statement}
use Rattle.tables.proofs.count_of.Tie as tie

u32_at_requires : tie.Need-u32_at-requires
u32_at_requires c κs =
    let s = c.before.before in
    omega (arith, c.table_at-t.ensures.1, (header_met s.args.bytes.now s.requires.0).long)

returns : tie.Need-returns
returns c =
    let s = c.before.before.before in
    (read_at _ c.u32_at.ensures (ap (λ (t : Table). t.count) c.table_at-t.ensures.0) (count_is s.args.bytes.now s.args.k s.requires.1), omega arith)

pub count_of_spec : {M : Type 1} → statement M
count_of_spec = tie.close (tie.spec (search rules) u32_at_requires (search rules) returns)
