-- `layout::lines::is_entry_long` meets its contract. Assumes nothing.
use Rattle.layout.proofs.LineLaws.{long_nine, long_more, long_four}
use Rattle.layout.proofs.lines.is_entry_long.Statement.{statement}
use Rattle.layout.proofs.lines.is_entry_long.Tie as tie

returns : tie.Need-returns-then-n-eq9
returns c = long_nine _ _ c.if-k-eq5.true c.if-n-eq9.true

returns_2 : tie.Need-returns-then-k-eq5
returns_2 c = long_more _ _ c.if-k-eq5.true c.if-n-eq9.false

returns_3 : tie.Need-returns
returns_3 c = long_four _ _ c.if-k-eq5.false

pub is_entry_long_spec : {M : Type 1} → statement M
is_entry_long_spec = tie.close (tie.spec returns returns_2 returns_3)
