-- `sight::is_seen` meets its contract. Assumes nothing.
use mathlib.Core.Path.{refl}
use Rattle.sight.specs.Rows.{sees}
use Rattle.sight.proofs.MarkLaws.{none_past}
use borrow.Author.Rules.{rules}
use Rattle.sight.proofs.is_seen.Statement.{statement}
use Rattle.sight.proofs.is_seen.Tie as tie

returns : tie.Need-returns-then-j-lt64
returns c = unfold sees in refl

returns_2 : tie.Need-returns
returns_2 c = none_past _ _ c.ranges.row.fits c.if-j-lt64.false

pub is_seen_spec : {M : Type 1} → statement M
is_seen_spec = tie.close (tie.spec (search rules) returns returns_2)
