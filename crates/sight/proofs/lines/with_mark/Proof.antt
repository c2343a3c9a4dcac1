-- `sight::lines::with_mark` meets its contract. Assumes nothing.
use Rattle.sight.proofs.MarkLaws.{shifted, mark_fits}
use borrow.Author.Rules.{rules}
use Rattle.sight.proofs.lines.with_mark.Statement.{statement}
use Rattle.sight.proofs.lines.with_mark.Tie as tie

add_result : tie.Need-overflow_add-result
add_result c = record { fits = rw (shifted c.args.row c.args.j c.requires.0) (mark_fits _ _ 64 c.requires.0 c.ranges.row.fits c.requires.1) }

returns : tie.Need-returns
returns c = shifted c.args.row c.args.j c.requires.0

pub with_mark_spec : {M : Type 1} → statement M
with_mark_spec = tie.close (tie.spec (search rules) add_result returns)
