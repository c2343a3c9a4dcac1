-- `sightform::print::put_if_seen` meets its contract. Assumes nothing.
use mathlib.Core.Path.{sym, ◌∙◌}
use Rattle.sightform.proofs.PrintLaws.{line_seen, line_unseen}
use borrow.Author.Rules.{rules}
use Rattle.sightform.proofs.print.put_if_seen.Statement.{statement}
use Rattle.sightform.proofs.print.put_if_seen.Tie as tie

returns : tie.Need-returns-then-is_seen
returns c = line_seen _ _ (sym c.is_seen.ensures ∙ c.if-is_seen.true) c.put_line.ensures

returns_2 : tie.Need-returns
returns_2 c = line_unseen _ _ (sym c.is_seen.ensures ∙ c.if-is_seen.false) _ _

pub put_if_seen_spec : {M : Type 1} → statement M
put_if_seen_spec =
    tie.close (tie.spec (search rules) (search rules) (search rules) returns returns_2)
