-- `layout::lines::count_in` meets its contract. Assumes nothing.
use mathlib.Core.Path.{sym, ◌∙◌}
use Rattle.layout.proofs.LineLaws.{count_in_some, count_in_none}
use borrow.Author.Rules.{rules}
use Rattle.layout.proofs.lines.count_in.Statement.{statement}
use Rattle.layout.proofs.lines.count_in.Tie as tie

count_of_requires : tie.Need-count_of-requires
count_of_requires c κs = sym c.is_count.ensures ∙ c.if-is_count.true

returns : tie.Need-returns-then-is_count
returns c = count_in_some _ _ (sym c.is_count.ensures ∙ c.if-is_count.true) c.count_of.ensures

returns_2 : tie.Need-returns
returns_2 c = count_in_none _ (sym c.is_count.ensures ∙ c.if-is_count.false)

pub count_in_spec : {M : Type 1} → statement M
count_in_spec = tie.close (tie.spec (search rules) count_of_requires returns returns_2)
