-- `layoutform::print::is_of` meets its contract. Assumes nothing.
use Rattle.layoutform.proofs.PrintLaws.{is_none, is_some}
use Rattle.layoutform.proofs.print.is_of.Statement.{statement}
use Rattle.layoutform.proofs.print.is_of.Tie as tie

returns : tie.Need-returns-then-old-eq0
returns c = let g = c.before.before.before in is_none _ _ g.requires.0 c.if-old-eq0.true

same_name_requires : tie.Need-same_name-requires
same_name_requires c κs = let g = c.before.before.before in (g.requires.0, is_some _ g.requires.1 c.if-old-eq0.false)

returns_2 : tie.Need-returns
returns_2 c = c.same_name.ensures

pub is_of_spec : {M : Type 1} → statement M
is_of_spec = tie.close (tie.spec returns same_name_requires returns_2)
