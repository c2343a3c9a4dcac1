-- `layout::lines::opened` meets its contract. Assumes nothing.
use Rattle.layout.proofs.LineLaws.{opens_some, opens_none}
use borrow.Author.Rules.{rules}
use Rattle.layout.proofs.lines.opened.Statement.{statement}
use Rattle.layout.proofs.lines.opened.Tie as tie

returns : tie.Need-returns-then-may_follow
returns c = opens_some _ _ _ _ c.section_of-k.ensures c.may_follow.ensures c.if-may_follow.true

returns_2 : tie.Need-returns
returns_2 c = opens_none _ _ _ _ c.section_of-k.ensures c.may_follow.ensures c.if-may_follow.false

pub opened_spec : {M : Type 1} → statement M
opened_spec = tie.close (tie.spec (search rules) (search rules) returns returns_2)
