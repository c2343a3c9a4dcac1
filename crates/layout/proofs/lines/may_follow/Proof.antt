-- `layout::lines::may_follow` meets its contract. Assumes nothing.
use Rattle.layout.proofs.LineLaws.{follows_nought, follows_first, follows_not, follows_by}
use borrow.Author.Rules.{rules}
use Rattle.layout.proofs.lines.may_follow.Statement.{statement}
use Rattle.layout.proofs.lines.may_follow.Tie as tie

returns : tie.Need-returns-then-k-eq0
returns c = follows_nought _ _ c.if-k-eq0.true

returns_2 : tie.Need-returns-then-k-le2
returns_2 c = follows_first _ _ c.if-k-eq0.false c.if-k-le2.true

returns_3 : tie.Need-returns-then-sect-lt2
returns_3 c = follows_not _ _ c.if-k-le2.false c.if-sect-lt2.true

returns_4 : tie.Need-returns
returns_4 c = follows_by _ _ c.if-k-le2.false c.if-sect-lt2.false

pub may_follow_spec : {M : Type 1} → statement M
may_follow_spec = tie.close (tie.spec returns (search rules) returns_2 returns_3 returns_4)
