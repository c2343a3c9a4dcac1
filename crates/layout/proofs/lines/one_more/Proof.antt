-- `layout::lines::one_more` meets its contract. Assumes nothing.
use Rattle.layout.proofs.HeldLaws.{entered_by}
use borrow.Author.Rules.{rules}
use Rattle.layout.proofs.lines.one_more.Statement.{statement}
use Rattle.layout.proofs.lines.one_more.Tie as tie

returns : tie.Need-returns
returns c =
    let o = c.before.before in
    let t = o.before in
    entered_by _ _ _ _ _ t.one_if-rooms.ensures t.one_if-tracks.ensures o.one_if-obstacles.ensures c.one_if-hooks.ensures

pub one_more_spec : {M : Type 1} → statement M
one_more_spec = tie.close (tie.spec (search rules) (search rules) (search rules) (search rules) (search rules) returns)
