-- `layout::lines::is_named` meets its contract. Assumes nothing.
use Rattle.layout.proofs.HeldLaws.{named_not, named_by, named_asked}
use borrow.Author.Rules.{rules}
use Rattle.layout.proofs.lines.is_named.Statement.{statement}
use Rattle.layout.proofs.lines.is_named.Tie as tie

returns : tie.Need-returns-then-j-but
returns c = named_not _ _ _ c.if-j-but.true

same_name_requires : tie.Need-same_name-requires
same_name_requires c κs =
    let g = c.before.before.before.before.before.before.before in
    (g.requires.1.0, named_asked g.args.s.now g.args.starts.now _ _ g.args.j g.args.k c.line_at.ensures c.word.ensures g.requires.1.1)

returns_2 : tie.Need-returns
returns_2 c =
    let l = c.before.before in
    let g = l.before.before.before.before.before.before in
    named_by g.args.j g.args.but g.args.k g.args.w.now g.args.s.now g.args.starts.now _ _ _ l.if-j-but.false l.line_at.ensures c.word.ensures c.same_name.ensures

pub is_named_spec : {M : Type 1} → statement M
is_named_spec =
    tie.close
    (tie.spec returns (search rules) (search rules) (search rules) (search rules) same_name_requires returns_2)
