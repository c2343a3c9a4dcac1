-- By the tag. Assumes nothing.
use borrow.Author.Rules.{rules}
use borrow.Author.Tests.{eq-eqb, ne_eqb}
use Rattle.laying.specs.Area.{area_allowed}
use Rattle.laying.proofs.rules.is_allowed.Statement.{statement}
use Rattle.laying.proofs.rules.is_allowed.Tie as tie

returns : tie.Need-returns-then-tag-eq1
unfolding area_allowed
returns c = rw (eq-eqb c.args.tag 1 c.if-tag-eq1.true) c.is_permitted.ensures

returns_2 : tie.Need-returns-then-tag-eq2
unfolding area_allowed
returns_2 c =
    let tag = c.args.tag in
    rw (ne_eqb tag 1 c.if-tag-eq1.false, eq-eqb tag 2 c.if-tag-eq2.true) c.is_linkable.ensures

returns_3 : tie.Need-returns-then-tag-eq3
unfolding area_allowed
returns_3 c =
    let tag = c.args.tag in
    rw (ne_eqb tag 1 c.if-tag-eq1.false, ne_eqb tag 2 c.if-tag-eq2.false, eq-eqb tag 3 c.if-tag-eq3.true) c.is_on_grid.ensures

returns_4 : tie.Need-returns
unfolding area_allowed
returns_4 c =
    let tag = c.args.tag in
    rw (ne_eqb tag 1 c.if-tag-eq1.false, ne_eqb tag 2 c.if-tag-eq2.false, ne_eqb tag 3 c.if-tag-eq3.false)

pub is_allowed_spec : {M : Type 1} → statement M
is_allowed_spec = tie.close (tie.spec (search rules) returns (search rules) returns_2 (search rules) returns_3 returns_4)
