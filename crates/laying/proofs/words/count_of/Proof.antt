-- By the tag. Assumes nothing.
use native.Mathlib.Omega.{arith}
use mathlib.Core.Path.{refl}
use borrow.Author.Tests.{eq-eqb, ne_eqb}
use Rattle.laying.specs.Area.{area_count}
use Rattle.laying.proofs.words.count_of.Statement.{statement}
use Rattle.laying.proofs.words.count_of.Tie as tie

count_of_requires : tie.Need-count_of-requires
count_of_requires c κs = let s = c.before.before in (s.requires, omega arith)

returns : tie.Need-returns-then-tag-eq1
unfolding area_count
returns c = rw (eq-eqb c.args.tag 1 c.if-tag-eq1.true) c.count_of.ensures.0

count_of_requires_2 : tie.Need-count_of-requires-then-tag-eq2
count_of_requires_2 c κs = let s = c.before.before.before in (s.requires, omega arith)

returns_2 : tie.Need-returns-then-tag-eq2
unfolding area_count
returns_2 c =
    let tag = c.args.tag in
    rw (ne_eqb tag 1 c.if-tag-eq1.false, eq-eqb tag 2 c.if-tag-eq2.true) c.count_of-then-tag-eq2.ensures.0

returns_3 : tie.Need-returns-then-tag-eq3
unfolding area_count
returns_3 c =
    let tag = c.args.tag in
    rw (ne_eqb tag 1 c.if-tag-eq1.false, ne_eqb tag 2 c.if-tag-eq2.false, eq-eqb tag 3 c.if-tag-eq3.true) refl

returns_4 : tie.Need-returns
unfolding area_count
returns_4 c =
    let tag = c.args.tag in
    rw (ne_eqb tag 1 c.if-tag-eq1.false, ne_eqb tag 2 c.if-tag-eq2.false, ne_eqb tag 3 c.if-tag-eq3.false)

pub count_of_spec : {M : Type 1} → statement M
count_of_spec = tie.close (tie.spec count_of_requires returns count_of_requires_2 returns_2 returns_3 returns_4)
