-- By the tag. Assumes nothing.
use native.Mathlib.Omega.{arith}
use Prim.Native.Nat.{◌<◌}
use mathlib.Core.Path.{◌∙◌}
use Rattle.laying.proofs.Area.{faces_of, edges_of, paint_place, link_place, nudge_place, nudge_inside, field_inside}
use Rattle.laying.proofs.words.field_at.Statement.{statement}
use Rattle.laying.proofs.words.field_at.Tie as tie

place_of_requires : tie.Need-place_of-requires
place_of_requires c κs =
    let s = c.before.before in
    (s.requires.0, omega arith, rw (faces_of s.args.floor.now s.args.tag c.if-tag-eq1.true) at s.requires.1, omega arith)

returns : tie.Need-returns-then-tag-eq1
returns c =
    let a = c.args in
    (c.place_of.ensures.0 ∙ paint_place a.floor.now a.tag a.place c.if-tag-eq1.true, c.place_of.ensures.1)

place_of_requires_2 : tie.Need-place_of-requires-then-tag-eq2
place_of_requires_2 c κs =
    let s = c.before.before.before in
    (s.requires.0, omega arith, rw (edges_of s.args.floor.now s.args.tag c.if-tag-eq2.true) at s.requires.1, omega arith)

returns_2 : tie.Need-returns-then-tag-eq2
returns_2 c =
    let a = c.args in
    (c.place_of-then-tag-eq2.ensures.0 ∙ link_place a.floor.now a.tag a.place c.if-tag-eq2.true, c.place_of-then-tag-eq2.ensures.1)

few : (c : tie.Else-tag-eq2) → c.args.place < 12
few c =
    let s = c.before.before.before in
    nudge_inside s.args.floor.now s.requires.0 s.args.tag s.args.place s.requires.1 c.if-tag-eq1.false c.if-tag-eq2.false

mul_result : tie.Need-overflow_mul-result
mul_result c = omega (arith, few c)

add_result : tie.Need-overflow_add-result
add_result c = omega (arith, few c)

returns_3 : tie.Need-returns
returns_3 c =
    let s = c.before.before.before in
    let b = s.args.floor.now in
    let e = nudge_place b s.args.tag s.args.place c.if-tag-eq1.false c.if-tag-eq2.false in
    (e, omega (arith, e, field_inside b s.requires.0 s.args.tag s.args.place s.requires.1))

pub field_at_spec : {M : Type 1} → statement M
field_at_spec = tie.close (tie.spec place_of_requires returns place_of_requires_2 returns_2 mul_result add_result returns_3)
