-- `triangle::sides_of` meets its contract. Assumes nothing.
use borrow.Author.Rules.{rules}
use mathlib.Core.Path.{◌∙◌}
use lib.IntN.{pos}
use Rattle.wire.proofs.Signed.{under, over, args3}
use Rattle.triangle.specs.Triangle.{all_left, all_right}
use Rattle.triangle.proofs.Triangle.{turn_left, turn_right, no_area, not_both}
use Rattle.triangle.proofs.sides_of.Statement.{statement}
use Rattle.triangle.proofs.sides_of.Tie as tie

returns : tie.Need-returns-then-area-gt0
returns c =
    let s = c.before.before in
    let h = over s.args.area (pos 0) s.ranges.area c.if-area-gt0.true in
    c.all_left.ensures ∙ args3 all_left _ _ _ s.ranges.d s.ranges.e s.ranges.f
    ∙ (turn_left _ _ _ s.args.area h (not_both s.args.area h))

returns_2 : tie.Need-returns-then-area-lt0
returns_2 c =
    let s = c.before.before.before in
    c.all_right.ensures
    ∙ args3 all_right _ _ _ s.ranges.d s.ranges.e s.ranges.f
    ∙ (turn_right _ _ _ s.args.area (over s.args.area (pos 0) s.ranges.area c.if-area-gt0.false) (under s.args.area (pos 0) s.ranges.area c.if-area-lt0.true))

returns_3 : tie.Need-returns
returns_3 c =
    let s = c.before.before in
    no_area _ _ _ s.args.area (over s.args.area (pos 0) s.ranges.area c.if-area-gt0.false) (under s.args.area (pos 0) s.ranges.area c.if-area-lt0.false)

pub sides_of_spec : {M : Type 1} → statement M
sides_of_spec =
    tie.close (tie.spec (search rules) returns (search rules) returns_2 returns_3)
