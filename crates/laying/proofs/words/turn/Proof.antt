-- By whether it may be laid on. Assumes nothing.
use borrow.Author.Rules.{rules}
use mathlib.Core.Path.{sym, ◌∙◌}
use Rattle.laying.specs.Area.{area_floor}
use Rattle.laying.proofs.Laying.{fits_inside}
use Rattle.laying.proofs.words.turn.Statement.{statement}
use Rattle.laying.proofs.words.turn.Tie as tie

lay_on_requires : tie.Need-lay_on-requires
lay_on_requires c κs =
    let s = c.before.before.before.before in
    (s.requires, fits_inside area_floor s.args.floor.now s.args.r (sym c.may_lay.ensures ∙ c.if-may_lay.true))

returns : tie.Need-returns-then-may_lay
returns c =
    let e = sym c.may_lay.ensures ∙ c.if-may_lay.true in
    (sym e, rw e c.lay_on.ensures)

returns_2 : tie.Need-returns
returns_2 c =
    let e = sym c.may_lay.ensures ∙ c.if-may_lay.false in
    (sym e, rw e)

pub turn_spec : {M : Type 1} → statement M
turn_spec = tie.close (tie.spec (search rules) lay_on_requires (search rules) returns (search rules) returns_2)
