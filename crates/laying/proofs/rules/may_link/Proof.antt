-- By the signs. Assumes nothing.
use mathlib.Core.Path.{sym}
use mir.Syntax.{w32}
use mir.ValLaws.{to_z-of_z}
use Rattle.laying.proofs.Allowed.{link_low, link_high}
use Rattle.laying.proofs.rules.may_link.Statement.{statement}
use Rattle.laying.proofs.rules.may_link.Tie as tie

returns : tie.Need-returns-then-t-ltminus1
returns c = sym (link_low c.args.t (rw (to_z-of_z w32 c.args.t c.ranges.t) at c.if-t-ltminus1.true))

returns_2 : tie.Need-returns
returns_2 c =
    let t = c.args.t in
    let e = to_z-of_z w32 t c.ranges.t in
    rw e (link_high t (rw e at c.if-t-ltminus1.false))

pub may_link_spec : {M : Type 1} → statement M
may_link_spec = tie.close (tie.spec returns returns_2)
