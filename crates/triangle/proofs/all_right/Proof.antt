-- `triangle::all_right` meets its contract. Assumes nothing.
use mathlib.Core.Path.{ap, ◌∙◌}
use mathlib.Core.Bool.{not}
use lib.IntN.{ℤ, pos}
use lib.Signed.{lt_z}
use mir.Syntax.{w64}
use mir.ValLaws.{to_z-of_z}
use Rattle.wire.proofs.Signed.{over}
use Rattle.triangle.proofs.Triangle.{right_no, right_no_2, right_last}
use Rattle.triangle.proofs.all_right.Statement.{statement}
use Rattle.triangle.proofs.all_right.Tie as tie

returns : tie.Need-returns-then-d-gt0
returns c = right_no _ _ _ (over c.args.d (pos 0) c.ranges.d c.if-d-gt0.true)

returns_2 : tie.Need-returns-then-e-gt0
returns_2 c =
    let s = c.before.before in
    right_no_2 _ _ _ (over s.args.d (pos 0) s.ranges.d c.if-d-gt0.false) (over s.args.e (pos 0) s.ranges.e c.if-e-gt0.true)

returns_3 : tie.Need-returns
returns_3 c =
    let s = c.before.before in
    ap (λ (z : ℤ). not (lt_z (pos 0) z)) (to_z-of_z w64 s.args.f s.ranges.f)
    ∙ right_last s.args.d s.args.e s.args.f (over s.args.d (pos 0) s.ranges.d c.if-d-gt0.false) (over s.args.e (pos 0) s.ranges.e c.if-e-gt0.false)

pub all_right_spec : {M : Type 1} → statement M
all_right_spec = tie.close (tie.spec returns returns_2 returns_3)
