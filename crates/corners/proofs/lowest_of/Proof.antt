-- `corners::lowest_of` meets its contract. Assumes nothing.
use native.Mathlib.Omega.{arith}
use Prim.Native.Nat.{◌<◌}
use mathlib.Core.Path.{◌∙◌}
use Rattle.tables.proofs.Reading.{sized_of}
use Rattle.corners.proofs.Corners.{top_at}
use Rattle.corners.proofs.lowest_of.Statement.{statement}
use Rattle.corners.proofs.lowest_of.Tie as tie

few : (s : tie.Start) → s.args.v < 4096
few s = omega (arith, s.requires.0.1, (sized_of s.args.bytes.now s.requires.0.0).vertices)

returns : tie.Need-returns
returns c =
    let s = c.before.before.before in
    (c.u16_at.ensures.0 ∙ top_at _ _ ∙ s.requires.1.1.at _ s.requires.0.1, c.u16_at.ensures.1)

pub lowest_of_spec : {M : Type 1} → statement M
lowest_of_spec = tie.close (tie.spec (λ c. omega (arith, few c.before.before)) (λ c. omega (arith, few c.before.before)) (λ c κs. omega (arith, few c.before.before, c.requires.1.0)) returns)
