-- `corners::is_border` meets its contract. Assumes nothing.
use native.Mathlib.Omega.{arith}
use Prim.Native.Nat.{ℕ, ◌<◌}
use mathlib.Core.Path.{ap, ◌∙◌}
use lib.Dec.{leb}
use Rattle.tables.specs.Parts.{parts_of}
use Rattle.pairs.proofs.Halves.{few_walkable}
use Rattle.corners.specs.Corners.{relinked, recornered}
use Rattle.corners.specs.Memory.{loose}
use Rattle.corners.proofs.Corners.{border_told}
use Rattle.corners.proofs.is_border.Statement.{statement}
use Rattle.corners.proofs.is_border.Tie as tie

few : (s : tie.Start) → s.args.h < 12288
few s = omega (arith, s.requires.0.1, few_walkable s.args.bytes.now s.requires.0.0)

returns : tie.Need-returns
returns c =
    let s = c.before.before.before in
    let b = s.args.bytes.now in
    let p = parts_of b in
    ap (λ (x : ℕ). leb loose x) c.u16_at.ensures.0
    ∙ border_told (recornered p) s.args.work.now (unfold recornered relinked in few_walkable b s.requires.0.0) s.requires.1.1 s.args.h (unfold recornered relinked in s.requires.0.1)

pub is_border_spec : {M : Type 1} → statement M
is_border_spec = tie.close (tie.spec (λ c. omega (arith, few c.before.before)) (λ c. omega (arith, few c.before.before)) (λ c κs. omega (arith, few c.before.before, c.requires.1.0)) returns)
