-- `grid::moved` meets its contract: the sum is the float of the sum (Nudges, nudge-sum). Assumes nothing.
use mathlib.Core.Path.{◌≡◌, sym, ap, subst, ◌∙◌}
use mathlib.Core.Bool.{not}
use native.Mathlib.Nat.{le_trans}
use lib.Dec.{T, lit≤}
use lib.IntN.{◌+ℤ◌}
use lib.Ieee.{Float, binary32, is_nan, add, of_bits, to_bits}
use borrow.Author.Tests.{le-leb}
use mir.Syntax.{w64}
use mir.ValLaws.{to_z-of_z}
use Rattle.grid.specs.Grid.{scaled, grid_float, nudge_bits}
use Rattle.grid.proofs.Grid.{grid_finite, grid_float_on, finite_number}
use Rattle.grid.proofs.Finite.{finite_no_nan}
use Rattle.grid.proofs.Nudges.{may, nudge_sum}
use Rattle.grid.proofs.moved.Statement.{statement}
use Rattle.grid.proofs.moved.Tie as tie

float_from_bits_y : tie.Need-float_from_bits-y
float_from_bits_y c = finite_no_nan _ (grid_finite (may _ _ c.requires).on)

float_of_requires : tie.Need-float_of-requires
float_of_requires c κs = rw (to_z-of_z w64 c.args.n c.ranges.n) (le-leb _ _ (le_trans (may _ _ c.requires).step (lit≤ tt)))

-- the sum as the code has it
sum_is : (c : tie.After-float_of) → add binary32 (of_bits binary32 c.args.b) c.float_of.result ≡ grid_float (scaled (of_bits binary32 c.args.b) +ℤ c.args.n)
sum_is c =
    ap (add binary32 (of_bits binary32 c.args.b)) (c.float_of.ensures ∙ ap grid_float (to_z-of_z w64 _ c.ranges.n))
    ∙ nudge_sum c.args.b c.args.n (may _ _ c.requires)

returns : tie.Need-returns
unfolding nudge_bits
returns c = ap (to_bits binary32) (sum_is c)

float_to_bits_result : tie.Need-float_to_bits-result
float_to_bits_result c = subst (λ (x : Float). T (not (is_nan x))) (sym (sum_is c)) (finite_number _ (grid_finite (grid_float_on _ (may _ _ c.requires).to)))

pub moved_spec : {M : Type 1} → statement M
moved_spec = tie.close (tie.spec float_from_bits_y float_of_requires float_to_bits_result returns)
