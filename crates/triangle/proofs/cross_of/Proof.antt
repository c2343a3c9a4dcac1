-- `triangle::cross_of` meets its contract. Assumes nothing.
use lib.IntN.{ℤ, ◌-ℤ◌, ◌*ℤ◌}
use Rattle.wire.specs.Signed.{Within}
use Rattle.wire.proofs.Signed.{Reads, less, times, fits, stored, param, read}
use Rattle.triangle.specs.Triangle.{cross}
use Rattle.triangle.proofs.cross_of.Statement.{statement}
use Rattle.triangle.proofs.cross_of.Tie as tie

-- the difference and the product of two differences, as the machine works them out
module _ {a o : ℤ} (ha : Within 65536 a) (ho : Within 65536 o) where
  diff : Reads 131072 (read a -ℤ read o) (a -ℤ o)
  diff = less (param ha tt) (param ho tt)

module _ {a o b q : ℤ} (ha : Within 65536 a) (ho : Within 65536 o) (hb : Within 65536 b) (hq : Within 65536 q) where
  prod : Reads 17179869184 (read (read a -ℤ read o) *ℤ read (read b -ℤ read q)) ((a -ℤ o) *ℤ (b -ℤ q))
  prod = times (stored (diff ha ho) tt) (stored (diff hb hq) tt)

sub_left : tie.Need-overflow_sub-left
sub_left c = fits (diff c.requires.2 c.requires.0) tt

sub_left_2 : tie.Need-overflow_sub-left-2
sub_left_2 c = fits (diff c.requires.5 c.requires.1) tt

mul_left : tie.Need-overflow_mul-left
mul_left c = fits (prod c.requires.2 c.requires.0 c.requires.5 c.requires.1) tt

sub_right : tie.Need-overflow_sub-right
sub_right c = fits (diff c.requires.3 c.requires.1) tt

sub_right_2 : tie.Need-overflow_sub-right-2
sub_right_2 c = fits (diff c.requires.4 c.requires.0) tt

mul_right : tie.Need-overflow_mul-right
mul_right c = fits (prod c.requires.3 c.requires.1 c.requires.4 c.requires.0) tt

-- either product less either: which is taken from which is for the answer to say
sub_result : tie.Need-overflow_sub-result
sub_result c =
    let left = stored (prod c.requires.2 c.requires.0 c.requires.5 c.requires.1) tt in
    let right = stored (prod c.requires.3 c.requires.1 c.requires.4 c.requires.0) tt in
    search (fits (less left right) tt, fits (less right left) tt, fits (less left left) tt)

returns : tie.Need-returns
unfolding cross
returns c = (stored (less (stored (prod c.requires.2 c.requires.0 c.requires.5 c.requires.1) tt) (stored (prod c.requires.3 c.requires.1 c.requires.4 c.requires.0) tt)) tt).same

pub cross_of_spec : {M : Type 1} → statement M
cross_of_spec = tie.close (tie.spec sub_left sub_left_2 mul_left sub_right sub_right_2 mul_right sub_result returns)
