-- The machine's division, of -1 - n where n is negative. What the literals are is for the answer to say. Assumes nothing.
use Prim.Native.Nat.{◌+◌, zero-le}
use native.Mathlib.Nat.{le_refl}
use lib.IntN.{ℤ, pos, negsuc, ◌-ℤ◌}
use lib.Signed.{quot_z}
use Rattle.wire.specs.Signed.{Within}
use Rattle.wire.proofs.Signed.{Reads, num, less, divided, called, fits, stored, param, read, under}
use Rattle.slope.specs.Plain.{most_lifted}
use Rattle.slope.proofs.Machine.{some_divisor, below_zero, from_zero}
use Rattle.slope.proofs.rounded_down.Statement.{statement}
use Rattle.slope.proofs.rounded_down.Tie as tie

one : Reads 1 (negsuc 0) (negsuc 0)
one = num (record { le = le_refl 1 })

zero : Reads 1 (pos 0) (pos 0)
zero = num (record { le = zero-le })

-- what the first return works out, with either of these for its literals
module _ {n d z : ℤ} (u : Reads 1 z z) (hn : Within most_lifted n) (hd : Within most_lifted d) where
  less_n : Reads (1 + most_lifted) (z -ℤ read n) (z -ℤ n)
  less_n = less u (param hn tt)

  part : Reads (1 + most_lifted) (quot_z (read (z -ℤ read n)) (read d)) (quot_z (z -ℤ n) d)
  part = divided (stored less_n tt) (param hd tt)

  less_part : Reads (2 + most_lifted) (z -ℤ read (quot_z (read (z -ℤ read n)) (read d))) (z -ℤ quot_z (z -ℤ n) d)
  less_part = less u (stored part tt)

sub_result : tie.Need-overflow_sub-result
sub_result c = let h = c.requires in search (fits (less_n one h.0 h.1) tt, fits (less_n zero h.0 h.1) tt)

div_result : tie.Need-nonzero_div-result
div_result c = let h = c.requires in (some_divisor h.2, search (fits (part one h.0 h.1) tt, fits (part zero h.0 h.1) tt))

sub_result_2 : tie.Need-overflow_sub-result-then-n-lt0
sub_result_2 c = let h = c.requires in search (fits (less_part one h.0 h.1) tt, fits (less_part zero h.0 h.1) tt)

returns : tie.Need-returns-then-n-lt0
returns c =
    let s = c.before in
    let h = s.requires in
    (stored (called (below_zero s.args.n s.args.d h.2 (under s.args.n (pos 0) s.ranges.n c.if-n-lt0.true)) (less_part one h.0 h.1)) tt).same

div_result_2 : tie.Need-nonzero_div-result-2
div_result_2 c = let h = c.requires in (some_divisor h.2, fits (divided (param h.0 tt) (param h.1 tt)) tt)

returns_2 : tie.Need-returns
returns_2 c =
    let s = c.before in
    let h = s.requires in
    (stored (called (from_zero s.args.n s.args.d h.2 (under s.args.n (pos 0) s.ranges.n c.if-n-lt0.false)) (divided (param h.0 tt) (param h.1 tt))) tt).same

pub rounded_down_spec : {M : Type 1} → statement M
rounded_down_spec = tie.close (tie.spec sub_result div_result sub_result_2 returns div_result_2 returns_2)
