-- The grid of document 01: sixty-fourths, as whole numbers within ±65,536; and the nudge along it. Definitions only.
-- A float is lib.Ieee's: a NaN, an infinity, or `fin s m e`, which is m * 2 ^ e with the sign s; 2 ^ e is the fraction up e / down e.
use Rattle.std.specs.Prelude.{ℕ, suc, ◌*◌, ◌/◌, ◌%◌, Bool, true, false, ◌&&◌, cond, ℤ, pos, negsuc, neg_ℤ, nat_abs, ◌+ℤ◌, leb, eqb, Float}
use Rattle.std.specs.Float.{nan, inf, fin, binary32}
use Rattle.std.specs.Float.Ieee.{up, down, round, of_bits, to_bits}

-- a float that is neither infinite nor not a number (what rule 7 asks of each)
unfoldable pub finite : Float → Bool
finite nan = false
finite (inf s) = false
finite (fin s m e) = true

-- a float's word with zero's for minus zero's: two finite floats are equal by comparison exactly where these are one (proofs/Equal, eq-plain)
unfoldable pub plain : ℕ → ℕ
plain w = cond (eqb w 2147483648) 0 w

-- n with a sign, negative where s is true; negative zero counts as zero
abbrev pub signed : Bool → ℕ → ℤ
signed s n = cond s (neg_ℤ (pos n)) (pos n)

-- on the grid: 64 times x is a whole number within ±65,536
unfoldable pub on_grid : Float → Bool
on_grid nan = false
on_grid (inf s) = false
on_grid (fin s m e) = eqb (m * up e * 64 % down e) 0 && leb (m * up e * 64 / down e) 65536

-- how many sixty-fourths x is in size, cut to a whole number
unfoldable pub size64 : Float → ℕ
size64 nan = 0
size64 (inf s) = 0
size64 (fin s m e) = m * up e * 64 / down e

-- the same with the sign: the scaled number of a float on the grid
unfoldable pub scaled : Float → ℤ
scaled nan = pos 0
scaled (inf s) = pos 0
scaled (fin s m e) = signed s (m * up e * 64 / down e)

-- z sixty-fourths as an f32, zero being positive: the nearest one, which for |z| of at most 65,536 is z / 64 exactly (proofs/Grid, gridFloat-value)
unfoldable pub grid_float : ℤ → Float
grid_float (pos n) = round binary32 false n 64
grid_float (negsuc n) = round binary32 true (suc n) 64

-- z is within ±k
abbrev pub within : ℕ → ℤ → Bool
within k z = leb (nat_abs z) k

-- the largest step of a nudge, either way
abbrev pub largest_step : ℕ
largest_step = 640

-- a nudge by n of the float with the bits b is not refused by 24: the step is from -640 to 640, the old value on the grid, the new one not beyond it
unfoldable pub may_nudge : ℕ → ℤ → Bool
may_nudge b n = within largest_step n && on_grid (of_bits binary32 b) && within 65536 (scaled (of_bits binary32 b) +ℤ n)

-- the bits that it writes: those of the sum, zero as positive zero
unfoldable pub nudge_bits : ℕ → ℤ → ℕ
nudge_bits b n = to_bits binary32 (grid_float (scaled (of_bits binary32 b) +ℤ n))
