-- By the sign. Assumes nothing.
use mathlib.Core.Path.{◌≡◌}
use native.Mathlib.Nat.{lt_of_le_of_lt}
use native.Mathlib.Omega.{arith}
use lib.IntN.{pos, negsuc, ◌-ℤ◌}
use lib.Signed.{nat_abs-le}
use lib.Dec.{lit<}
use mir.Syntax.{w32}
use mir.Val.{to_z, of_z}
use mir.ValLaws.{to_z-of_z}
use Rattle.laying.proofs.Allowed.{Below, below, word_high}
use Rattle.laying.proofs.rules.transition_word.Statement.{statement}
use Rattle.laying.proofs.rules.transition_word.Tie as tie

-- a negative number is so far below -1 ..
far : (c : tie.Then-t-lt0) → Below c.args.t
far c =
    let t = c.args.t in
    below t c.ranges.t (rw (to_z-of_z w32 t c.ranges.t) at c.if-t-lt0.true)

-- .. and the machine says so
told : (c : tie.Then-t-lt0) → to_z w32 (of_z w32 (negsuc 0 -ℤ to_z w32 (of_z w32 c.args.t))) ≡ pos (far c).far
told c = rw (to_z-of_z w32 c.args.t c.ranges.t, (far c).is) (to_z-of_z w32 (pos (far c).far) (far c).fits)

sub_below : tie.Need-overflow_sub-below
sub_below c = rw (to_z-of_z w32 c.args.t c.ranges.t, (far c).is) (far c).fits

cast_below : tie.Need-overflow_cast-result
cast_below c = rw (told c) (tt, record { fits = omega (arith, (far c).fits.sfits) })

sub_all : tie.Need-overflow_sub-result
sub_all c = rw (told c) (omega (arith, (far c).fits.sfits))

returns : tie.Need-returns-then-t-lt0
returns c = rw (told c) (far c).word

cast_own : tie.Need-overflow_cast-result-2
cast_own c =
    let t = c.args.t in
    let e = to_z-of_z w32 t c.ranges.t in
    rw e ((word_high t (rw e at c.if-t-lt0.false)).0, record { fits = lt_of_le_of_lt (nat_abs-le t c.ranges.t.sfits) (lit< tt) })

returns_2 : tie.Need-returns
returns_2 c =
    let t = c.args.t in
    let e = to_z-of_z w32 t c.ranges.t in
    rw e (word_high t (rw e at c.if-t-lt0.false)).1

pub transition_word_spec : {M : Type 1} → statement M
transition_word_spec = tie.close (tie.spec sub_below cast_below sub_all returns cast_own returns_2)
