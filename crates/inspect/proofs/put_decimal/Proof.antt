-- The digits of a number. Assumes nothing.
use borrow.Author.Rules.{rules}
use native.Mathlib.Omega.{arith}
use Prim.Native.Nat.{◌+◌}
use native.Mathlib.Nat.{add_comm}
use Rattle.inspect.specs.Line.{digit_count, decimal}
use Rattle.number.proofs.DigitLaws.{length_fixed}
use Rattle.inspect.proofs.put_decimal.Statement.{statement}
use Rattle.inspect.proofs.put_decimal.Tie as tie

returns : tie.Need-returns
unfolding decimal digit_count
returns c =
    let put = c.put_fixed in
    let n = c.first_under-k in
    (rw (add_comm 1, ← n.ensures.0) put.ensures, omega (arith, n.ensures.1, put.ensures.next, length_fixed (n.result + 1) c.args.n))

pub put_decimal_spec : {M : Type 1} → statement M
put_decimal_spec = tie.close (tie.spec (search rules) (search rules) (search rules) (search rules) returns)
