-- The words and the line feed. Assumes nothing.
use borrow.Author.Rules.{rules}
use native.Mathlib.Omega.{arith}
use Rattle.printer.proofs.WriteLaws.{wrote_then}
use Rattle.inspect.proofs.put_too_long.Statement.{statement}
use Rattle.inspect.proofs.put_too_long.Tie as tie

returns : tie.Need-returns
returns c =
    let end = c.put_byte in
    let word = c.put_word-a in
    (wrote_then word.ensures end.ensures, omega (arith, end.ensures.next, word.ensures.next))

pub put_too_long_spec : {M : Type 1} → statement M
put_too_long_spec = tie.close (tie.spec (search rules) (search rules) (search rules) returns)
