-- The word, then the number. Assumes nothing.
use borrow.Author.Rules.{rules}
use native.Mathlib.Omega.{arith}
use Rattle.printer.proofs.WriteLaws.{wrote_then}
use Rattle.inspect.proofs.put_named.Statement.{statement}
use Rattle.inspect.proofs.put_named.Tie as tie

returns : tie.Need-returns
returns c =
    let number = c.put_decimal in
    let word = c.put_word-next in
    (wrote_then word.ensures number.ensures.0, omega (arith, word.ensures.next, number.ensures.1))

pub put_named_spec : {M : Type 1} → statement M
put_named_spec = tie.close (tie.spec (search rules) (search rules) (search rules) returns)
