-- Two named numbers and the line feed. Assumes nothing.
use borrow.Author.Rules.{rules}
use native.Mathlib.Omega.{arith}
use Rattle.printer.proofs.WriteLaws.{wrote_then}
use Rattle.inspect.specs.Line.{refused_line}
use Rattle.inspect.proofs.put_refused.Statement.{statement}
use Rattle.inspect.proofs.put_refused.Tie as tie

returns : tie.Need-returns
unfolding refused_line
returns c =
    let end = c.put_byte in
    let second = c.before.before.before.before.before.before in
    let first = second.before.before.before.before.before in (
      wrote_then first.put_named-a.ensures.0 (wrote_then second.put_named-b.ensures.0 end.ensures),
      omega (arith, end.ensures.next, second.put_named-b.ensures.1, first.put_named-a.ensures.1),
    )

pub put_refused_spec : {M : Type 1} → statement M
put_refused_spec = tie.close (tie.spec (search rules) (search rules) (search rules) (search rules) returns)
