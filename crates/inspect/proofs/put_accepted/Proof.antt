-- Four named numbers and the line feed. Assumes nothing.
use borrow.Author.Rules.{rules}
use native.Mathlib.Omega.{arith}
use Rattle.printer.proofs.WriteLaws.{wrote_then}
use Rattle.inspect.specs.Line.{accepted_line}
use Rattle.inspect.proofs.put_accepted.Statement.{statement}
use Rattle.inspect.proofs.put_accepted.Tie as tie

returns : tie.Need-returns
unfolding accepted_line
returns c =
    let end = c.put_byte in
    let fourth = c.before.before.before.before.before.before in
    let third = fourth.before.before.before.before.before in
    let second = third.before.before.before.before.before in
    let first = second.before.before.before.before.before in (
      wrote_then first.put_named-a.ensures.0 (wrote_then second.put_named-b.ensures.0 (wrote_then third.put_named-c.ensures.0 (wrote_then fourth.put_named-d.ensures.0 end.ensures))),
      omega (arith, end.ensures.next, fourth.put_named-d.ensures.1, third.put_named-c.ensures.1, second.put_named-b.ensures.1, first.put_named-a.ensures.1),
    )

pub put_accepted_spec : {M : Type 1} → statement M
put_accepted_spec = tie.close (tie.spec (search rules) (search rules) (search rules) (search rules) (search rules) (search rules) returns)
