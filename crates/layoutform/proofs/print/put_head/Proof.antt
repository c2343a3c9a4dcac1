-- `layoutform::print::put_head` meets its contract. Assumes nothing.
use native.Mathlib.Omega.{arith}
use Rattle.number.proofs.DigitLaws.{plain_short}
use Rattle.printer.proofs.WriteLaws.{wrote_is, wrote_long, wrote_then}
use Rattle.layoutform.proofs.PrintLaws.{head_bytes}
use Rattle.layoutform.proofs.print.put_head.Statement.{statement}
use Rattle.layoutform.proofs.print.put_head.Tie as tie

put_byte_requires_2 : tie.Need-put_byte-requires
put_byte_requires_2 c κs =
    let at-put-plain = c.before.before.before in
    let at-put-byte = at-put-plain.before.before.before.before in
    let at-put-word = at-put-byte.before.before.before.before in
    let g = at-put-word.before.before.before.before in
    omega (arith, at-put-plain.put_plain-c.ensures.next, at-put-byte.put_byte-b.ensures.next, at-put-word.put_word-a.ensures.next, plain_short g.args.n, g.requires)

returns : tie.Need-returns
returns c =
    let at-put-plain = c.before.before.before.before.before.before in
    let at-put-byte = at-put-plain.before.before.before.before in
    let at-put-word = at-put-byte.before.before.before.before in
    wrote_is _ (wrote_then at-put-word.put_word-a.ensures (wrote_then at-put-byte.put_byte-b.ensures (wrote_then at-put-plain.put_plain-c.ensures c.put_byte.ensures))) (head_bytes _ _)

pub put_head_spec : {M : Type 1} → statement M
put_head_spec =
    tie.close
    (tie.spec (λ c κs. omega arith) (λ c κs. omega arith) (λ c κs. omega arith) put_byte_requires_2 (λ c. wrote_long (returns c)) returns)
