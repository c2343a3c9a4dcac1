-- `sightform::print::put_line` meets its contract. Assumes nothing.
use native.Mathlib.Omega.{arith}
use Rattle.printer.proofs.WriteLaws.{wrote_then, wrote_is}
use Rattle.sightform.proofs.PrintLaws.{line_bytes, shown_short}
use borrow.Author.Rules.{rules}
use Rattle.sightform.proofs.print.put_line.Statement.{statement}
use Rattle.sightform.proofs.print.put_line.Tie as tie

put_byte_requires_3 : tie.Need-put_byte-requires
put_byte_requires_3 c κs =
    let at-put-name = c.before.before.before in
    let at-put-byte2 = at-put-name.before.before.before.before in
    let at-put-byte = at-put-byte2.before.before.before.before in
    let g = at-put-byte.before.before.before.before.before.before in
    omega (arith, at-put-name.put_name-c.ensures.next, shown_short g.args.layout.now g.args.starts.now g.args.i g.args.name.now g.args.j g.requires.1.0 g.requires.1.1, at-put-byte2.put_byte-b.ensures.next, at-put-byte.put_byte-a.ensures.next, g.requires.0)

returns : tie.Need-returns
returns c =
    let at-put-name = c.before.before.before.before.before.before in
    let at-put-byte2 = at-put-name.before.before.before.before in
    let at-put-byte = at-put-byte2.before.before.before.before in
    wrote_is _ (wrote_then at-put-byte.put_byte-a.ensures (wrote_then at-put-byte2.put_byte-b.ensures (wrote_then at-put-name.put_name-c.ensures c.put_byte.ensures))) (line_bytes _)

pub put_line_spec : {M : Type 1} → statement M
put_line_spec =
    tie.close
    (tie.spec (search rules) (search rules) (search rules) put_byte_requires_3 (search rules) returns)
