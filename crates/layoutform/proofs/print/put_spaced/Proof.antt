-- `layoutform::print::put_spaced` meets its contract. Assumes nothing.
use native.Mathlib.Omega.{arith}
use Rattle.layoutform.proofs.PrintLaws.{few_places, spaced_wrote}
use borrow.Author.Rules.{rules}
use Rattle.layoutform.proofs.print.put_spaced.Statement.{statement}
use Rattle.layoutform.proofs.print.put_spaced.Tie as tie

put_number_requires : tie.Need-put_number-requires
put_number_requires c κs =
    let at-put-byte = c.before.before.before in
    let at-number = at-put-byte.before.before in
    let start = at-number.before.before.before.before in
    (omega (arith, at-put-byte.put_byte-e.ensures.next, start.requires), few_places _ _ at-number.number-x.ensures)

returns : tie.Need-returns
returns c =
    let at-put-byte = c.before.before.before.before.before.before in
    let at-number = at-put-byte.before.before in
    let at-word = at-number.before in
    let g = at-word.before.before.before in
    spaced_wrote g.args.l.now g.args.k _ _ at-word.word.ensures at-number.number-x.ensures at-put-byte.put_byte-e.ensures c.put_number.ensures

pub put_spaced_spec : {M : Type 1} → statement M
put_spaced_spec =
    tie.close
    (tie.spec (search rules) (search rules) (search rules) put_number_requires (search rules) returns)
