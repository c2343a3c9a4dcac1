-- `printer::put_number` meets its contract: the printers one after the other. Assumes nothing.
use Prim.Native.Nat.{◌+◌, ◌/◌, ◌≤◌}
use native.Mathlib.Omega.{arith}
use Rattle.number.specs.Number.{printed}
use Rattle.number.proofs.DigitLaws.{length_sign, plain_short}
use Rattle.printer.proofs.WriteLaws.{wrote_then}
use borrow.Author.Rules.{rules}
use Rattle.printer.proofs.put_number.Statement.{statement}
use Rattle.printer.proofs.put_number.Tie as tie

-- where the minus and the whole digits end
minus_end : (c : tie.After-put_minus-i) → c.put_minus-i.result ≤ c.args.at + 1
minus_end c = omega (arith, c.put_minus-i.ensures.next, length_sign c.args.x.neg)

plain_end : (c : tie.After-put_plain-j) → c.put_plain-j.result ≤ c.args.at + 6
plain_end c =
    let d = c.before.before.before.before in
    omega (arith, c.put_plain-j.ensures.next, plain_short (d.args.x.millionths / 1000000), minus_end d)

put_plain_requires : tie.Need-put_plain-j-requires
put_plain_requires c κs = let d = c.before.before.before in omega (arith, minus_end d, d.requires)

put_fraction_requires : tie.Need-put_fraction-requires
put_fraction_requires c κs =
    let d = c.before.before.before in
    let z = d.before.before.before.before.before.before.before in
    (omega (arith, plain_end d, z.requires), z.requires.1)

returns : tie.Need-returns
unfolding printed
returns c =
    let f = c.before.before in
    let p = f.before.before.before.before in
    let m = p.before.before.before.before in
    wrote_then m.put_minus-i.ensures (wrote_then p.put_plain-j.ensures f.put_fraction.ensures)

pub put_number_spec : {M : Type 1} → statement M
put_number_spec = tie.close (tie.spec (search rules) put_plain_requires put_fraction_requires (search rules) returns)
