-- `printer::put_fraction` meets its contract. Assumes nothing.
use native.Mathlib.Omega.{arith}
use Rattle.printer.specs.Write.{Wrote}
use Rattle.number.specs.Number.{fraction}
use Rattle.printer.proofs.WriteLaws.{wrote_none, wrote_then}
use Rattle.number.proofs.DigitLaws.{fraction_pos, pow_pos_of}
use borrow.Author.Rules.{rules}
use Rattle.printer.proofs.put_fraction.Statement.{statement}
use Rattle.printer.proofs.put_fraction.Tie as tie

returns : tie.Need-returns-then-p-eq0
unfolding fraction
returns c = rw c.if-p-eq0.true (wrote_none _ _)

div_put_fixed : tie.Need-nonzero_div-v
div_put_fixed c = rw c.scale-d.ensures (pow_pos_of 10 _ (omega arith))

returns_2 : tie.Need-returns
returns_2 c =
    let f = c.before.before in
    let p = f.before.before.before.before in
    let z = p.before.before in
    let s : Wrote _ _ _ _ _ = rw z.scale-d.ensures at f.put_fixed.ensures in
    rw (fraction_pos _ _ z.if-p-eq0.false) (wrote_then p.put_byte-e.ensures s)

pub put_fraction_spec : {M : Type 1} → statement M
put_fraction_spec =
    tie.close
    (tie.spec returns (search rules) (search rules) div_put_fixed (search rules) (search rules) returns_2)
