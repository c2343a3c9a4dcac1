-- `sightform::print::put_name` meets its contract. Assumes nothing.
use mathlib.Core.Path.{ap}
use native.Mathlib.Omega.{arith}
use lib.ListN.{length}
use Rattle.printer.proofs.WriteLaws.{wrote_is}
use Rattle.sightform.proofs.PrintLaws.{shown_typed, shown_own}
use borrow.Author.Rules.{rules}
use Rattle.sightform.proofs.print.put_name.Statement.{statement}
use Rattle.sightform.proofs.print.put_name.Tie as tie

returns : tie.Need-returns-then-j-i
returns c = wrote_is _ c.put_lowered.ensures (shown_typed _ _ _ _ _ c.if-j-i.true)

put_lowered_requires_2 : tie.Need-put_lowered-requires-2
put_lowered_requires_2 c κs =
    let start = c.before.before.before.before.before.before.before in
    omega (arith, ap length c.room_name.ensures, start.requires.0, start.requires.1.1)

returns_2 : tie.Need-returns
returns_2 c = wrote_is _ c.put_lowered-2.ensures (shown_own _ _ _ _ _ _ c.if-j-i.false c.room_name.ensures)

pub put_name_spec : {M : Type 1} → statement M
put_name_spec =
    tie.close
    (tie.spec (search rules) (search rules) returns (search rules) put_lowered_requires_2 (search rules) returns_2)
