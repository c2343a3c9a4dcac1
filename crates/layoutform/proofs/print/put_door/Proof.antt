-- `layoutform::print::put_door` meets its contract. Assumes nothing.
use native.Mathlib.Omega.{arith}
use Rattle.printer.proofs.WriteLaws.{wrote_long}
use Rattle.layoutform.proofs.PrintLaws.{door_none, door_short, door_wrote}
use borrow.Author.Rules.{rules}
use Rattle.layoutform.proofs.print.put_door.Statement.{statement}
use Rattle.layoutform.proofs.print.put_door.Tie as tie

-- ---- the places, each seen from the next

abbrev gap_of : tie.After-word → tie.After-put_byte-e
gap_of c = c.before.before.before.before

abbrev hook_of : tie.After-put_byte-e → tie.Else-k-ne5
hook_of c = c.before.before

abbrev start_of : tie.Else-k-ne5 → tie.Start
start_of c = c.before.before.before

returns : tie.Need-returns-then-k-ne5
returns c = let g = c.before.before.before in door_none g.args.k _ g.requires.1 _ _ c.if-k-ne5.true

put_lowered_requires : tie.Need-put_lowered-requires
put_lowered_requires c κs =
    let b = gap_of c in
    let h = hook_of b in
    let g = start_of h in
    omega (arith, b.put_byte-e.ensures.next, door_short g.args.k _ g.requires.1 _ h.if-k-ne5.false c.word.ensures, g.requires.0)

returns_2 : tie.Need-returns
returns_2 c =
    let d = c.before.before in
    let b = gap_of d.before in
    let h = hook_of b in
    let g = start_of h in
    door_wrote g.args.k _ g.requires.1 _ h.if-k-ne5.false d.word.ensures b.put_byte-e.ensures d.put_lowered.ensures

pub put_door_spec : {M : Type 1} → statement M
put_door_spec = tie.close (tie.spec returns (search rules) (search rules) put_lowered_requires (λ c. wrote_long (returns_2 c)) returns_2)
