-- `layoutform::print::put_entry` meets its contract. Assumes nothing.
use native.Mathlib.Omega.{arith}
use Prim.Native.Nat.{◌+◌, ◌≤◌}
use Rattle.text.specs.Scan.{words}
use Rattle.printer.proofs.WriteLaws.{wrote_long}
use Rattle.letters.proofs.CaseLaws.{length_lowered}
use Rattle.layoutform.proofs.PrintLaws.{few_words_of, door_end, numbers_end, entry_wrote}
use borrow.Author.Rules.{rules}
use Rattle.layoutform.proofs.print.put_entry.Statement.{statement}
use Rattle.layoutform.proofs.print.put_entry.Tie as tie

-- ---- the calls, each seen from the next, and how far they come

abbrev start_of : tie.After-put_lowered-a → tie.Start
start_of c = c.before.before.before.before.before

abbrev name_of : tie.After-put_door-b → tie.After-put_lowered-a
name_of c = c.before.before.before.before

abbrev door_of : tie.After-names_in → tie.After-put_door-b
door_of c = c.before.before.before.before

name : (c : tie.After-put_lowered-a) → c.put_lowered-a.result ≤ (start_of c).args.at + 16
name c = omega (arith, c.put_lowered-a.ensures.next, length_lowered (start_of c).args.w.now, (start_of c).requires.1.0)

door : (c : tie.After-put_door-b) → c.put_door-b.result ≤ (start_of (name_of c)).args.at + 33
door c = let g = start_of (name_of c) in omega (arith, name (name_of c), door_end g.args.k _ g.requires.1.1 c.put_door-b.ensures)

put_door_requires : tie.Need-put_door-b-requires
put_door_requires c κs = let n = c.before.before.before in (omega (arith, name n, (start_of n).requires.0), (start_of n).requires.1.1)

put_numbers_requires : tie.Need-put_numbers-c-requires
put_numbers_requires c κs =
    let d = door_of c in
    let g = start_of (name_of d) in
    (omega (arith, door d, g.requires.0), few_words_of g.args.k _ g.requires.1.1)

put_byte_requires : tie.Need-put_byte-requires
put_byte_requires c κs =
    let n = c.before.before.before in
    let d = door_of n.before in
    let g = start_of (name_of d) in
    omega (arith, door d, numbers_end n.names_in.result (words g.args.l.now) (few_words_of g.args.k _ g.requires.1.1) n.put_numbers-c.ensures, g.requires.0)

returns : tie.Need-returns
returns c =
    let n = c.before.before.before.before.before.before in
    let d = door_of n.before in
    let g = start_of (name_of d) in
    entry_wrote g.args.k _ g.requires.1.1 g.args.w.now n.names_in.ensures (name_of d).put_lowered-a.ensures d.put_door-b.ensures n.put_numbers-c.ensures c.put_byte.ensures

pub put_entry_spec : {M : Type 1} → statement M
put_entry_spec =
    tie.close
    (tie.spec (search rules) put_door_requires (search rules) put_numbers_requires put_byte_requires (λ c. wrote_long (returns c)) returns)
