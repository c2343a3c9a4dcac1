-- `layoutform::print::put_one` meets its contract. Assumes nothing.
use mathlib.Core.Bool.{true, false}
use mathlib.Core.Path.{ap}
use native.Mathlib.Omega.{arith}
use lib.ListN.{length}
use Rattle.names.proofs.NameLaws.{name_long}
use Rattle.printer.proofs.WriteLaws.{wrote_long}
use Rattle.layoutform.proofs.PrintLaws.{first_name, one_wrote}
use borrow.Author.Rules.{rules}
use Rattle.layoutform.proofs.print.put_one.Statement.{statement}
use Rattle.layoutform.proofs.print.put_one.Tie as tie

abbrev start_of : tie.After-word-w → tie.Start
start_of c = c.before.before.before.before.before

is_of_requires : tie.Need-is_of-requires
is_of_requires c κs = let g = start_of c in (rw c.word-w.ensures (first_name g.args.k _ g.requires.1.1.1), g.requires.1.1.0)

put_entry_requires : tie.Need-put_entry-requires
put_entry_requires c κs = let g = start_of c.before.before.before in (g.requires.0, (g.requires.1.0, g.requires.1.1.1))

returns : tie.Need-returns-then-is_of
returns c =
    let i = c.before.before.before.before in
    let w = i.before.before in
    let g = start_of w in
    one_wrote g.args.k g.args.old.now g.args.name.now _ true _ w.word-w.ensures _ i.is_of.ensures i.if-is_of.true c.put_entry.ensures

put_entry_requires_2 : tie.Need-put_entry-requires-2
put_entry_requires_2 c κs =
    let w = c.before.before.before in
    let g = start_of w in
    (g.requires.0, (omega (arith, ap length w.word-w.ensures, (name_long _ (first_name g.args.k _ g.requires.1.1.1)).1), g.requires.1.1.1))

returns_2 : tie.Need-returns
returns_2 c =
    let i = c.before.before.before.before in
    let w = i.before.before in
    let g = start_of w in
    one_wrote g.args.k g.args.old.now g.args.name.now _ false _ w.word-w.ensures _ i.is_of.ensures i.if-is_of.false c.put_entry-2.ensures

pub put_one_spec : {M : Type 1} → statement M
put_one_spec =
    tie.close
    (tie.spec (search rules) is_of_requires put_entry_requires (λ c. wrote_long (returns c)) returns put_entry_requires_2 (λ c. wrote_long (returns_2 c)) returns_2)
