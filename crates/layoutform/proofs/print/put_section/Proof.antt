-- `layoutform::print::put_section` meets its contract. Assumes nothing.
use native.Mathlib.Omega.{arith}
use Rattle.layoutform.proofs.PrintLaws.{section_wrote}
use Rattle.layoutform.proofs.WholeLaws.{head_end}
use Rattle.printer.proofs.WriteLaws.{wrote_long}
use borrow.Author.Rules.{rules}
use Rattle.layoutform.proofs.print.put_section.Statement.{statement}
use Rattle.layoutform.proofs.print.put_section.Tie as tie

abbrev start_of : tie.After-put_head-e → tie.Start
start_of c = c.before.before.before.before.before.before.before.before

put_entries_requires : tie.Need-put_entries-requires
put_entries_requires c κs =
    let h = c.before.before.before in
    let g = start_of h in
    (omega (arith, head_end _ g.args.n g.requires.0.1.0 h.put_head-e.ensures, g.requires.0.0), (g.requires.0.1.1, g.requires.1))

returns : tie.Need-returns
returns c =
    let e = c.before.before in
    let h = e.before.before.before.before in
    let g = start_of h in
    (section_wrote _ _ _ _ _ _ g.requires.1.1 _ h.put_head-e.ensures e.put_entries.ensures.0, omega (arith, e.put_entries.ensures.1, head_end _ g.args.n g.requires.0.1.0 h.put_head-e.ensures, g.requires.1.1.few))

pub put_section_spec : {M : Type 1} → statement M
put_section_spec = tie.close (tie.spec (search rules) put_entries_requires (λ c. wrote_long (returns c).0) returns)
