-- `layoutform::print::put_key` meets its contract. Assumes nothing.
use Rattle.printer.proofs.WriteLaws.{wrote_then, wrote_is}
use Rattle.layoutform.proofs.PrintLaws.{key_bytes}
use borrow.Author.Rules.{rules}
use Rattle.layoutform.proofs.print.put_key.Statement.{statement}
use Rattle.layoutform.proofs.print.put_key.Tie as tie

returns : tie.Need-returns
returns c = wrote_is _ (wrote_then c.put_word-e.ensures c.put_byte.ensures) (key_bytes _)

pub put_key_spec : {M : Type 1} → statement M
put_key_spec = tie.close (tie.spec (search rules) (search rules) (search rules) returns)
