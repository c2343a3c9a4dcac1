-- The entries before the next start are written.
use Rattle.std.proofs.Common.{take, map}
use Rattle.letters.specs.Case.{lowered}
use Rattle.text.specs.Written.{written}
use Rattle.printer.proofs.WriteLaws.{Printing}
use Rattle.layout.specs.Starts.{held}
use Rattle.layoutform.specs.Form.{entry_of, entry_line, longest_line}
use Rattle.layoutform.specs.Rewrite.{renamed_from}
use Rattle.layoutform.proofs.print.put_entries.Given as goal

abbrev pub invariant-loop-start : goal.invariant-loop-start
invariant-loop-start l =
    Printing l.fn.out l.out l.at l.e (longest_line 5) l.start-index l.n (written (map entry_line (take l.start-index (map (renamed_from (lowered l.old) (lowered l.name)) (map (entry_of l.k) (held l.s l.starts l.n))))))
