-- The rooms before the next row are written.
use Rattle.text.specs.Written.{ended}
use Rattle.printer.proofs.WriteLaws.{Printing}
use Rattle.sightform.specs.Form.{lines_to}
use Rattle.sightform.specs.Code.{printed_names}
use Rattle.sightform.proofs.print.put_form.Given as goal

abbrev pub invariant-loop-k : goal.invariant-loop-k
invariant-loop-k l =
    Printing l.fn.out l.out 0 l.e 1239 l.k l.n (ended (lines_to (printed_names l.layout l.starts l.n l.i l.name) l.rows l.k))
