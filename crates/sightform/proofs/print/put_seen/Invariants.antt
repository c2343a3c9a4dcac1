-- The seen rooms below j are written.
use Rattle.std.proofs.Common.{map}
use Rattle.text.specs.Written.{ended}
use Rattle.printer.proofs.WriteLaws.{Printing}
use Rattle.sightform.specs.Form.{seen_to, seen_line}
use Rattle.sightform.specs.Code.{printed_names}
use Rattle.sightform.proofs.print.put_seen.Given as goal

abbrev pub invariant-loop-j : goal.invariant-loop-j
invariant-loop-j l =
    Printing l.fn.out l.out l.at l.e 19 l.j l.n (ended (map seen_line (seen_to (printed_names l.layout l.starts l.n l.i l.name) l.row l.j)))
