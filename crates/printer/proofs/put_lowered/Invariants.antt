-- The bytes that were passed are written, in lower case.
use Rattle.std.proofs.Common.{take}
use Rattle.letters.specs.Case.{lowered}
use Rattle.printer.specs.Write.{Wrote}
use Rattle.printer.proofs.put_lowered.Given as goal

abbrev pub invariant-loop-b : goal.invariant-loop-b
invariant-loop-b l = Wrote l.initial.out l.out l.at l.e (take l.b-index (lowered l.w))
