-- The bytes that were passed are written.
use Rattle.std.proofs.Common.{take}
use Rattle.printer.specs.Write.{Wrote}
use Rattle.printer.proofs.put_word.Given as goal

abbrev pub invariant-loop-b : goal.invariant-loop-b
invariant-loop-b l = Wrote l.initial.out l.out l.at l.e (take l.b-index l.w)
