-- The header, then table by table. Assumes nothing.
use Rattle.tables.specs.Parts.{parts_of}
use Rattle.fixed.proofs.UpTo.{UpTo}
use Rattle.fixed.proofs.write_form.Given as goal

abbrev pub invariant-loop-k : goal.invariant-loop-k
invariant-loop-k l = UpTo (parts_of l.bytes) l.fn.out l.out l.at l.k
