-- No float of the entries so far is wild.
use Rattle.std.proofs.Common.{◌≡◌, ◌*◌}
use Rattle.verdict.specs.Lowest.{lowest}
use Rattle.tables.specs.Parts.{parts_of}
use Rattle.mesh.specs.Floats.{wild_in}
use Rattle.mesh.proofs.first_wild.Given as goal

abbrev pub invariant-loop-i : goal.invariant-loop-i
invariant-loop-i l = lowest (l.i * l.per) (wild_in (parts_of l.bytes) l.k l.per) ≡ l.i * l.per
