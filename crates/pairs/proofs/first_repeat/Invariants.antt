-- The half-edges before h are chained, and none of them repeats.
use Rattle.std.proofs.Common.{◌≡◌}
use Rattle.verdict.specs.Lowest.{lowest}
use Rattle.verdict.specs.Memory.{SamePast}
use Rattle.chains.specs.Chains.{Chained}
use Rattle.tables.specs.Parts.{parts_of}
use Rattle.pairs.specs.Halves.{repeats}
use Rattle.pairs.specs.Chains.{chains, chain}
use Rattle.pairs.proofs.first_repeat.Given as goal

abbrev pub invariant-loop-h : goal.invariant-loop-h
invariant-loop-h l = record {
  none : lowest l.h (repeats (parts_of l.bytes)) ≡ l.h;
  chained : Chained chains (chain (parts_of l.bytes)) l.work l.h;
  kept : SamePast l.work l.initial.work;
}
