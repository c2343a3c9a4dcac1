-- From the highest half-edge down. Assumes nothing.
use Rattle.corners.specs.Memory.{SameTop}
use Rattle.follow.specs.Ready.{web_in, Ready}
use Rattle.follow.specs.Steps.{Chained}
use Rattle.follow.proofs.chain_all.Given as goal

abbrev pub invariant-loop-h : goal.invariant-loop-h
invariant-loop-h l = record { chained : Chained (web_in l.bytes) l.work l.h; ready : Ready l.bytes l.work; map : SameTop l.work l.fn.work }
