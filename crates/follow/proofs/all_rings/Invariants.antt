-- Each half-edge is passed by or starts a ring. Assumes nothing.
use Rattle.corners.specs.Memory.{SameTop}
use Rattle.follow.specs.Ready.{web_in, Ready}
use Rattle.follow.specs.Steps.{Passed}
use Rattle.follow.proofs.all_rings.Given as goal

abbrev pub invariant-loop-c : goal.invariant-loop-c
invariant-loop-c l = record { passed : Passed (web_in l.bytes) l.work l.so.edges l.so.rings l.c; ready : Ready l.bytes l.work; map : SameTop l.work l.fn.work }
