-- The bytes so far are copied.
use Rattle.std.proofs.Common.{◌≡◌, take, drop}
use Rattle.wire.specs.Bytes.{put}
use Rattle.fixed.proofs.copy_part.Given as goal

abbrev pub invariant-loop-j : goal.invariant-loop-j
invariant-loop-j l = l.dst ≡ put l.fn.dst l.at (take l.j (drop l.from l.src))
