-- The number of half-edges is put at each vertex. Assumes nothing.
use Rattle.std.proofs.Common.{ℕ, ◌<◌, ◌≡◌}
use Rattle.follow.specs.Memory.{head_in, SameMates}
use Rattle.follow.proofs.empty_chains.Given as goal

abbrev pub invariant-loop-v : goal.invariant-loop-v
invariant-loop-v l = record { heads : (x : ℕ) → x < l.v → head_in l.work x ≡ l.n; same : SameMates l.work l.fn.work }
