-- Half-edges with mended ends: how many, whether one runs as a lower one, and that their chains leave the map alone. Assumes nothing.
use Prim.Native.Nat.{ℕ, ◌*◌, ◌<◌, ◌≤◌}
use native.Mathlib.Omega.{arith}
use mathlib.Core.Path.{◌≡◌, refl, ap}
use mathlib.Core.Bool.{true, false}
use mathlib.Core.List.{List}
use lib.ListN.{length}
use Rattle.std.specs.Prelude.{Option, Some, None, is_some}
use Rattle.verdict.specs.Lowest.{any_under}
use Rattle.verdict.specs.Memory.{work_size, cleared_to}
use Rattle.verdict.proofs.Bools.{clash}
use Rattle.verdict.proofs.Memory.{drop_cleared}
use Rattle.chains.specs.Chains.{one_more, with_last, Found}
use Rattle.chains.proofs.Chains.{drop_last}
use Rattle.chains.proofs.Walk.{found_some, found_none}
use Rattle.tables.specs.Parts.{Parts}
use Rattle.pairs.specs.Halves.{halves, from, to, runs, repeats}
use Rattle.corners.specs.Corners.{relinked, recornered}
use Rattle.corners.specs.Memory.{map_at, top, SameTop}
use Rattle.mates.specs.Keys.{run_chains}

-- the floor with the changed corners has as many faces and half-edges
pub halves_same : (p : Parts) → halves (recornered p) ≡ halves p
unfolding recornered relinked
halves_same p = refl

pub faces_same : (p : Parts) → (recornered p).faces ≡ p.faces
unfolding recornered relinked
faces_same p = refl

-- ---- the map lies behind the chains

pub top_cleared : (w y : List ℕ) → work_size ≤ length w → y ≡ cleared_to (2 * run_chains) w → SameTop y w
unfolding top
top_cleared w y l e = rw e (drop_cleared map_at (2 * run_chains) w (omega arith) (omega arith))

pub top_last : (w y : List ℕ) (v h : ℕ) → v < run_chains → h < 12288 → y ≡ with_last run_chains w v h → SameTop y w
unfolding top
top_last w y v h l m e = rw e (drop_last map_at run_chains w v h l (omega arith))

-- ---- whether half-edge h runs as a lower one, by what the search found

module _ (q : Parts) (h a b : ℕ) (o : Option ℕ) (e : a ≡ from q h) (f : b ≡ to q h) (i : Found (runs q a b) h (one_more o)) where
  pub repeat_found : is_some o ≡ true → repeats q h ≡ true
  unfolding repeats
  repeat_found l = rw (← e, ← f) (some o refl)
    where
      some : (u : Option ℕ) → o ≡ u → any_under h (runs q a b) ≡ true
      some None z = clash l (ap is_some z)
      some (Some g) z = found_some (runs q a b) h o i g z

  pub repeat_not : is_some o ≡ false → repeats q h ≡ false
  unfolding repeats
  repeat_not l = rw (← e, ← f) (none o refl)
    where
      none : (u : Option ℕ) → o ≡ u → any_under h (runs q a b) ≡ false
      none None z = found_none (runs q a b) h o i z
      none (Some g) z = clash (ap is_some z) l
