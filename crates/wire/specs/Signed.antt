-- A bound on a signed number, either way.
use Rattle.std.specs.Prelude.{ℕ, ◌≤◌, ℤ, nat_abs}

-- z is at most k either way. A record, so that a law's arguments are found
pub record Within (k : ℕ) (z : ℤ) : Type 0 where
  pub le : nat_abs z ≤ k
