-- Document 01's sentences on the grid as plain propositions, beside the tests of Grid. proofs/ shows both ways.
-- `HasValue x s a c` of lib.Ieee.Exact says that x is finite, has the sign s (true: negative), and is a / c in size: x is ±a/c exactly.
use Rattle.std.specs.Prelude.{ℕ, ◌≤◌, Bool, ℤ, nat_abs, ◌+ℤ◌}
use lib.Ieee.{Float, binary32, of_bits}
use Rattle.std.specs.Float.Ieee.Exact.{HasValue}
use Rattle.grid.specs.Grid.{scaled, largest_step}

-- on the grid: 64 times x is a whole number within ±65,536, so x is ±number/64. Zero has either sign
pub record OnGrid (x : Float) : Type 0 where
  pub sign : Bool
  pub number : ℕ
  pub small : number ≤ 65536
  pub value : HasValue x sign number 64

-- a permitted step: from -640 to 640
abbrev pub PermittedStep : ℤ → Type 0
PermittedStep n = nat_abs n ≤ largest_step

-- a nudge that 24 does not refuse: a permitted step, the old value on the grid, the new one not beyond it
pub record MayNudge (b : ℕ) (n : ℤ) : Type 0 where
  pub step : PermittedStep n
  pub on : OnGrid (of_bits binary32 b)
  pub to : nat_abs (scaled (of_bits binary32 b) +ℤ n) ≤ 65536
