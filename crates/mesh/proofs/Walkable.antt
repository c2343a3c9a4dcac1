-- The number whose bits are the walkable materials in code is the list of document 01, by one computed test; and rule 10 by where a face stands.
-- Assumes nothing.
use mathlib.Core.Path.{◌≡◌, refl, sym}
use mathlib.Core.Bool.{Bool, true, false, not, ◌&&◌, ◌||◌}
use Prim.Native.Nat.{ℕ, ◌/◌, ◌%◌, ◌^◌, ◌≤◌, ◌<◌}
use native.Mathlib.Omega.{arith}
use lib.Dec.{eqb}
use borrow.Author.Tests.{lt-ltb, le-ltb}
use Rattle.verdict.specs.Lists.{times}
use Rattle.verdict.specs.Lowest.{lowest, any_under, all_under}
use Rattle.verdict.proofs.Lowest.{all_true}
use Rattle.verdict.proofs.Lists.{NoneFrom, none_every}
use Rattle.tables.specs.Parts.{Parts, material}
use Rattle.mesh.specs.Faces.{walkables, walkable, misplaced}

-- bit m of the code's number
abbrev flag : ℕ → Bool
flag m = eqb (0x757E7A / 2 ^ m % 2) 1

-- the two say the same of a material
agrees : ℕ → Bool
agrees m = (flag m && walkable m) || (not (flag m) && not (walkable m))

agree : (a b : Bool) → ((a && b) || (not a && not b)) ≡ true → a ≡ b
agree true true e = refl
agree true false e = sym e
agree false true e = e
agree false false e = refl

all_agree : all_under 23 agrees ≡ true
unfolding agrees walkable times all_under any_under lowest
all_agree = refl

pub flag_walkable : (m : ℕ) → m < 23 → flag m ≡ walkable m
unfolding agrees
flag_walkable m l = agree (flag m) (walkable m) (all_true agrees 23 all_agree m l)

-- and of no other number
pub past_walkable : (m : ℕ) → 23 ≤ m → false ≡ walkable m
unfolding walkable NoneFrom
past_walkable m l = sym (le-ltb 0 (times m walkables) (omega (arith, none_every 23 walkables tt m l)))

-- ---- rule 10

pub misplaced_under : (p : Parts) (f : ℕ) → f < p.adjacency → not (walkable (material p f)) ≡ misplaced p f
unfolding misplaced
misplaced_under p f l = rw (lt-ltb f p.adjacency l)

pub misplaced_past : (p : Parts) (f : ℕ) → p.adjacency ≤ f → walkable (material p f) ≡ misplaced p f
unfolding misplaced
misplaced_past p f l = rw (le-ltb f p.adjacency l)
