-- The numbers 0, 1, 2 .. in chains by a key, which stand in lent memory: what a search for the numbers of one key goes by, and so does not
-- look at all numbers. No rule speaks of chains. Definitions only.
use Rattle.std.specs.Prelude.{ℕ, zero, suc, ◌+◌, ◌-◌, ◌*◌, ◌%◌, ◌<◌, ◌≤◌, ◌≡◌, Bool, true, false, cond, List, eqb, Option, Some, None}
use Rattle.wire.specs.Bytes.{u16_at, put_u16}

-- how the memory has a number, or none: as one more than itself, or 0
abbrev pub one_more : Option ℕ → ℕ
one_more None = 0
one_more (Some k) = k + 1

-- by how many chains the second part of a key moves it on; any number is right, this one keeps the chains short
abbrev pub stride : ℕ
stride = 517

-- the chain, of n, of a key of two parts; both count, so that keys with one part in common stand in many chains
unfoldable pub mixed : ℕ → ℕ → ℕ → ℕ
mixed n a b = (a + stride * b) % n

-- the last number under s of chain v, as one more than itself, or 0 where there is none
unfoldable pub last_under : (ℕ → ℕ) → ℕ → ℕ → ℕ
last_under key v zero = 0
last_under key v (suc s) = cond (eqb (key s) v) (suc s) (last_under key v s)

-- where the memory has, as numbers of two bytes, the last number of chain v, and behind those of n chains the number before h in its chain
abbrev pub last_place : ℕ → ℕ
last_place v = 2 * v

abbrev pub before_place : ℕ → ℕ → ℕ
before_place n h = 2 * (n + h)

-- the numbers under s stand in n chains, each in that of its key
pub record Chained (n : ℕ) (key : ℕ → ℕ) (w : List ℕ) (s : ℕ) : Type 0 where
  pub last : (v : ℕ) → v < n → u16_at w (last_place v) ≡ last_under key v s
  pub before : (h : ℕ) → h < s → u16_at w (before_place n h) ≡ last_under key (key h) h

-- a memory with number h put last in chain v, of n chains
unfoldable pub with_last : ℕ → List ℕ → ℕ → ℕ → List ℕ
with_last n w v h = put_u16 (put_u16 w (before_place n h) (u16_at w (last_place v))) (last_place v) (h + 1)

-- what a search answers: one more than a number under s of which the test holds, or 0 where there is none
pub record Found (t : ℕ → Bool) (s g : ℕ) : Type 0 where
  pub within : g ≤ s
  pub holds : 0 < g → t (g - 1) ≡ true
  pub none : g ≤ 0 → (k : ℕ) → k < s → t k ≡ false
