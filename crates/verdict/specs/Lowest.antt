-- The lowest number of which a test holds: how every rule that names a place finds it; and the highest. Definitions only.
use Rattle.std.specs.Prelude.{ℕ, zero, suc, ◌<◌, ◌≤◌, ◌≡◌, Bool, true, false, cond, not, ltb, Option, Some, None}

-- the lowest number under n of which the test holds, or n where there is none
unfoldable pub lowest : ℕ → (ℕ → Bool) → ℕ
lowest zero p = zero
lowest (suc n) p = let k = lowest n p in cond (ltb k n) k (cond (p n) n (suc n))

-- the test holds of some number under n, of each number under n
unfoldable pub any_under : ℕ → (ℕ → Bool) → Bool
any_under n p = ltb (lowest n p) n

unfoldable pub all_under : ℕ → (ℕ → Bool) → Bool
all_under n p = not (any_under n (λ k. not (p k)))

-- the lowest number under n of which the test holds, if there is one
unfoldable pub first : ℕ → (ℕ → Bool) → Option ℕ
first n p = cond (any_under n p) (Some (lowest n p)) None

-- "the lowest such", as a plain statement: k is at most n; the test holds of k, where k is under n, and of none below k
pub record IsLowest (p : ℕ → Bool) (n k : ℕ) : Type 0 where
  pub within : k ≤ n
  pub holds : k < n → p k ≡ true
  pub before : (j : ℕ) → j < k → p j ≡ false

-- the highest number under n of which the test holds, or 0 where there is none
unfoldable pub highest : ℕ → (ℕ → Bool) → ℕ
highest zero p = 0
highest (suc n) p = let k = highest n p in cond (p n) n k

-- "the highest such", as a plain statement
pub record IsHighest (p : ℕ → Bool) (n k : ℕ) : Type 0 where
  pub under : k < n
  pub holds : p k ≡ true
  pub above : (j : ℕ) → k < j → j < n → p j ≡ false
