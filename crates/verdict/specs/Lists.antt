-- How often and how many: counts in lists and of tests. Definitions only.
use Rattle.std.specs.Prelude.{ℕ, zero, suc, ◌+◌, ◌<◌, ◌≡◌, Bool, true, cond, List, [], ◌∷◌, eqb}
use Rattle.verdict.specs.Lowest.{all_under}

-- 1 for true, 0 for false
abbrev pub bit : Bool → ℕ
bit b = cond b 1 0

-- how often k stands in a list
unfoldable pub times : ℕ → List ℕ → ℕ
times k [] = 0
times k (x ∷ xs) = bit (eqb x k) + times k xs

-- how many numbers under n pass a test
unfoldable pub tally : ℕ → (ℕ → Bool) → ℕ
tally zero p = 0
tally (suc n) p = bit (p n) + tally n p

-- every number under n stands exactly once in the list
unfoldable pub once : ℕ → List ℕ → Bool
once n l = all_under n (λ k. eqb (times k l) 1)

-- "exactly one number under n passes", as a plain statement
pub record Only (n : ℕ) (p : ℕ → Bool) : Type 0 where
  pub it : ℕ
  pub under : it < n
  pub passes : p it ≡ true
  pub only : (m : ℕ) → m < n → p m ≡ true → m ≡ it
