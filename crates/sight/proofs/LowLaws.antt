-- The first marks of a row, one after another: `row % 2 ^ j` is the row's first j marks, and its set marks are counted one by one. Assumes nothing.
use mathlib.Core.Path.{◌≡◌, refl, sym, ap, ◌∙◌}
use mathlib.Core.Bool.{true, false}
use Prim.Native.Nat.{ℕ, zero, suc, ◌+◌, ◌*◌, ◌/◌, ◌%◌, ◌^◌, ◌≤◌, ◌<◌}
use native.Mathlib.Nat.{mod-lt, mod-eq_of_lt, one-mul, zero-mul, zero-add, add_comm}
use native.Mathlib.Numerals.{one-add}
use native.Mathlib.Omega.{arith}
use lib.Count.{ones, ones_cat, ones-le}
use lib.Pow.{pow_pos, mod-pow-add}
use borrow.Author.Tests.{eqb-true}
use Rattle.verdict.specs.Lists.{bit, tally}
use Rattle.verdict.proofs.Bools.{test}
use Rattle.sight.specs.Rows.{sees, with_mark}
use Rattle.sight.proofs.MarkLaws.{sees_past, unseen}

-- a mark that is set is 1
pub seen_one : (row j : ℕ) → sees row j ≡ true → row / 2 ^ j % 2 ≡ 1
unfolding sees
seen_one row j e = eqb-true (row / 2 ^ j % 2) 1 e

-- one mark more: mark j above the first j
pub low_more : (row j : ℕ) → row % 2 ^ suc j ≡ (row / 2 ^ j % 2) * 2 ^ j + row % 2 ^ j
low_more row j = rw (← one-add j) (mod-pow-add row 1 j)

pub low_fits : (row j : ℕ) → row % 2 ^ j < 2 ^ j
low_fits row j = mod-lt row (pow_pos j)

-- the first j + 1 marks are the first j and mark j, if it is set ..
pub low_set : (row j : ℕ) → sees row j ≡ true → with_mark (row % 2 ^ j) j ≡ row % 2 ^ suc j
unfolding with_mark
low_set row j e = rw (low_more row j, seen_one row j e, one-mul (2 ^ j)) (add_comm (row % 2 ^ j) (2 ^ j))

-- .. and the first j, if it is not
pub low_unset : (row j : ℕ) → sees row j ≡ false → row % 2 ^ suc j ≡ row % 2 ^ j
low_unset row j e = rw (low_more row j, unseen row j e, zero-mul (2 ^ j)) (zero-add (row % 2 ^ j))

-- of the first j marks, mark j is none
pub low_past : (row j : ℕ) → sees (row % 2 ^ j) j ≡ false
low_past row j = sees_past (row % 2 ^ j) j (low_fits row j)

-- a row of n marks is its first n
pub low_all : (row n : ℕ) → row < 2 ^ n → row % 2 ^ n ≡ row
low_all row n h = mod-eq_of_lt h

-- ---- how many are set

ones_digit : (d : ℕ) → d < 2 → ones d ≡ d
unfolding ones
ones_digit zero l = refl
ones_digit (suc zero) l = refl
ones_digit (suc (suc d)) l = absurd (omega arith)

digit_bit : (row j : ℕ) → row / 2 ^ j % 2 ≡ bit (sees row j)
digit_bit row j = test (sees row j) (λ (e : sees row j ≡ true). rw e (seen_one row j e)) (λ (e : sees row j ≡ false). rw e (unseen row j e))

-- one mark more counts 1 if it is set
pub low_count : (row j : ℕ) → ones (row % 2 ^ suc j) ≡ bit (sees row j) + ones (row % 2 ^ j)
low_count row j =
    ap ones (low_more row j) ∙ ones_cat j (row / 2 ^ j % 2) (row % 2 ^ j) (low_fits row j)
    ∙ ap (λ (m : ℕ). m + ones (row % 2 ^ j)) (ones_digit (row / 2 ^ j % 2) (mod-lt (row / 2 ^ j) (omega arith)) ∙ digit_bit row j)

-- the set marks among the first n, counted one by one
pub low_tally : (row n : ℕ) → ones (row % 2 ^ n) ≡ tally n (sees row)
unfolding tally ones
low_tally row zero = ap ones (mod_one row)
  where
    mod_one : (k : ℕ) → k % 1 ≡ 0
    mod_one k = omega arith
low_tally row (suc n) = low_count row n ∙ ap (λ (m : ℕ). bit (sees row n) + m) (low_tally row n)

-- so a row's ones are its set marks
pub ones_tally : (row n : ℕ) → row < 2 ^ n → ones row ≡ tally n (sees row)
ones_tally row n h = ap ones (sym (low_all row n h)) ∙ low_tally row n

-- a row has no more set marks than rooms, 64 at the most
pub ones_few : (row n : ℕ) → n ≤ 64 → row < 2 ^ n → ones row ≤ 64
ones_few row n l h = omega (arith, ones-le n row h)
