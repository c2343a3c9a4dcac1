-- Marks of a row: past a row's end none is set, a row with one mark more fits where the row did, and no other mark changes.
-- Assumes nothing.
use mathlib.Core.Path.{◌≡◌, sym, ap, ◌∙◌}
use mathlib.Core.Bool.{true, false}
use Prim.Native.Nat.{ℕ, ◌+◌, ◌-◌, ◌*◌, ◌/◌, ◌%◌, ◌^◌, ◌≤◌, ◌<◌}
use native.Mathlib.Nat.{div-eq_of_lt, div-add-mod', lt_of_mul-lt-mul_right, mod-lt, mul-le-mul_right, mul_assoc, add-mul, zero-lt-suc, lt_of_lt_of_le, one-mul, mod-eq_of_lt}
use native.Mathlib.Omega.{arith}
use native.Mathlib.Decide.{dec_lt}
use lib.Dec.{eqb}
use lib.Pow.{pow_pos, pow-add, pow_mono, pow-lt, split, high, shr-shr}
use borrow.Author.Tests.{eqb-false, eq-eqb}
use Rattle.verdict.proofs.Bools.{decided}
use Rattle.sight.specs.Rows.{sees, with_mark}

-- past a row's end no mark is set
pub sees_past : (row j : ℕ) → row < 2 ^ j → sees row j ≡ false
unfolding sees
sees_past row j h = rw (div-eq_of_lt h)

-- a mark that is not set is 0
pub unseen : (row j : ℕ) → sees row j ≡ false → row / 2 ^ j % 2 ≡ 0
unfolding sees
unseen row j e = let n : row / 2 ^ j % 2 ≡ 1 → ⊥ = eqb-false (row / 2 ^ j % 2) 1 e in omega (arith, mod-lt (row / 2 ^ j) (zero-lt-suc 1))

-- twice a power, and as many more digits below
pow_split : (j n : ℕ) → j < n → 2 ^ n ≡ 2 ^ (n - (j + 1)) * 2 * 2 ^ j
pow_split j n l =
    let k : n ≡ (n - (j + 1)) + (1 + j) = omega arith in
    ap (λ (m : ℕ). 2 ^ m) k ∙ pow-add 2 (n - (j + 1)) (1 + j) ∙ ap (λ (m : ℕ). 2 ^ (n - (j + 1)) * m) (pow-add 2 1 j) ∙ sym (mul_assoc (2 ^ (n - (j + 1))) 2 (2 ^ j))

even_room : (q t p r : ℕ) → r < p → q * p + r < t * 2 * p → q % 2 ≡ 0 → q * p + r + p < t * 2 * p
even_room q t p r h k e =
    let a : q < t * 2 = lt_of_mul-lt-mul_right p (omega arith) in
    let b : (q + 2) * p ≤ t * 2 * p = mul-le-mul_right p (omega arith) in
    omega (arith, b, add-mul q 2 p)

-- a row with one mark more fits where the row did
pub mark_fits : (row j n : ℕ) → j < n → row < 2 ^ n → sees row j ≡ false → with_mark row j < 2 ^ n
unfolding with_mark
mark_fits row j n l h e = rw (pow_split j n l) (rw (div-add-mod' row (2 ^ j)) at
    (even_room (row / 2 ^ j) (2 ^ (n - (j + 1))) (2 ^ j) (row % 2 ^ j) (mod-lt row (pow_pos j)) (rw (div-add-mod' row (2 ^ j), ← pow_split j n l) h) (unseen row j e)))

-- past 64 marks a row has none
pub none_past : (row j : ℕ) → row < 2 ^ 64 → 64 ≤ j → false ≡ sees row j
none_past row j h l = sym (sees_past row j (lt_of_lt_of_le h (pow_mono l)))

-- a mark by itself, as it is shifted
pub shifted : (row j : ℕ) → j < 64 → row + 1 * 2 ^ j % 18446744073709551616 ≡ with_mark row j
unfolding with_mark
shifted row j h = rw (one-mul (2 ^ j), mod-eq_of_lt {n = 2 ^ j} {m = 18446744073709551616} (pow-lt h))

-- ---- one mark more: it is set, and no other mark changes

-- the digits from j on are one more
mark_high : (row j : ℕ) → with_mark row j / 2 ^ j ≡ row / 2 ^ j + 1
unfolding with_mark
mark_high row j =
    let e : row + 2 ^ j ≡ (row / 2 ^ j + 1) * 2 ^ j + row % 2 ^ j = omega (arith, split row j, add-mul (row / 2 ^ j) 1 (2 ^ j), one-mul (2 ^ j)) in
    ap (λ (x : ℕ). x / 2 ^ j) e ∙ high (row / 2 ^ j + 1) j (mod-lt row (pow_pos j))

pub mark_set : (row j : ℕ) → sees row j ≡ false → sees (with_mark row j) j ≡ true
unfolding sees
mark_set row j e =
    let z : row / 2 ^ j % 2 ≡ 0 = unfold sees in (unseen row j e) in
    rw (mark_high row j) (eq-eqb ((row / 2 ^ j + 1) % 2) 1 (omega (arith, z)))

-- above it
mark_above : (row j m : ℕ) → sees row j ≡ false → with_mark row j / 2 ^ (j + (1 + m)) ≡ row / 2 ^ (j + (1 + m))
mark_above row j m e =
    let z = unseen row j e in
    let h : (row / 2 ^ j + 1) / 2 ≡ row / 2 ^ j / 2 = omega (arith, z) in
    sym (shr-shr (with_mark row j) j (1 + m)) ∙ sym (shr-shr (with_mark row j / 2 ^ j) 1 m) ∙ rw (mark_high row j, h) (shr-shr (row / 2 ^ j) 1 m ∙ shr-shr row j (1 + m))

-- below it
mark_below : (row k m : ℕ) → with_mark row (m + (1 + k)) / 2 ^ k ≡ row / 2 ^ k + 2 ^ m * 2
unfolding with_mark
mark_below row k m =
    let p : 2 ^ (m + (1 + k)) ≡ 2 ^ m * 2 * 2 ^ k = pow-add 2 m (1 + k) ∙ ap (λ (x : ℕ). 2 ^ m * x) (pow-add 2 1 k) ∙ sym (mul_assoc (2 ^ m) 2 (2 ^ k)) in
    let e : row + 2 ^ (m + (1 + k)) ≡ (row / 2 ^ k + 2 ^ m * 2) * 2 ^ k + row % 2 ^ k = omega (arith, split row k, add-mul (row / 2 ^ k) (2 ^ m * 2) (2 ^ k), p) in
    ap (λ (x : ℕ). x / 2 ^ k) e ∙ high (row / 2 ^ k + 2 ^ m * 2) k (mod-lt row (pow_pos k))

pub mark_other : (row j k : ℕ) → sees row j ≡ false → (j ≡ k → ⊥) → sees (with_mark row j) k ≡ sees row k
unfolding sees
mark_other row j k e n =
    decided (dec_lt j k)
    (λ (l : j < k).
    let z : j + (1 + (k - (j + 1))) ≡ k = omega arith in
    let h = rw z at (mark_above row j (k - (j + 1)) e) in
    ap (λ (x : ℕ). eqb (x % 2) 1) h)
    (λ (l : j < k → ⊥).
    let z : (j - (k + 1)) + (1 + k) ≡ j = omega arith in
    let h = rw z at (mark_below row k (j - (k + 1))) in
    let q : (row / 2 ^ k + 2 ^ (j - (k + 1)) * 2) % 2 ≡ row / 2 ^ k % 2 = omega arith in
    ap (λ (x : ℕ). eqb (x % 2) 1) h ∙ ap (λ (x : ℕ). eqb x 1) q)
