-- Which bit patterns stand on the grid: by the exponent's field E and the digits' field. Assumes nothing.
use mathlib.Core.Path.{◌≡◌, refl, sym, ap, ◌∙◌, subst}
use mathlib.Core.Logic.{◌⊎◌, inl, inr}
use Prim.Native.Nat.{ℕ, zero, suc, ◌+◌, ◌-◌, ◌*◌, ◌/◌, ◌%◌, ◌^◌, ◌≤◌, ◌<◌}
use native.Mathlib.Nat.{lt_irrefl, lt_of_lt_of_le, lt_of_le_of_lt, le_trans, le_of_eq, le_of_suc-le-suc, eq-or-lt_of_le, mul-le-mul_left, mul-one, one-mul, mul_assoc, mul_right_comm, mul-pos, mod-eq_of_lt, div-one, div-add-mod', eq_of_mul-eq-mul_right, eq-zero-or-pos}
use native.Mathlib.Omega.{arith}
use mathlib.Core.Bool.{Bool, true, false, ◌&&◌, cond}
use lib.Dec.{leb, eqb, lit<, lit≤}
use lib.Pow.{pow-add, pow_pos, pow_mono, shl_lt}
use lib.Ieee.{Float, nan, inf, fin, binary32, up, down, odd, of_fields, of_bits}
use lib.Ieee.Fits.{down_pos}
use lib.Ieee.Exact.{HasValue, odd_sign}
use lib.Ieee.Nearest.{div_same}
use borrow.Author.Tests.{le-leb, lt-leb, eq-eqb, ne_eqb}
use Rattle.verdict.proofs.Bools.{and_no}
use Rattle.grid.specs.Grid.{signed, on_grid, scaled, size64}

-- ---- equal fractions leave a remainder or leave none together: P / D is p / d
no_rest : (P D p d : ℕ) → 0 < D → 0 < d → P * d ≡ p * D → P % D ≡ 0 → p % d ≡ 0
no_rest P D p d A B h z =
    let q = P / D in
    let same : p / d ≡ q = sym (div_same P D p d A B h) in
    let e : p ≡ q * d = eq_of_mul-eq-mul_right D A p (q * d) (sym h ∙ ap (λ (x : ℕ). x * d) (sym (div-add-mod' P D) ∙ rest (q * D) (P % D) z) ∙ mul_right_comm q D d) in
    cut p (q * d) (p % d) (e) (ap (λ (x : ℕ). x * d + p % d) (sym same) ∙ div-add-mod' p d)
  where
    rest : (x r : ℕ) → r ≡ 0 → x + r ≡ x
    rest x r h = omega arith

    cut : (p x r : ℕ) → p ≡ x → x + r ≡ p → r ≡ 0
    cut p x r a b = omega arith

rest_same : (P D p d : ℕ) → 0 < D → 0 < d → P * d ≡ p * D → eqb (P % D) 0 ≡ eqb (p % d) 0
rest_same P D p d A B h = go (eq-zero-or-pos (p % d))
  where
    go : (p % d ≡ 0) ⊎ (0 < p % d) → eqb (P % D) 0 ≡ eqb (p % d) 0
    go (inl z) = eq-eqb (P % D) 0 (no_rest p d P D B A (sym h) z) ∙ sym (eq-eqb (p % d) 0 z)
    go (inr l) = ne_eqb (P % D) 0 (λ z. lt_irrefl 0 (subst (λ (x : ℕ). 0 < x) (no_rest P D p d A B h z) l)) ∙ sym (ne_eqb (p % d) 0 (λ z. lt_irrefl 0 (subst (λ (x : ℕ). 0 < x) z l)))

-- x is a / c in size, and 64 times that is p / d
abbrev pub GridIs : Float → Bool → ℕ → Type 0
GridIs x b n = (on_grid x ≡ b) × (size64 x ≡ n)

pub grid_at : (x : Float) (s : Bool) (a c p d : ℕ) → 0 < c → 0 < d → HasValue x s a c → a * 64 * d ≡ p * c → GridIs x (eqb (p % d) 0 && leb (p / d) 65536) (p / d)
unfolding on_grid size64
grid_at nan s a c p d C B v h = elim v [ ]
grid_at (inf _) s a c p d C B v h = elim v [ ]
grid_at (fin t m e) s a c p d C B v h =
    let P = m * up e * 64 in
    let k : P * d ≡ p * down e = eq_of_mul-eq-mul_right c C (P * d) (p * down e)
    (mul_right_comm P d c ∙ ap (λ (y : ℕ). y * d) (mul_right_comm (m * up e) 64 c ∙ ap (λ (y : ℕ). y * 64) v.1 ∙ mul_right_comm a (down e) 64) ∙ mul_right_comm (a * 64) (down e) d ∙ ap (λ (y : ℕ). y * down e) h ∙ mul_right_comm p c (down e)) in
    let q : P / down e ≡ p / d = div_same P (down e) p d (down_pos e) B k in
    (simp (q, rest_same P (down e) p d (down_pos e) B k), q)

-- ---- what a pattern is read as: E is the exponent's field and t the digits
abbrev pub expo : ℕ → ℕ
expo b = b % 2147483648 / 8388608

pub of_bits_is : (b : ℕ) → of_bits binary32 b ≡ of_fields binary32 (leb 2147483648 b) (expo b) (b % 8388608)
unfolding of_bits
of_bits_is b = refl

read_zero : (s : Bool) (t : ℕ) → HasValue (of_fields binary32 s 0 t) s t (2 ^ 149)
unfolding of_fields
read_zero s t = subst (λ (x : ℕ). HasValue (odd 24 s t 0 149) s x (2 ^ 149)) (mul-one t) (odd_sign 24 s t 0 149)

read_mid : (s : Bool) (x t : ℕ) → suc x < 255 → HasValue (of_fields binary32 s (suc x) t) s ((8388608 + t) * 2 ^ x) (2 ^ 149)
unfolding of_fields
read_mid s x t h = simp (ne_eqb (suc x) 255 (differ x h)) (odd_sign 24 s (8388608 + t) x 149)
  where
    differ : (x : ℕ) → suc x < 255 → suc x ≡ 255 → ⊥
    differ x h e = omega arith

read_ones : (s : Bool) (t : ℕ) → on_grid (of_fields binary32 s 255 t) ≡ false
unfolding of_fields on_grid
read_ones s t = go (eqb t 0)
  where
    go : (b : Bool) → on_grid (cond b (inf s) nan) ≡ false
    go true = refl
    go false = refl

-- ---- the four ranges of the exponent's field

-- a number of the smallest units that is not 0 and below a sixty-fourth is off the grid
tiny : (x : Float) (s : Bool) (a : ℕ) → HasValue x s a (2 ^ 149) → 0 < a → a * 64 < 2 ^ 149 → on_grid x ≡ false
tiny x s a v l h =
    (grid_at x s a (2 ^ 149) (a * 64) (2 ^ 149) (pow_pos 149) (pow_pos 149) v refl).0
    ∙ ap (λ (b : Bool). b && leb (a * 64 / 2 ^ 149) 65536) (ne_eqb (a * 64 % 2 ^ 149) 0 (λ z. no a (sym (mod-eq_of_lt h) ∙ z) l))
  where
    no : (a : ℕ) → a * 64 ≡ 0 → 0 < a → ⊥
    no a h l = omega arith

none : (s : Bool) → GridIs (of_fields binary32 s 0 0) true 0
none s = grid_at (of_fields binary32 s 0 0) s 0 (2 ^ 149) 0 1 (pow_pos 149) (lit< tt) (read_zero s 0) refl

low : (s : Bool) (E t : ℕ) → E < 121 → t < 8388608 → (E ≡ 0 → t ≡ 0 → ⊥) → on_grid (of_fields binary32 s E t) ≡ false
low s zero t h k n = tiny (of_fields binary32 s 0 t) s t (read_zero s t) (some t (n refl)) (lt_of_lt_of_le (small t k) (lit≤ tt))
  where
    some : (t : ℕ) → (t ≡ 0 → ⊥) → 0 < t
    some t h = omega arith

    small : (t : ℕ) → t < 8388608 → t * 64 < 536870912
    small t h = omega arith
low s (suc x) t h k n =
    tiny (of_fields binary32 s (suc x) t) s ((8388608 + t) * 2 ^ x) (read_mid s x t (room x h)) (mul-pos (lead t) (pow_pos x))
    (lt_of_lt_of_le (shl_lt (24 + x) 6 (shl_lt 24 x (digits t k))) (pow_mono (fits x h)))
  where
    room : (x : ℕ) → suc x < 121 → suc x < 255
    room x h = omega arith

    lead : (t : ℕ) → 0 < 8388608 + t
    lead t = omega arith

    digits : (t : ℕ) → t < 8388608 → 8388608 + t < 16777216
    digits t h = omega arith

    fits : (x : ℕ) → suc x < 121 → 24 + x + 6 ≤ 149
    fits x h = omega arith

mid : (s : Bool) (E t : ℕ) → 121 ≤ E → E ≤ 143 → GridIs (of_fields binary32 s E t) (eqb ((8388608 + t) % 2 ^ (144 - E)) 0 && leb ((8388608 + t) / 2 ^ (144 - E)) 65536) ((8388608 + t) / 2 ^ (144 - E))
mid s zero t h k = absurd (no h)
  where
    no : 121 ≤ 0 → ⊥
    no h = omega arith
mid s (suc x) t h k =
    let M = 8388608 + t in
    let d = 2 ^ (144 - suc x) in
    grid_at (of_fields binary32 s (suc x) t) s (M * 2 ^ x) (2 ^ 149) M d (pow_pos 149) (pow_pos (144 - suc x)) (read_mid s x t (room x k))
    (mul_assoc (M * 2 ^ x) 64 d ∙ mul_assoc M (2 ^ x) (64 * d) ∙ ap (λ (y : ℕ). M * y) (ap (λ (y : ℕ). 2 ^ x * y) (sym (pow-add 2 6 (144 - suc x))) ∙ sym (pow-add 2 x (6 + (144 - suc x))) ∙ ap (λ (y : ℕ). 2 ^ y) (all x k)))
  where
    room : (x : ℕ) → suc x ≤ 143 → suc x < 255
    room x h = omega arith

    all : (x : ℕ) → suc x ≤ 143 → x + (6 + (144 - suc x)) ≡ 149
    all x h = omega arith

high : (s : Bool) (E t : ℕ) → 143 < E → E < 256 → on_grid (of_fields binary32 s E t) ≡ false
high s zero t h k = absurd (no h)
  where
    no : 143 < 0 → ⊥
    no h = omega arith
high s (suc x) t h k = elim (eq-or-lt_of_le (le_of_suc-le-suc k)) [
  | inl e ↦ subst (λ (y : ℕ). on_grid (of_fields binary32 s y t) ≡ false) (sym e) (read_ones s t)
  | inr l ↦ big l
]
  where
    all : (x : ℕ) → 143 < suc x → x + 6 ≡ x - 143 + 149
    all x h = omega arith

    lots : (p q t : ℕ) → 8388608 + t ≤ p → p ≡ q → 65536 < q
    lots p q t h e = omega arith

    big : suc x < 255 → on_grid (of_fields binary32 s (suc x) t) ≡ false
    big l =
        let M = 8388608 + t in
        let p = M * 2 ^ (x - 143) in
        (grid_at (of_fields binary32 s (suc x) t) s (M * 2 ^ x) (2 ^ 149) p 1 (pow_pos 149) (lit< tt) (read_mid s x t l)
        (mul-one (M * 2 ^ x * 64) ∙ mul_assoc M (2 ^ x) 64 ∙ ap (λ (y : ℕ). M * y) (sym (pow-add 2 x 6) ∙ ap (λ (y : ℕ). 2 ^ y) (all x h) ∙ pow-add 2 (x - 143) 149) ∙ sym (mul_assoc M (2 ^ (x - 143)) (2 ^ 149)))).0
        ∙ ap (λ (b : Bool). eqb (p % 1) 0 && b) (lt-leb (p / 1) 65536 (lots p (p / 1) t (le_trans (le_of_eq (sym (mul-one M))) (mul-le-mul_left M (pow_pos (x - 143)))) (sym (div-one p))))
        ∙ and_no (eqb (p % 1) 0)

-- ---- the four, of a pattern
rest_of : (b : ℕ) → (b % 2147483648 ≡ 0 → ⊥) → expo b ≡ 0 → b % 8388608 ≡ 0 → ⊥
rest_of b n e t = n (omega arith)

digits_lt : (b : ℕ) → b % 8388608 < 8388608
digits_lt b = omega arith

expo_lt : (b : ℕ) → expo b < 256
expo_lt b = omega arith

pub zero_bits : (b : ℕ) → b % 2147483648 ≡ 0 → GridIs (of_bits binary32 b) true 0
zero_bits b h = rw (of_bits_is b, (zeros b h).0, (zeros b h).1) (none (leb 2147483648 b))
  where
    zeros : (b : ℕ) → b % 2147483648 ≡ 0 → (expo b ≡ 0) × (b % 8388608 ≡ 0)
    zeros b h = (omega arith, omega arith)

pub low_bits : (b : ℕ) → (b % 2147483648 ≡ 0 → ⊥) → expo b < 121 → on_grid (of_bits binary32 b) ≡ false
low_bits b n h = ap on_grid (of_bits_is b) ∙ low (leb 2147483648 b) (expo b) (b % 8388608) h (digits_lt b) (rest_of b n)

pub high_bits : (b : ℕ) → 143 < expo b → on_grid (of_bits binary32 b) ≡ false
high_bits b h = ap on_grid (of_bits_is b) ∙ high (leb 2147483648 b) (expo b) (b % 8388608) h (expo_lt b)

pub mid_bits : (b : ℕ) → 121 ≤ expo b → expo b ≤ 143 → GridIs (of_bits binary32 b) (eqb ((8388608 + b % 8388608) % 2 ^ (144 - expo b)) 0 && leb ((8388608 + b % 8388608) / 2 ^ (144 - expo b)) 65536) ((8388608 + b % 8388608) / 2 ^ (144 - expo b))
mid_bits b h k = rw (of_bits_is b) (mid (leb 2147483648 b) (expo b) (b % 8388608) h k)

-- ---- the sign
sign_of : (x : Float) (s : Bool) (a c : ℕ) → HasValue x s a c → scaled x ≡ signed s (size64 x)
unfolding scaled size64
sign_of nan s a c v = elim v [ ]
sign_of (inf _) s a c v = elim v [ ]
sign_of (fin t m e) s a c v = ap (λ (b : Bool). signed b (m * up e * 64 / down e)) v.0

ones_sign : (s b : Bool) → scaled (cond b (inf s) nan) ≡ signed s (size64 (cond b (inf s) nan))
unfolding scaled size64
ones_sign true true = refl
ones_sign true false = refl
ones_sign false true = refl
ones_sign false false = refl

fields_sign : (s : Bool) (E t : ℕ) → scaled (of_fields binary32 s E t) ≡ signed s (size64 (of_fields binary32 s E t))
unfolding of_fields
fields_sign s zero t = sign_of (of_fields binary32 s 0 t) s t (2 ^ 149) (read_zero s t)
fields_sign s (suc x) t = go (eqb (suc x) 255)
  where
    go : (b : Bool) → scaled (cond b (cond (eqb t 0) (inf s) nan) (odd 24 s (8388608 + t) x 149)) ≡ signed s (size64 (cond b (cond (eqb t 0) (inf s) nan) (odd 24 s (8388608 + t) x 149)))
    go true = ones_sign s (eqb t 0)
    go false = sign_of (odd 24 s (8388608 + t) x 149) s ((8388608 + t) * 2 ^ x) (2 ^ 149) (odd_sign 24 s (8388608 + t) x 149)

pub scaled_bits : (b : ℕ) → scaled (of_bits binary32 b) ≡ signed (leb 2147483648 b) (size64 (of_bits binary32 b))
scaled_bits b = rw (of_bits_is b) (fields_sign (leb 2147483648 b) (expo b) (b % 8388608))

-- ---- the middle range as code has it, with the unit made by a shift
abbrev pub lead : ℕ → ℕ
lead b = 8388608 + b % 8388608

abbrev pub unit : ℕ → ℕ
unit b = 1 * 2 ^ (144 - expo b) % 4294967296

module _ (b : ℕ) (h : 121 ≤ expo b) (k : expo b ≤ 143) where
  unit_is : unit b ≡ 2 ^ (144 - expo b)
  unit_is = ap (λ (x : ℕ). x % 4294967296) (one-mul (2 ^ (144 - expo b))) ∙ mod-eq_of_lt (lt_of_le_of_lt (pow_mono {j = 23} (short (expo b) h)) (lit< tt))
    where
      short : (x : ℕ) → 121 ≤ x → 144 - x ≤ 23
      short x h = omega arith

  pub unit_pos : 0 < unit b
  unit_pos = subst (λ (x : ℕ). 0 < x) (sym unit_is) (pow_pos (144 - expo b))

  at_unit : GridIs (of_bits binary32 b) (eqb (lead b % unit b) 0 && leb (lead b / unit b) 65536) (lead b / unit b)
  at_unit = subst (λ (d : ℕ). GridIs (of_bits binary32 b) (eqb (lead b % d) 0 && leb (lead b / d) 65536) (lead b / d)) (sym unit_is) (mid_bits b h k)

  pub mid_rest : (lead b % unit b ≡ 0 → ⊥) → on_grid (of_bits binary32 b) ≡ false
  mid_rest n = at_unit.0 ∙ simp (ne_eqb (lead b % unit b) 0 n)

  pub mid_far : 65536 < lead b / unit b → on_grid (of_bits binary32 b) ≡ false
  mid_far l = at_unit.0 ∙ simp (lt-leb (lead b / unit b) 65536 l) (and_no (eqb (lead b % unit b) 0))

  pub mid_on : lead b % unit b ≡ 0 → lead b / unit b ≤ 65536 → GridIs (of_bits binary32 b) true (lead b / unit b)
  mid_on z l = (at_unit.0 ∙ simp (eq-eqb (lead b % unit b) 0 z, le-leb (lead b / unit b) 65536 l), at_unit.1)
