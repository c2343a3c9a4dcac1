-- Laws of the grid: the test is the plain proposition, z sixty-fourths are an f32 exactly, sums stay exact, and a number has one pattern.
-- Assumes nothing.
use mathlib.Core.Path.{◌≡◌, refl, sym, ap, ◌∙◌}
use mathlib.Core.Logic.{inl, inr}
use Prim.Native.Nat.{ℕ, zero, suc, ◌+◌, ◌-◌, ◌*◌, ◌/◌, ◌%◌, ◌^◌, ◌≤◌, ◌<◌, zero-le}
use native.Mathlib.Nat.{eq_of_mul-eq-mul_right, le_of_lt, lt_of_le_of_lt, lt_of_lt_of_le, le_trans, zero-lt-suc, mul_comm, mul_assoc, mul_right_comm, mul-pos, mul-div_cancel, mul-mod_left, div-add-mod'}
use native.Mathlib.Omega.{arith}
use mathlib.Core.Bool.{Bool, true, false, not, ◌&&◌, cond}
use lib.IntN.{ℤ, pos, negsuc, nat_abs, ◌+ℤ◌}
use lib.Dec.{T, leb, eqb, lit<, lit≤, leb→le, le→leb, lt→ltb}
use lib.Pow.{shl_lt}
use lib.Ieee.{Float, nan, inf, fin, Format, binary32, unlike, up, down, low, prec, hid, top, size, fits, is_nan, round, sum, add, div, of_int, in_float, of_bits, to_bits}
use lib.Ieee.Fits.{round-fits, down_pos}
use lib.Ieee.Exact.{HasValue, round_exact}
use lib.Ieee.Back.{round_whole}
use lib.Ieee.Scale.{round_same}
use lib.Ieee.Nearest.{div_same}
use lib.Ieee.Bits.{of_bits-to_bits}
use borrow.Author.Tests.{lt-ltb, le-ltb, eqb-true, leb-true, le-leb}
use Rattle.verdict.proofs.Bools.{clash, and_true}
use Rattle.grid.specs.Grid.{finite, signed, on_grid, size64, scaled, grid_float}
use Rattle.grid.specs.Plain.{OnGrid}
use Rattle.grid.proofs.Fractions.{lt_or_le, add_at}

-- ---- the test is the plain proposition
pub on_grid_lem : (x : Float) → on_grid x ≡ true → OnGrid x
unfolding on_grid
on_grid_lem nan h = clash h refl
on_grid_lem (inf s) h = clash h refl
on_grid_lem (fin s m e) h =
    let t = and_true (eqb (m * up e * 64 % down e) 0) (leb (m * up e * 64 / down e) 65536) h in
    record {
      sign = s;
      number = m * up e * 64 / down e;
      small = leb-true (m * up e * 64 / down e) 65536 t.1;
      value = (refl, rest (m * up e * 64) (m * up e * 64 / down e * down e) (m * up e * 64 % down e) (div-add-mod' (m * up e * 64) (down e)) (eqb-true (m * up e * 64 % down e) 0 t.0));
    }
  where
    rest : (x q r : ℕ) → q + r ≡ x → r ≡ 0 → x ≡ q
    rest x q r a b = omega arith

-- what has the value n / 64 is on the grid, and scales to n
value_on : (x : Float) (s : Bool) (n : ℕ) → n ≤ 65536 → HasValue x s n 64 → (on_grid x ≡ true) × (scaled x ≡ signed s n)
unfolding on_grid scaled
value_on nan s n h v = elim v [ ]
value_on (inf _) s n h v = elim v [ ]
value_on (fin t m e) s n h v =
    let q : m * up e * 64 / down e ≡ n = ap (λ (y : ℕ). y / down e) v.1 ∙ mul-div_cancel n (down_pos e) in
    let r : m * up e * 64 % down e ≡ 0 = ap (λ (y : ℕ). y % down e) v.1 ∙ mul-mod_left n (down e) in
    (simp (q, r) (le-leb n 65536 h), ap (λ (b : Bool). signed b (m * up e * 64 / down e)) v.0 ∙ ap (signed s) q)

pub grid_on : {x : Float} → OnGrid x → on_grid x ≡ true
grid_on {x} g = (value_on x g.sign g.number g.small g.value).0

-- and then 64 times x is the scaled number
pub scaled_on : {x : Float} (g : OnGrid x) → scaled x ≡ signed g.sign g.number
scaled_on {x} g = (value_on x g.sign g.number g.small g.value).1

-- which is small
pub scaled_small : {x : Float} → OnGrid x → nat_abs (scaled x) ≤ 65536
scaled_small g = rw (scaled_on g) (go g.sign g.number g.small)
  where
    go : (s : Bool) (n : ℕ) → n ≤ 65536 → nat_abs (signed s n) ≤ 65536
    go true zero h = h
    go true (suc n) h = h
    go false n h = h

-- so is the size that size_of answers
pub on_small : (x : Float) → cond (on_grid x) (size64 x) 0 ≤ 65536
unfolding on_grid size64
on_small nan = zero-le
on_small (inf s) = zero-le
on_small (fin s m e) = go (eqb (m * up e * 64 % down e) 0) (leb (m * up e * 64 / down e) 65536) (leb→le (m * up e * 64 / down e) 65536)
  where
    go : (a b : Bool) → (T b → m * up e * 64 / down e ≤ 65536) → cond (a && b) (m * up e * 64 / down e) 0 ≤ 65536
    go true true h = h tt
    go true false h = zero-le
    go false b h = zero-le

-- on the grid is finite, and no NaN
pub grid_finite : {x : Float} → OnGrid x → finite x ≡ true
grid_finite {x} g = go x g.sign g.number g.value
  where
    go : (x : Float) (s : Bool) (n : ℕ) → HasValue x s n 64 → finite x ≡ true
    go nan s n v = elim v [ ]
    go (inf _) s n v = elim v [ ]
    go (fin t m e) s n v = unfold finite in refl

pub finite_number : (x : Float) → finite x ≡ true → T (not (is_nan x))
unfolding finite is_nan
finite_number nan h = clash h refl
finite_number (inf s) h = tt
finite_number (fin s m e) h = tt

-- ---- z sixty-fourths are an f32 exactly
pub grid_float_value : (s : Bool) (n : ℕ) → n ≤ 65536 → HasValue (round binary32 s n 64) s n 64
grid_float_value s n h =
    let small : n < 2 ^ 24 = lt_of_le_of_lt h (lit< tt) in
    round_exact binary32 s n 64 n 143 (lit< tt) small (lt_of_lt_of_le (shl_lt 24 143 small) (lit≤ tt)) (sym (mul_assoc n (2 ^ 143) 64))

pub grid_float_on : (z : ℤ) → nat_abs z ≤ 65536 → OnGrid (grid_float z)
unfolding grid_float
grid_float_on (pos n) h = record { sign = false; number = n; small = h; value = grid_float_value false n h }
grid_float_on (negsuc n) h = record { sign = true; number = suc n; small = h; value = grid_float_value true (suc n) h }

pub grid_float_scaled : (z : ℤ) → nat_abs z ≤ 65536 → scaled (grid_float z) ≡ z
unfolding grid_float
grid_float_scaled (pos n) h = (value_on (round binary32 false n 64) false n h (grid_float_value false n h)).1
grid_float_scaled (negsuc n) h = (value_on (round binary32 true (suc n) 64) true (suc n) h (grid_float_value true (suc n) h)).1

pub grid_float_fits : (z : ℤ) → T (fits binary32 (grid_float z))
unfolding grid_float
grid_float_fits (pos n) = round-fits binary32 false n 64
grid_float_fits (negsuc n) = round-fits binary32 true (suc n) 64

-- ---- the sum of two numbers of sixty-fourths, the second of which is not minus zero
none : 0 < 0 → ⊥
none h = omega arith

one_less : (k a : ℕ) → a < suc k → suc k - a ≡ suc (suc k - suc a)
one_less k a h = omega arith

plain : (b : ℕ) → b - 0 ≡ 0 + b
plain b = omega arith

none_of : (b : ℕ) → b ≤ 0 → 0 - b ≡ 0 + b
none_of b h = omega arith

level : (a b : ℕ) → a ≤ b → b ≤ a → a - b ≡ b - a
level a b h g = omega arith

first_suc : (k : ℕ) → 0 + suc k ≡ suc (suc k - suc 0)
first_suc k = omega arith

two_suc : (j k : ℕ) → suc j + suc k ≡ suc (suc (j + k))
two_suc j k = omega arith

sum_grid : (s t : Bool) (a b : ℕ) → (T t → 0 < b) → sum binary32 s a t b 64 ≡ grid_float (signed s a +ℤ signed t b)
unfolding sum grid_float
sum_grid false false a b h = refl
sum_grid false true a zero h = absurd (none (h tt))
sum_grid false true a (suc k) h = elim (lt_or_le a (suc k)) [
  | inl l ↦ simp (lt-ltb a (suc k) l, one_less k a l)
  | inr l ↦ simp (le-ltb a (suc k) l)
]
sum_grid true false zero b h = elim (lt_or_le 0 b) [
  | inl l ↦ simp (lt-ltb 0 b l, plain b)
  | inr l ↦ simp (le-ltb 0 b l, le-ltb b 0 zero-le, none_of b l)
]
sum_grid true false (suc k) b h = elim (lt_or_le b (suc k)) [
  | inl l ↦ simp (lt-ltb b (suc k) l, le-ltb (suc k) b (le_of_lt l), one_less k b l)
  | inr l ↦ elim (lt_or_le (suc k) b) [
    | inl g ↦ simp (le-ltb b (suc k) l, lt-ltb (suc k) b g)
    | inr g ↦ simp (le-ltb b (suc k) l, le-ltb (suc k) b g, level (suc k) b l g)
  ]
]
sum_grid true true a zero h = absurd (none (h tt))
sum_grid true true zero (suc k) h = simp (lt-ltb 0 (suc k) (zero-lt-suc k), first_suc k)
sum_grid true true (suc j) (suc k) h = ap (λ (x : ℕ). round binary32 true x 64) (two_suc j k)

-- so the f32 sum of a float on the grid and z sixty-fourths is the float of the sum
add_signed : (x : Float) (s : Bool) (a : ℕ) (t : Bool) (b : ℕ) → HasValue x s a 64 → b ≤ 65536 → (T t → 0 < b) → add binary32 x (round binary32 t b 64) ≡ grid_float (signed s a +ℤ signed t b)
add_signed x s a t b v h k = add_at binary32 x (round binary32 t b 64) s t a b 64 (lit< tt) v (grid_float_value t b h) ∙ sum_grid s t a b k

pub add_grid : {x : Float} (z : ℤ) → OnGrid x → nat_abs z ≤ 65536 → add binary32 x (grid_float z) ≡ grid_float (scaled x +ℤ z)
add_grid {x} z g h = go z h ∙ ap (λ (y : ℤ). grid_float (y +ℤ z)) (sym (scaled_on g))
  where
    go : (z : ℤ) → nat_abs z ≤ 65536 → add binary32 x (grid_float z) ≡ grid_float (signed g.sign g.number +ℤ z)
    go (pos n) h = unfold grid_float in add_signed x g.sign g.number false n g.value h (λ (u : ⊥). absurd u)
    go (negsuc n) h = unfold grid_float in add_signed x g.sign g.number true (suc n) g.value h (λ _. zero-lt-suc n)

-- ---- the step: z as an f32, divided by 64
div_at : (f : Format) (x : Float) (s : Bool) (a : ℕ) → HasValue x s a 1 → div f x (fin false 1 (pos 6)) ≡ round f s a 64
unfolding div
div_at f nan s a v = elim v [ ]
div_at f (inf _) s a v = elim v [ ]
div_at f (fin t m e) s a v =
    ap (λ (b : Bool). round f b (m * up e * 1) (64 * down e)) (like t ∙ v.0)
    ∙ round_same f s (m * up e * 1) (64 * down e) a 64 (mul-pos (lit< tt) (down_pos e)) (lit< tt)
    (ap (λ (y : ℕ). y * 64) v.1 ∙ mul_assoc a (down e) 64 ∙ ap (λ (y : ℕ). a * y) (mul_comm (down e) 64))
  where
    like : (b : Bool) → unlike b false ≡ b
    like true = refl
    like false = refl

pub step_is : (z : ℤ) → nat_abs z ≤ 65536 → div binary32 (of_int binary32 z) (of_bits binary32 0x4280_0000) ≡ grid_float z
unfolding of_int grid_float of_bits
step_is (pos n) h = div_at binary32 (round binary32 false n 1) false n (round_whole binary32 false n (le_trans h (lit≤ tt)))
step_is (negsuc n) h = div_at binary32 (round binary32 true (suc n) 1) true (suc n) (round_whole binary32 true (suc n) (le_trans h (lit≤ tt)))

-- and the cast to an f32 loses nothing
pub step_in : (z : ℤ) → nat_abs z ≤ 65536 → T (in_float binary32 z)
unfolding in_float
step_in (pos n) h = le→leb n (2 ^ 24) (le_trans h (lit≤ tt))
step_in (negsuc n) h = lt→ltb n (2 ^ 24) (le_trans h (lit≤ tt))

-- ---- a float is one pattern: two that the format holds, with one sign and one size, are the same
to_bits_at : (f : Format) (s : Bool) (m : ℕ) (e : ℤ) (n : ℕ) → m * up e * 2 ^ low f / down e ≡ n → to_bits f (fin s m e) ≡ cond s (top f) 0 + (size n - prec f) * hid f + n / 2 ^ (size n - prec f)
unfolding to_bits
to_bits_at f s m e n p = ap (λ (x : ℕ). cond s (top f) 0 + (size x - prec f) * hid f + x / 2 ^ (size x - prec f)) p

same_bits : (f : Format) (x y : Float) (s : Bool) (a c : ℕ) → 0 < c → HasValue x s a c → HasValue y s a c → to_bits f x ≡ to_bits f y
same_bits f nan y s a c C v w = elim v [ ]
same_bits f (inf _) y s a c C v w = elim v [ ]
same_bits f (fin t m e) nan s a c C v w = elim w [ ]
same_bits f (fin t m e) (inf _) s a c C v w = elim w [ ]
same_bits f (fin t m e) (fin u n d) s a c C v w =
    let k : m * up e * down d ≡ n * up d * down e = eq_of_mul-eq-mul_right c C (m * up e * down d) (n * up d * down e)
    (mul_right_comm (m * up e) (down d) c ∙ ap (λ (z : ℕ). z * down d) v.1 ∙ mul_right_comm a (down e) (down d) ∙ ap (λ (z : ℕ). z * down e) (sym w.1) ∙ mul_right_comm (n * up d) c (down e)) in
    let q : m * up e * 2 ^ low f / down e ≡ n * up d * 2 ^ low f / down d = div_same (m * up e * 2 ^ low f) (down e) (n * up d * 2 ^ low f) (down d) (down_pos e) (down_pos d)
    (mul_right_comm (m * up e) (2 ^ low f) (down d) ∙ ap (λ (z : ℕ). z * 2 ^ low f) k ∙ mul_right_comm (n * up d) (down e) (2 ^ low f)) in
    ap (λ (b : Bool). to_bits f (fin b m e)) (v.0 ∙ sym w.0) ∙ to_bits_at f u m e (n * up d * 2 ^ low f / down d) q ∙ sym (to_bits_at f u n d (n * up d * 2 ^ low f / down d) refl)

pub same_value : (f : Format) (x y : Float) (s : Bool) (a c : ℕ) → 0 < c → T (fits f x) → T (fits f y) → HasValue x s a c → HasValue y s a c → x ≡ y
same_value f x y s a c C p q v w = sym (of_bits-to_bits f x p) ∙ ap (of_bits f) (same_bits f x y s a c C v w) ∙ of_bits-to_bits f y q

-- so a float on the grid is the one of its scaled number, but for minus zero
signs : (s : Bool) (a : ℕ) → (T s → 0 < a) → grid_float (signed s a) ≡ round binary32 s a 64
unfolding grid_float
signs false a h = refl
signs true zero h = absurd (none (h tt))
signs true (suc a) h = refl

-- the one float that is no gridFloat: minus zero
abbrev pub minus_zero : Float
minus_zero = fin true 0 (pos 0)

pub grid_unique : {x : Float} → OnGrid x → T (fits binary32 x) → (x ≡ minus_zero → ⊥) → grid_float (scaled x) ≡ x
grid_unique {x} g p n =
    ap grid_float (scaled_on g)
    ∙ signs g.sign g.number (some g.sign g.number g.value)
    ∙ same_value binary32 (round binary32 g.sign g.number 64) x g.sign g.number 64 (lit< tt) (round-fits binary32 g.sign g.number 64) p (grid_float_value g.sign g.number g.small) g.value
  where
    some : (s : Bool) (a : ℕ) → HasValue x s a 64 → T s → 0 < a
    some true zero v t = absurd (n (same_value binary32 x minus_zero true 0 64 (lit< tt) p (unfold fits in tt) v (refl, refl)))
    some true (suc a) v t = zero-lt-suc a
    some false a v t = absurd t
