-- The plain comparison of floats is the order of the real numbers, and of a float with z sixty-fourths too; it is transitive over all
-- floats, infinities and NaN included. Assumes nothing.
use mathlib.Core.Path.{◌≡◌, refl, sym, ap, ◌∙◌, subst}
use mathlib.Core.Logic.{◌⊎◌, inl, inr}
use Prim.Native.Nat.{ℕ, zero, suc, ◌+◌, ◌*◌, ◌≤◌, ◌<◌, zero-le}
use native.Mathlib.Nat.{le_refl, zero-lt-suc, mul-one, mul_comm, mul_right_comm, mul-mul-mul_comm, mul-pos, zero-mul, le_of_lt, le_of_eq, le_antisymm, lt_irrefl}
use native.Mathlib.Nat as N
use native.Mathlib.Omega.{arith}
use mathlib.Core.Bool.{Bool, true, false, ◌&&◌, ◌||◌}
use lib.IntN.{ℤ, pos, negsuc, nat_abs, ◌*ℤ◌}
use lib.Signed.{le_z}
use lib.Dec.{leb, ltb, eqb, lit<, leb-zero, leb-suc-zero, leb-suc-suc}
use lib.Ieee.{Float, nan, inf, fin, binary32, round, up, down, le, lt, eq, below, level}
use lib.Ieee.Fits.{down_pos}
use lib.Ieee.Exact.{HasValue}
use borrow.Author.Tests.{leb-true, eqb-true, lt-ltb, le-ltb, le-leb, lt-leb, eq-eqb, ne_eqb}
use Rattle.verdict.proofs.Bools.{clash, same_test, and_no}
use Rattle.grid.specs.Grid.{finite, signed, scaled, grid_float}
use Rattle.grid.specs.Plain.{OnGrid}
use Rattle.grid.proofs.Fractions.{lt_or_le, add_cross, ltb_cross, eqb_cross}
use Rattle.grid.proofs.Grid.{scaled_on, scaled_small, grid_float_value, grid_float_on, grid_float_scaled}

-- ±a ≤ ±b as `le` has it
abbrev le_s : Bool → ℕ → Bool → ℕ → Bool
le_s s a t b = below s a t b || level s a t b

-- of two fractions with one denominator it is the order of the numerators
le_s_cross : (s t : Bool) (C c A a B b : ℕ) → A * c ≡ a * C → B * c ≡ b * C → 0 < C → 0 < c → le_s s A t B ≡ le_s s a t b
le_s_cross s t C c A a B b p q P Q = go s t (eqb_cross C c A a B b p q P Q) (eqb_cross C c A a 0 0 p none P Q)
  where
    none : 0 * c ≡ 0 * C
    none = zero-mul c ∙ sym (zero-mul C)

    go : (s t : Bool) → eqb A B ≡ eqb a b → eqb A 0 ≡ eqb a 0 → le_s s A t B ≡ le_s s a t b
    go false false e n = simp (e, ltb_cross C c A a B b p q P Q)
    go false true e n = simp (e, n)
    go true false e n = simp (e, n, ltb_cross C c 0 0 (A + B) (a + b) none (add_cross C c A a B b p q) P Q)
    go true true e n = simp (e, ltb_cross C c B b A a q p P Q)

-- as an order of whole numbers
three : (a b : ℕ) → (a < b) ⊎ ((a ≡ b) ⊎ (b < a))
three a b = elim (lt_or_le a b) [
  | inl l ↦ inl l
  | inr l ↦ elim (lt_or_le b a) [ inl g ↦ inr (inr g) | inr g ↦ inr (inl (le_antisymm g l)) ]
]

le_both : (a b : ℕ) → (ltb a b || (eqb a b && true)) ≡ leb a b
le_both a b = go (three a b)
  where
    go : (a < b) ⊎ ((a ≡ b) ⊎ (b < a)) → (ltb a b || (eqb a b && true)) ≡ leb a b
    go (inl l) = simp (lt-ltb a b l, le-leb a b (le_of_lt l))
    go (inr (inl e)) = simp (le-ltb a b (le_of_eq (sym e)), eq-eqb a b e, le-leb a b (le_of_eq e))
    go (inr (inr g)) = simp (le-ltb a b (le_of_lt g), lt-leb a b g, ne_eqb a b (λ e. lt_irrefl a (subst (λ (x : ℕ). x < a) (sym e) g)))

le_flip : (a b : ℕ) → (ltb a b || (eqb b a && true)) ≡ leb a b
le_flip a b = ap (λ (t : Bool). ltb a b || (t && true)) (same_test (eqb b a) (eqb a b) (λ e. eq-eqb a b (sym (eqb-true b a e))) (λ e. eq-eqb b a (sym (eqb-true a b e)))) ∙ le_both a b

le_s_is : (s t : Bool) (a b : ℕ) → le_s s a t b ≡ le_z (signed s a) (signed t b)
le_s_is false false a b = le_both a b
le_s_is false true a zero = twice a
  where
    twice : (a : ℕ) → (eqb a 0 && eqb a 0) ≡ leb a 0
    twice zero = refl
    twice (suc a) = simp (leb-suc-zero a, ne_eqb (suc a) 0 (λ e. omega arith))
le_s_is false true a (suc b) = none a
  where
    none : (a : ℕ) → (eqb a (suc b) && eqb a 0) ≡ false
    none zero = simp (ne_eqb 0 (suc b) (λ e. omega arith))
    none (suc a) = simp (ne_eqb (suc a) 0 (λ e. omega arith)) (and_no (eqb (suc a) (suc b)))
le_s_is true false zero zero = refl
le_s_is true false zero (suc b) = simp (lt-ltb 0 (0 + suc b) (omega arith), leb-zero (suc b))
le_s_is true false (suc a) b = simp (lt-ltb 0 (suc a + b) (omega arith))
le_s_is true true zero zero = refl
le_s_is true true zero (suc b) = simp (le-ltb (suc b) 0 zero-le, ne_eqb 0 (suc b) (λ e. omega arith))
le_s_is true true (suc a) zero = simp (lt-ltb 0 (suc a) (zero-lt-suc a))
le_s_is true true (suc a) (suc b) = le_flip (suc b) (suc a) ∙ leb-suc-suc b a

-- ---- a comparison is one of the real numbers

-- two finite floats: ±m * 2 ^ e ≤ ±n * 2 ^ d, multiplied by both denominators
pub le_real : (s t : Bool) (m n : ℕ) (e d : ℤ) → le (fin s m e) (fin t n d) ≡ le_z (signed s (m * up e * down d)) (signed t (n * up d * down e))
unfolding le lt eq
le_real s t m n e d = le_s_is s t (m * up e * down d) (n * up d * down e)

-- any two that are ±a / c and ±b / d
across : (x e f a c d : ℕ) → x * c ≡ a * e → x * f * (c * d) ≡ a * d * (e * f)
across x e f a c d h = mul-mul-mul_comm x f c d ∙ ap (λ (y : ℕ). y * (f * d)) h ∙ ap (λ (y : ℕ). a * e * y) (mul_comm f d) ∙ mul-mul-mul_comm a e d f

pub le_values : (x y : Float) (s t : Bool) (a c b d : ℕ) → 0 < c → 0 < d → HasValue x s a c → HasValue y t b d → le x y ≡ le_z (signed s (a * d)) (signed t (b * c))
unfolding le lt eq
le_values nan y s t a c b d C D v w = elim v [ ]
le_values (inf _) y s t a c b d C D v w = elim v [ ]
le_values (fin s' m e) nan s t a c b d C D v w = elim w [ ]
le_values (fin s' m e) (inf _) s t a c b d C D v w = elim w [ ]
le_values (fin s' m e) (fin t' n f) s t a c b d C D v w =
    ap (λ (z : Bool). le_s z (m * up e * down f) t' (n * up f * down e)) v.0
    ∙ ap (λ (z : Bool). le_s s (m * up e * down f) z (n * up f * down e)) w.0
    ∙ le_s_cross s t (down e * down f) (c * d) (m * up e * down f) (a * d) (n * up f * down e) (b * c)
    (across (m * up e) (down e) (down f) a c d v.1)
    (ap (λ (y : ℕ). n * up f * down e * y) (mul_comm c d) ∙ across (n * up f) (down f) (down e) b d c w.1 ∙ ap (λ (y : ℕ). b * c * y) (mul_comm (down f) (down e)))
    (mul-pos (down_pos e) (down_pos f)) (mul-pos C D)
    ∙ le_s_is s t (a * d) (b * c)

-- a finite float and z sixty-fourths, either way round: 64 * m * 2 ^ e against z
le_at : (x : Float) (s t : Bool) (m n : ℕ) (e : ℤ) → HasValue x t n 64 → le (fin s m e) x ≡ le_z (signed s (m * up e * 64)) (signed t (n * down e))
le_at x s t m n e v = le_values (fin s m e) x s t (m * up e) (down e) n 64 (down_pos e) (lit< tt) (refl, refl) v

at_le : (x : Float) (s t : Bool) (m n : ℕ) (e : ℤ) → HasValue x t n 64 → le x (fin s m e) ≡ le_z (signed t (n * down e)) (signed s (m * up e * 64))
at_le x s t m n e v = le_values x (fin s m e) t s n 64 (m * up e) (down e) (lit< tt) (down_pos e) v (refl, refl)

pub le_grid : (s : Bool) (m : ℕ) (e z : ℤ) → nat_abs z ≤ 65536 → le (fin s m e) (grid_float z) ≡ le_z (signed s (m * up e * 64)) (z *ℤ pos (down e))
unfolding grid_float
le_grid s m e (pos n) h = le_at (round binary32 false n 64) s false m n e (grid_float_value false n h)
le_grid s m e (negsuc n) h = le_at (round binary32 true (suc n) 64) s true m (suc n) e (grid_float_value true (suc n) h)

pub grid_le : (s : Bool) (m : ℕ) (e z : ℤ) → nat_abs z ≤ 65536 → le (grid_float z) (fin s m e) ≡ le_z (z *ℤ pos (down e)) (signed s (m * up e * 64))
unfolding grid_float
grid_le s m e (pos n) h = at_le (round binary32 false n 64) s false m n e (grid_float_value false n h)
grid_le s m e (negsuc n) h = at_le (round binary32 true (suc n) 64) s true m (suc n) e (grid_float_value true (suc n) h)

-- both numerators multiplied by k
le_s_scale : (s t : Bool) (a b k : ℕ) → 0 < k → le_s s a t b ≡ le_z (signed s (a * k)) (signed t (b * k))
le_s_scale s t a b k p = sym (le_s_cross s t k 1 (a * k) a (b * k) b (mul-one (a * k)) (mul-one (b * k)) p (lit< tt)) ∙ le_s_is s t (a * k) (b * k)

-- two floats on the grid are in the order of their scaled numbers
pub scaled_order : {x y : Float} → OnGrid x → OnGrid y → le x y ≡ le_z (scaled x) (scaled y)
scaled_order {x} {y} g h =
    le_values x y g.sign h.sign g.number 64 h.number 64 (lit< tt) (lit< tt) g.value h.value
    ∙ sym (le_s_scale g.sign h.sign g.number h.number 64 (lit< tt))
    ∙ le_s_is g.sign h.sign g.number h.number
    ∙ rw (scaled_on g, scaled_on h)

-- so the floats of whole numbers of sixty-fourths are in the order of those numbers, both ways
pub grid_order : (y z : ℤ) → nat_abs y ≤ 65536 → nat_abs z ≤ 65536 → le (grid_float y) (grid_float z) ≡ le_z y z
grid_order y z h k = scaled_order (grid_float_on y h) (grid_float_on z k) ∙ rw (grid_float_scaled y h, grid_float_scaled z k)

pub grid_mono : (y z : ℤ) → nat_abs y ≤ 65536 → nat_abs z ≤ 65536 → le_z y z ≡ true → le (grid_float y) (grid_float z) ≡ true
grid_mono y z h k l = grid_order y z h k ∙ l

pub mono_grid : (y z : ℤ) → nat_abs y ≤ 65536 → nat_abs z ≤ 65536 → le (grid_float y) (grid_float z) ≡ true → le_z y z ≡ true
mono_grid y z h k l = sym (grid_order y z h k) ∙ l

-- ---- it is an order

le_z_refl : (z : ℤ) → le_z z z ≡ true
le_z_refl (pos a) = le-leb a a (le_refl a)
le_z_refl (negsuc a) = le-leb a a (le_refl a)

le_z_trans : (x y z : ℤ) → le_z x y ≡ true → le_z y z ≡ true → le_z x z ≡ true
le_z_trans (pos a) (pos b) (pos c) h k = le-leb a c (N.le_trans (leb-true a b h) (leb-true b c k))
le_z_trans (pos a) (pos b) (negsuc c) h k = k
le_z_trans (pos a) (negsuc b) z h k = clash h refl
le_z_trans (negsuc a) y (pos c) h k = refl
le_z_trans (negsuc a) (pos b) (negsuc c) h k = clash k refl
le_z_trans (negsuc a) (negsuc b) (negsuc c) h k = le-leb c a (N.le_trans (leb-true c b k) (leb-true b a h))

-- three finite floats: on the common denominator of the three
le_trans_fin : (s t u : Bool) (m n k : ℕ) (e d f : ℤ) → le (fin s m e) (fin t n d) ≡ true → le (fin t n d) (fin u k f) ≡ true → le (fin s m e) (fin u k f) ≡ true
unfolding le lt eq
le_trans_fin s t u m n k e d f h g =
    let X = m * up e in
    let Y = n * up d in
    let Z = k * up f in
    let a : le_z (signed s (X * down d * down f)) (signed t (Y * down e * down f)) ≡ true = sym (le_s_scale s t (X * down d) (Y * down e) (down f) (down_pos f)) ∙ h in
    let b : le_z (signed t (Y * down f * down e)) (signed u (Z * down d * down e)) ≡ true = sym (le_s_scale t u (Y * down f) (Z * down d) (down e) (down_pos e)) ∙ g in
    le_s_scale s u (X * down f) (Z * down e) (down d) (down_pos d)
    ∙ le_z_trans (signed s (X * down f * down d)) (signed t (Y * down e * down f)) (signed u (Z * down e * down d))
    (rw (mul_right_comm X (down f) (down d)) a)
    (rw (mul_right_comm Y (down e) (down f), mul_right_comm Z (down e) (down d)) b)

-- nothing is over a NaN or under one
le_nan : (x : Float) → le x nan ≡ false
unfolding le lt eq
le_nan nan = refl
le_nan (inf s) = refl
le_nan (fin s m e) = refl

-- minus infinity is under every number; only infinity is over infinity
under_all : (y z : Float) → le y z ≡ true → le (inf true) z ≡ true
unfolding le lt eq
under_all y nan k = clash k (le_nan y)
under_all y (inf true) k = refl
under_all y (inf false) k = refl
under_all y (fin u n d) k = refl

over_all : (y z : Float) → le (inf false) y ≡ true → le y z ≡ true → le (inf false) z ≡ true
unfolding le lt eq
over_all nan z h k = clash h refl
over_all (inf true) z h k = clash h refl
over_all (inf false) z h k = k
over_all (fin t n d) z h k = clash h refl

pub le_trans : (x y z : Float) → le x y ≡ true → le y z ≡ true → le x z ≡ true
unfolding le lt eq
le_trans nan y z h k = clash h refl
le_trans (inf true) y z h k = under_all y z k
le_trans (inf false) y z h k = over_all y z h k
le_trans (fin s m e) nan z h k = clash h refl
le_trans (fin s m e) (inf true) z h k = clash h refl
le_trans (fin s m e) (inf false) nan h k = clash k refl
le_trans (fin s m e) (inf false) (inf true) h k = clash k refl
le_trans (fin s m e) (inf false) (inf false) h k = refl
le_trans (fin s m e) (inf false) (fin u n d) h k = clash k refl
le_trans (fin s m e) (fin t n d) nan h k = clash k refl
le_trans (fin s m e) (fin t n d) (inf u) h k = k
le_trans (fin s m e) (fin t n d) (fin u k f) h g = le_trans_fin s t u m n k e d f h g

-- every finite float is at most itself
pub le_finite : (x : Float) → finite x ≡ true → le x x ≡ true
unfolding finite
le_finite nan h = clash h refl
le_finite (inf s) h = clash h refl
le_finite (fin s m e) h = le_real s s m m e e ∙ le_z_refl (signed s (m * up e * down e))

-- ---- floats with one scaled number compare alike, minus zero included

signed_times : (s : Bool) (n k : ℕ) → signed s (n * k) ≡ signed s n *ℤ pos k
signed_times false n k = refl
signed_times true zero k = simp (zero-mul k)
signed_times true (suc n) k = refl

module _ (x y : Float) (s t : Bool) (a b : ℕ) (v : HasValue x s a 64) (w : HasValue y t b 64) (q : signed s a ≡ signed t b) where
  times_same : (k : ℕ) → signed s (a * k) ≡ signed t (b * k)
  times_same k = signed_times s a k ∙ ap (λ (z : ℤ). z *ℤ pos k) q ∙ sym (signed_times t b k)

  above : (lo : Float) → le lo x ≡ le lo y
  above nan = unfold le lt eq in refl
  above (inf u) = two x y v w
    where
      two : (x y : Float) → HasValue x s a 64 → HasValue y t b 64 → le (inf u) x ≡ le (inf u) y
      two nan _ v w = elim v [ ]
      two (inf _) _ v w = elim v [ ]
      two (fin s' m e) nan v w = elim w [ ]
      two (fin s' m e) (inf _) v w = elim w [ ]
      two (fin s' m e) (fin t' n d) v w = unfold le lt eq in refl
  above (fin u m e) =
      le_at x u s m a e v
      ∙ ap (le_z (signed u (m * up e * 64))) (times_same (down e))
      ∙ sym (le_at y u t m b e w)

  under : (hi : Float) → le x hi ≡ le y hi
  under nan = le_nan x ∙ sym (le_nan y)
  under (inf u) = two x y v w
    where
      two : (x y : Float) → HasValue x s a 64 → HasValue y t b 64 → le x (inf u) ≡ le y (inf u)
      two nan _ v w = elim v [ ]
      two (inf _) _ v w = elim v [ ]
      two (fin s' m e) nan v w = elim w [ ]
      two (fin s' m e) (inf _) v w = elim w [ ]
      two (fin s' m e) (fin t' n d) v w = unfold le lt eq in refl
  under (fin u m e) =
      at_le x u s m a e v
      ∙ ap (λ (z : ℤ). le_z z (signed u (m * up e * 64))) (times_same (down e))
      ∙ sym (at_le y u t m b e w)

-- so a float on the grid compares as the float of its scaled number does
module _ {x : Float} (g : OnGrid x) where
  other : OnGrid (grid_float (scaled x))
  other = grid_float_on (scaled x) (scaled_small g)

  same : signed g.sign g.number ≡ signed other.sign other.number
  same = sym (scaled_on g) ∙ sym (grid_float_scaled (scaled x) (scaled_small g)) ∙ scaled_on other

  pub le_scaled : (lo : Float) → le lo x ≡ le lo (grid_float (scaled x))
  le_scaled = above x (grid_float (scaled x)) g.sign other.sign g.number other.number g.value other.value same

  pub scaled_le : (hi : Float) → le x hi ≡ le (grid_float (scaled x)) hi
  scaled_le = under x (grid_float (scaled x)) g.sign other.sign g.number other.number g.value other.value same
