-- Fractions: what is so of a / c is so of every equal fraction A / C. So the f32 sum may be worked out on any common denominator.
-- Assumes nothing.
use mathlib.Core.Path.{◌≡◌, sym, ap, ◌∙◌}
use mathlib.Core.Logic.{◌⊎◌, inl, inr}
use Prim.Native.Nat.{ℕ, ◌+◌, ◌-◌, ◌*◌, ◌≤◌, ◌<◌}
use native.Mathlib.Nat.{le_antisymm, eq_of_mul-eq-mul_right, mul_comm, mul_assoc, mul_right_comm, mul-pos, mul-sub, add-mul, mul-lt-mul_of_pos_right, mul-le-mul_right, lt_of_mul-lt-mul_right, le_of_mul-le-mul_right}
use native.Mathlib.Omega.{arith}
use mathlib.Core.Bool.{Bool, true, false, not, ◌&&◌}
use lib.Dec.{T, ltb, eqb, ltb→lt, nltb→le}
use lib.Ieee.{Float, fin, Format, up, down, round, sum, add}
use lib.Ieee.Fits.{down_pos}
use lib.Ieee.Exact.{HasValue}
use lib.Ieee.Scale.{round_same}
use borrow.Author.Tests.{lt-ltb, le-ltb, eq-eqb, ne_eqb}

-- ---- a test on numbers, by cases with what it says
pub lt_or_le : (a b : ℕ) → (a < b) ⊎ (b ≤ a)
lt_or_le a b = go (ltb a b) (ltb→lt a b) (nltb→le a b)
  where
    go : (t : Bool) → (T t → a < b) → (T (not t) → b ≤ a) → (a < b) ⊎ (b ≤ a)
    go true f g = inl (f tt)
    go false f g = inr (g tt)

-- ---- A / C is a / c, and B / C is b / c: then so are sums, differences and orders
sub_mul : (m n k : ℕ) → (m - n) * k ≡ m * k - n * k
sub_mul m n k = mul_comm (m - n) k ∙ mul-sub k m n ∙ ap (λ (x : ℕ). x - k * n) (mul_comm k m) ∙ ap (λ (x : ℕ). m * k - x) (mul_comm k n)

module _ (C c A a B b : ℕ) (p : A * c ≡ a * C) (q : B * c ≡ b * C) where
  pub add_cross : (A + B) * c ≡ (a + b) * C
  add_cross = add-mul A B c ∙ ap (λ (x : ℕ). x + B * c) p ∙ ap (λ (x : ℕ). a * C + x) q ∙ sym (add-mul a b C)

  sub_cross : (A - B) * c ≡ (a - b) * C
  sub_cross = sub_mul A B c ∙ ap (λ (x : ℕ). x - B * c) p ∙ ap (λ (x : ℕ). a * C - x) q ∙ sym (sub_mul a b C)

  pub ltb_cross : 0 < C → 0 < c → ltb A B ≡ ltb a b
  ltb_cross P Q = go (lt_or_le a b)
    where
      go : (a < b) ⊎ (b ≤ a) → ltb A B ≡ ltb a b
      go (inl l) = lt-ltb A B (lt_of_mul-lt-mul_right c (rw (p, q) (mul-lt-mul_of_pos_right l P))) ∙ sym (lt-ltb a b l)
      go (inr l) = le-ltb A B (le_of_mul-le-mul_right (rw (p, q) (mul-le-mul_right C l)) Q) ∙ sym (le-ltb a b l)

module _ (C c A a B b : ℕ) (p : A * c ≡ a * C) (q : B * c ≡ b * C) (P : 0 < C) (Q : 0 < c) where
  pub eqb_cross : eqb A B ≡ eqb a b
  eqb_cross = go (lt_or_eq a b)
    where
      lt_or_eq : (a b : ℕ) → (a ≡ b) ⊎ (a ≡ b → ⊥)
      lt_or_eq a b = elim (lt_or_le a b) [
        | inl l ↦ inr (λ e. omega arith)
        | inr l ↦ elim (lt_or_le b a) [
          | inl g ↦ inr (λ e. omega arith)
          | inr g ↦ inl (le_antisymm g l)
        ]
      ]

      go : (a ≡ b) ⊎ (a ≡ b → ⊥) → eqb A B ≡ eqb a b
      go (inl e) = eq-eqb A B (eq_of_mul-eq-mul_right c Q A B (p ∙ ap (λ (x : ℕ). x * C) e ∙ sym q)) ∙ sym (eq-eqb a b e)
      go (inr n) = ne_eqb A B (λ e. n (eq_of_mul-eq-mul_right C P a b (sym p ∙ ap (λ (x : ℕ). x * c) e ∙ q))) ∙ sym (ne_eqb a b n)

sum_same : (f : Format) (s t : Bool) (A B C a b c : ℕ) → 0 < C → 0 < c → A * c ≡ a * C → B * c ≡ b * C → sum f s A t B C ≡ sum f s a t b c
unfolding sum
sum_same f s t A B C a b c P Q p q =
    let r1 : round f s (A + B) C ≡ round f s (a + b) c = round_same f s (A + B) C (a + b) c P Q (add_cross C c A a B b p q) in
    let r2 : round f t (B - A) C ≡ round f t (b - a) c = round_same f t (B - A) C (b - a) c P Q (sub_cross C c B b A a q p) in
    let r3 : round f (s && ltb b a) (A - B) C ≡ round f (s && ltb b a) (a - b) c = round_same f (s && ltb b a) (A - B) C (a - b) c P Q (sub_cross C c A a B b p q) in
    simp (ltb_cross C c A a B b p q P Q, ltb_cross C c B b A a q p P Q, r1, r2, r3)

-- the sum of two finite floats is worked out on any fractions of one denominator that they equal
pub add_at : (f : Format) (x y : Float) (s t : Bool) (a b c : ℕ) → 0 < c → HasValue x s a c → HasValue y t b c → add f x y ≡ sum f s a t b c
unfolding add
add_at f lib.Ieee.nan y s t a b c Q v w = elim v [ ]
add_at f (lib.Ieee.inf _) y s t a b c Q v w = elim v [ ]
add_at f (fin s' m e) lib.Ieee.nan s t a b c Q v w = elim w [ ]
add_at f (fin s' m e) (lib.Ieee.inf _) s t a b c Q v w = elim w [ ]
add_at f (fin s' m e) (fin t' n d) s t a b c Q v w =
    ap (λ (z : Bool). sum f z (m * up e * down d) t' (n * up d * down e) (down e * down d)) v.0
    ∙ ap (λ (z : Bool). sum f s (m * up e * down d) z (n * up d * down e) (down e * down d)) w.0
    ∙ sum_same f s t (m * up e * down d) (n * up d * down e) (down e * down d) a b c (mul-pos (down_pos e) (down_pos d)) Q
    (mul_right_comm (m * up e) (down d) c ∙ ap (λ (z : ℕ). z * down d) v.1 ∙ mul_assoc a (down e) (down d))
    (mul_right_comm (n * up d) (down e) c ∙ ap (λ (z : ℕ). z * down e) w.1 ∙ mul_assoc b (down d) (down e) ∙ ap (λ (z : ℕ). b * z) (mul_comm (down d) (down e)))
