-- Two finite floats are equal by comparison exactly where their words are, minus zero's taken for zero's. Assumes nothing.
use mathlib.Core.Path.{◌≡◌, refl, sym, ap, ◌∙◌}
use mathlib.Core.Logic.{◌⊎◌, inl, inr}
use mathlib.Core.Bool.{Bool, true, false, ◌||◌, beq}
use Prim.Native.Nat.{ℕ, ◌*◌, ◌<◌}
use native.Mathlib.Nat.{mul_assoc, mul_comm, mul-pos, zero-mul, eq_of_mul-eq-mul_right}
use native.Mathlib.Decide.{ℕ_discrete}
use lib.IntN.{ℤ, pos}
use lib.Dec.{T, eqb, lit<}
use lib.Ieee.{Float, nan, inf, fin, binary32, up, down, lt, eq, le, fits, of_bits, to_bits}
use lib.Ieee.Bits.{of_bits-fits, to_bits-of_bits}
use lib.Ieee.Fits.{down_pos}
use borrow.Author.Tests.{eqb-true, eq-eqb, ne_eqb}
use Rattle.verdict.proofs.Bools.{clash, decided, same_test, and_true}
use Rattle.grid.specs.Grid.{finite, plain}
use Rattle.grid.proofs.Grid.{finite_number, same_value}

-- zero with a sign
abbrev zero_of : Bool → Float
zero_of s = fin s 0 (pos 0)

-- two floats are one, or both are zero
abbrev OneOrZeros : Float → Float → Type 0
OneOrZeros x y = (x ≡ y) ⊎ (((x ≡ zero_of true) ⊎ (x ≡ zero_of false)) × ((y ≡ zero_of true) ⊎ (y ≡ zero_of false)))

beq_same : (s t : Bool) → beq s t ≡ true → s ≡ t
beq_same true true e = refl
beq_same true false e = clash e refl
beq_same false true e = clash e refl
beq_same false false e = refl

same_beq : (s : Bool) → beq s s ≡ true
same_beq true = refl
same_beq false = refl

or_true : {C : Type 0} (a b : Bool) → (a || b) ≡ true → (a ≡ true → C) → (b ≡ true → C) → C
or_true true b e f g = f refl
or_true false b e f g = g e

zero_fits : (s : Bool) → T (fits binary32 (zero_of s))
unfolding fits
zero_fits s = tt

-- a size that is nothing, by any denominator, is zero
zero_size : (s : Bool) (m : ℕ) (e d : ℤ) → T (fits binary32 (fin s m e)) → m * up e * down d ≡ 0 → fin s m e ≡ zero_of s
zero_size s m e d f z =
    let n : m * up e ≡ 0 = eq_of_mul-eq-mul_right (down d) (down_pos d) (m * up e) 0 (z ∙ sym (zero-mul (down d))) in
    same_value binary32 (fin s m e) (zero_of s) s 0 1 (lit< tt) f (zero_fits s) (refl, ap (λ (k : ℕ). k * 1) n ∙ sym (zero-mul (down e))) (refl, refl)

either_zero : (x : Float) (s : Bool) → x ≡ zero_of s → (x ≡ zero_of true) ⊎ (x ≡ zero_of false)
either_zero x true e = inl e
either_zero x false e = inr e

eq_one : (x y : Float) → T (fits binary32 x) → T (fits binary32 y) → finite x ≡ true → finite y ≡ true → eq x y ≡ true → OneOrZeros x y
unfolding finite eq
eq_one (fin s m e) (fin t n d) f g i j q =
    let both = and_true (eqb (m * up e * down d) (n * up d * down e)) (beq s t || eqb (m * up e * down d) 0) q in
    let level : m * up e * down d ≡ n * up d * down e = eqb-true _ _ both.0 in
    or_true (beq s t) (eqb (m * up e * down d) 0) both.1
    (λ b. inl (same_value binary32 (fin s m e) (fin t n d) s (m * up e * down d) (down d * down e) (mul-pos (down_pos d) (down_pos e)) f g
    (refl, sym (mul_assoc (m * up e) (down d) (down e)))
    (sym (beq_same s t b), (ap (λ (k : ℕ). n * up d * k) (mul_comm (down d) (down e)) ∙ sym (mul_assoc (n * up d) (down e) (down d)) ∙ ap (λ (k : ℕ). k * down d) (sym level)))))
    (λ z. inr (
      either_zero (fin s m e) s (zero_size s m e d f (eqb-true _ _ z)),
      either_zero (fin t n d) t (zero_size t n d e g (sym level ∙ eqb-true _ _ z)),
    ))
eq_one nan y f g i j q = clash q refl
eq_one (inf s) y f g i j q = clash i refl
eq_one (fin s m e) nan f g i j q = clash q refl
eq_one (fin s m e) (inf t) f g i j q = clash q refl

pub eq_self : (x : Float) → finite x ≡ true → eq x x ≡ true
unfolding finite eq
eq_self (fin s m e) i = rw (eq-eqb (m * up e * down e) (m * up e * down e) refl, same_beq s)
eq_self nan i = i
eq_self (inf s) i = clash i refl

module _ (a b : ℕ) (under-a : a < 4294967296) (under-b : b < 4294967296) (fin-a : finite (of_bits binary32 a) ≡ true) (fin-b : finite (of_bits binary32 b) ≡ true) where
  -- a word is that of its float
  back : (w : ℕ) → w < 4294967296 → finite (of_bits binary32 w) ≡ true → to_bits binary32 (of_bits binary32 w) ≡ w
  back w l f = to_bits-of_bits binary32 w l (finite_number (of_bits binary32 w) f)

  zero_word : (w : ℕ) → w < 4294967296 → finite (of_bits binary32 w) ≡ true → (of_bits binary32 w ≡ zero_of true) ⊎ (of_bits binary32 w ≡ zero_of false) → plain w ≡ 0
  unfolding plain
  zero_word w l f (inl e) = let q : w ≡ 2147483648 = sym (back w l f) ∙ ap (to_bits binary32) e ∙ (unfold to_bits in refl) in rw q
  zero_word w l f (inr e) = let q : w ≡ 0 = sym (back w l f) ∙ ap (to_bits binary32) e ∙ (unfold to_bits in refl) in rw q

  eq_words : eq (of_bits binary32 a) (of_bits binary32 b) ≡ true → plain a ≡ plain b
  eq_words q = by (eq_one (of_bits binary32 a) (of_bits binary32 b) (of_bits-fits binary32 a) (of_bits-fits binary32 b) fin-a fin-b q)
    where
      by : OneOrZeros (of_bits binary32 a) (of_bits binary32 b) → plain a ≡ plain b
      by (inl e) = ap plain (sym (back a under-a fin-a) ∙ ap (to_bits binary32) e ∙ back b under-b fin-b)
      by (inr z) = zero_word a under-a fin-a z.0 ∙ sym (zero_word b under-b fin-b z.1)

  -- a word that plain leaves, and the one that it changes
  plain_is : (w : ℕ) → (w ≡ 2147483648) ⊎ (plain w ≡ w)
  unfolding plain
  plain_is w = decided (ℕ_discrete w 2147483648) (λ e. inl e) (λ ne. inr (rw (ne_eqb w 2147483648 ne)))

  minus_plain : plain 2147483648 ≡ 0
  unfolding plain
  minus_plain = refl

  words_eq : plain a ≡ plain b → eq (of_bits binary32 a) (of_bits binary32 b) ≡ true
  words_eq q = by (plain_is a) (plain_is b)
    where
      one : a ≡ b → eq (of_bits binary32 a) (of_bits binary32 b) ≡ true
      one e = ap (λ (w : ℕ). eq (of_bits binary32 a) (of_bits binary32 w)) (sym e) ∙ eq_self (of_bits binary32 a) fin-a

      by : (a ≡ 2147483648) ⊎ (plain a ≡ a) → (b ≡ 2147483648) ⊎ (plain b ≡ b) → eq (of_bits binary32 a) (of_bits binary32 b) ≡ true
      by (inl e) (inl f) = one (e ∙ sym f)
      by (inr e) (inr f) = one (sym e ∙ q ∙ f)
      by (inl e) (inr f) = let z : b ≡ 0 = sym f ∙ sym q ∙ ap plain e ∙ minus_plain in rw (e, z) (unfold of_bits eq in refl)
      by (inr e) (inl f) = let z : a ≡ 0 = sym e ∙ q ∙ ap plain f ∙ minus_plain in rw (f, z) (unfold of_bits eq in refl)

  pub eq_plain : eq (of_bits binary32 a) (of_bits binary32 b) ≡ eqb (plain a) (plain b)
  eq_plain = same_test _ _ (λ y. eq-eqb _ _ (eq_words y)) (λ y. words_eq (eqb-true _ _ y))

-- ---- equal by comparison is an equivalence of finite floats

zeros_eq : (x y : Float) → (x ≡ zero_of true) ⊎ (x ≡ zero_of false) → (y ≡ zero_of true) ⊎ (y ≡ zero_of false) → eq x y ≡ true
unfolding eq
zeros_eq x y (inl e) (inl f) = rw (e, f)
zeros_eq x y (inl e) (inr f) = rw (e, f)
zeros_eq x y (inr e) (inl f) = rw (e, f)
zeros_eq x y (inr e) (inr f) = rw (e, f)

module _ (a b : ℕ) (fin-a : finite (of_bits binary32 a) ≡ true) (fin-b : finite (of_bits binary32 b) ≡ true) (q : eq (of_bits binary32 a) (of_bits binary32 b) ≡ true) where
  one_or : OneOrZeros (of_bits binary32 a) (of_bits binary32 b)
  one_or = eq_one (of_bits binary32 a) (of_bits binary32 b) (of_bits-fits binary32 a) (of_bits-fits binary32 b) fin-a fin-b q

  pub eq_sym : eq (of_bits binary32 b) (of_bits binary32 a) ≡ true
  eq_sym = by one_or
    where
      by : OneOrZeros (of_bits binary32 a) (of_bits binary32 b) → eq (of_bits binary32 b) (of_bits binary32 a) ≡ true
      by (inl e) = ap (λ (x : Float). eq (of_bits binary32 b) x) e ∙ eq_self (of_bits binary32 b) fin-b
      by (inr z) = zeros_eq _ _ z.1 z.0

  pub eq_trans : (x : Float) → eq (of_bits binary32 b) x ≡ true → T (fits binary32 x) → finite x ≡ true → eq (of_bits binary32 a) x ≡ true
  eq_trans x r fit-x fin-x = by one_or (eq_one (of_bits binary32 b) x (of_bits-fits binary32 b) fit-x fin-b fin-x r)
    where
      by : OneOrZeros (of_bits binary32 a) (of_bits binary32 b) → OneOrZeros (of_bits binary32 b) x → eq (of_bits binary32 a) x ≡ true
      by (inl e) o = ap (λ (y : Float). eq y x) e ∙ r
      by (inr z) (inl f) = ap (λ (y : Float). eq (of_bits binary32 a) y) (sym f) ∙ q
      by (inr z) (inr y) = zeros_eq _ _ z.0 y.1

-- equal floats are not over each other
pub eq_le : (x y : Float) → eq x y ≡ true → le x y ≡ true
unfolding le
eq_le x y e = rw e (or_yes (lt x y))
  where
    or_yes : (t : Bool) → (t || true) ≡ true
    or_yes true = refl
    or_yes false = refl
