-- A calculus for signed code: small signed numbers go through the machine's bits unchanged. Assumes nothing.
use mathlib.Core.Path.{◌≡◌, refl, sym, ap, subst, ◌∙◌}
use Prim.Native.Nat.{ℕ, zero, suc, ◌+◌, ◌-◌, ◌*◌, ◌/◌, ◌^◌, ◌≤◌, ◌<◌}
use native.Mathlib.Nat.{lt_trans, lt_of_le_of_lt, le_trans, le_refl, le_of_eq, add_comm, add-le-add, mul-le-mul, div-le_self}
use native.Mathlib.Omega.{arith}
use lib.IntN.{ℤ, pos, negsuc, neg_ℤ, nat_abs, ◌+ℤ◌, ◌-ℤ◌, ◌*ℤ◌, sub_ℕ, +ℤ_idl}
use lib.Signed.{le_z, lt_z, quot_z}
use mathlib.Core.Bool.{Bool, true, false, cond, ◌&&◌}
use lib.Dec.{T, lit<, leb, ltb, leb→le, ltb→lt, leb-zero, leb-suc-zero, leb-suc-suc}
use mir.Syntax.{Width, w32, w64}
use mir.Val.{SFits, hbits, to_z, of_z}
use mir.ValLaws.{to_z_pos, to_z-of_z}
use Rattle.wire.specs.Signed.{Within}

-- a natural number's bits read as signed
pub nat_is : (n : ℕ) → n < 2 ^ 63 → to_z w64 n ≡ pos n
nat_is n h = to_z_pos w64 n h

-- z fits where its size is below half of what the width holds
pub fits_at : (w : Width) (z : ℤ) → nat_abs z < 2 ^ hbits w → SFits w z
fits_at w (pos n) h = record { sfits = h }
fits_at w (negsuc n) h = record { sfits = pred_lt n (2 ^ hbits w) h }
  where
    pred_lt : (n m : ℕ) → suc n < m → n < m
    pred_lt n m h = omega arith

-- z fits where its size is below 2 ^ 63
pub fits_of : (z : ℤ) → nat_abs z < 2 ^ 63 → SFits w64 z
fits_of z h = fits_at w64 z h

-- what fits in 32 bits fits in 64
pub wider : (z : ℤ) → SFits w32 z → SFits w64 z
wider z h = record { sfits = lt_trans h.sfits (lit< tt) }

pub back : (z : ℤ) → nat_abs z < 2 ^ 63 → to_z w64 (of_z w64 z) ≡ z
back z h = to_z-of_z w64 z (fits_at w64 z h)

-- ---- sizes
pub abs_neg : (z : ℤ) → nat_abs (neg_ℤ z) ≡ nat_abs z
abs_neg (pos zero) = refl
abs_neg (pos (suc n)) = refl
abs_neg (negsuc n) = refl

abs_subℕ : (a b : ℕ) → nat_abs (sub_ℕ a b) ≤ a + b
abs_subℕ a b = go (ltb a b) (ltb→lt a b)
  where
    go : (t : Bool) → (T t → a < b) → nat_abs (cond t (negsuc (b - suc a)) (pos (a - b))) ≤ a + b
    go true h = less a b (h tt)
      where
        less : (a b : ℕ) → a < b → suc (b - suc a) ≤ a + b
        less a b h = omega arith
    go false h = more a b
      where
        more : (a b : ℕ) → a - b ≤ a + b
        more a b = omega arith

pub abs_add : (a b : ℤ) → nat_abs (a +ℤ b) ≤ nat_abs a + nat_abs b
abs_add (pos a) (pos b) = le_refl (a + b)
abs_add (pos a) (negsuc b) = abs_subℕ a (suc b)
abs_add (negsuc a) (pos b) = le_trans (abs_subℕ b (suc a)) (le_of_eq (add_comm b (suc a)))
abs_add (negsuc a) (negsuc b) = two a b
  where
    two : (a b : ℕ) → suc (suc (a + b)) ≤ suc a + suc b
    two a b = omega arith

pub abs_sub : (a b : ℤ) → nat_abs (a -ℤ b) ≤ nat_abs a + nat_abs b
abs_sub a b = subst (λ (n : ℕ). nat_abs (a -ℤ b) ≤ nat_abs a + n) (abs_neg b) (abs_add a (neg_ℤ b))

pub abs_mul : (a b : ℤ) → nat_abs (a *ℤ b) ≡ nat_abs a * nat_abs b
abs_mul (pos a) (pos b) = refl
abs_mul (pos a) (negsuc b) = abs_neg (pos (a * suc b))
abs_mul (negsuc a) (pos b) = abs_neg (pos (suc a * b))
abs_mul (negsuc a) (negsuc b) = refl

-- the machine's quotient is no larger than what is divided
abs_quot : (a b : ℤ) → nat_abs (quot_z a b) ≤ nat_abs a
abs_quot (pos a) (pos b) = div-le_self a b
abs_quot (pos a) (negsuc b) = le_trans (le_of_eq (abs_neg (pos (a / suc b)))) (div-le_self a (suc b))
abs_quot (negsuc a) (pos b) = le_trans (le_of_eq (abs_neg (pos (suc a / b)))) (div-le_self (suc a) b)
abs_quot (negsuc a) (negsuc b) = div-le_self (suc a) (suc b)

pub add_within : {a b : ℤ} {m n : ℕ} → Within m a → Within n b → Within (m + n) (a +ℤ b)
add_within {a} {b} h k = record { le = le_trans (abs_add a b) (add-le-add h.le k.le) }

pub sub_within : {a b : ℤ} {m n : ℕ} → Within m a → Within n b → Within (m + n) (a -ℤ b)
sub_within {a} {b} h k = record { le = le_trans (abs_sub a b) (add-le-add h.le k.le) }

pub mul_within : {a b : ℤ} {m n : ℕ} → Within m a → Within n b → Within (m * n) (a *ℤ b)
mul_within {a} {b} h k = record { le = le_trans (le_of_eq (abs_mul a b)) (mul-le-mul h.le k.le) }

pub within_more : {k m : ℕ} {z : ℤ} → Within k z → T (leb k m) → Within m z
within_more {k} {m} h t = record { le = le_trans h.le (leb→le k m t) }

pub within_fits : {k : ℕ} {z : ℤ} → Within k z → T (ltb k (2 ^ 63)) → SFits w64 z
within_fits {k} {z} h t = fits_at w64 z (lt_of_le_of_lt h.le (ltb→lt k (2 ^ 63) t))

pub within_32 : {k : ℕ} {z : ℤ} → Within k z → T (ltb k (2 ^ 31)) → SFits w32 z
within_32 {k} {z} h t = fits_at w32 z (lt_of_le_of_lt h.le (ltb→lt k (2 ^ 31) t))

pub within_back : {k : ℕ} {z : ℤ} → Within k z → T (ltb k (2 ^ 63)) → to_z w64 (of_z w64 z) ≡ z
within_back {k} {z} h t = to_z-of_z w64 z (within_fits h t)

-- minus a natural number, by way of the bits
pub neg_nat : (n : ℕ) → n < 2 ^ 63 → pos 0 -ℤ to_z w64 n ≡ neg_ℤ (pos n)
neg_nat n h = ap (λ (z : ℤ). pos 0 -ℤ z) (nat_is n h) ∙ +ℤ_idl (neg_ℤ (pos n))

pub neg_fits : (n : ℕ) → n < 2 ^ 63 → SFits w64 (pos 0 -ℤ to_z w64 n)
neg_fits n h = subst (SFits w64) (sym (neg_nat n h)) (fits_at w64 (neg_ℤ (pos n)) (subst (λ (k : ℕ). k < 2 ^ 63) (sym (abs_neg (pos n))) h))

pub neg_back : (n : ℕ) → n < 2 ^ 63 → to_z w64 (of_z w64 (pos 0 -ℤ to_z w64 n)) ≡ neg_ℤ (pos n)
neg_back n h = to_z-of_z w64 (pos 0 -ℤ to_z w64 n) (neg_fits n h) ∙ neg_nat n h

-- ---- the two tests that say that z is at most k either way
pub within_test : (k : ℕ) (z : ℤ) → (le_z (neg_ℤ (pos k)) z && le_z z (pos k)) ≡ leb (nat_abs z) k
within_test zero (pos n) = ap (λ (b : Bool). b && leb n 0) (leb-zero n)
within_test (suc k) (pos n) = refl
within_test zero (negsuc n) = sym (leb-suc-zero n)
within_test (suc k) (negsuc n) = and_true (leb n k) ∙ sym (leb-suc-suc n k)
  where
    and_true : (b : Bool) → (b && true) ≡ b
    and_true true = refl
    and_true false = refl

module _ (k : ℕ) (z y lo hi : ℤ) (a : lo ≡ neg_ℤ (pos k)) (b : y ≡ z) (d : hi ≡ pos k) where
  pub within_second : le_z lo y ≡ true → le_z y hi ≡ leb (nat_abs z) k
  within_second t = rw (b, d) (ap (λ (x : Bool). x && le_z z (pos k)) (sym (rw (a, b) at t)) ∙ within_test k z)

  pub within_first : le_z lo y ≡ false → le_z lo y ≡ leb (nat_abs z) k
  within_first t = t ∙ ap (λ (x : Bool). x && le_z z (pos k)) (sym (rw (a, b) at t)) ∙ within_test k z

-- ---- a calculus for signed code: y is what the machine reads, z what the definition has, k a bound on its size
pub record Reads (k : ℕ) (y z : ℤ) : Type 0 where
  pub same : y ≡ z
  pub bound : nat_abs z ≤ k

-- a number; an operation on two; what was stored in a local and is read again; that the operation fits
pub num : {k : ℕ} {z : ℤ} → Within k z → Reads k z z
num h = record { same = refl; bound = h.le }

pub lit : (k : ℕ) → Reads k (pos k) (pos k)
lit k = record { same = refl; bound = le_refl k }

pub plus : {m n : ℕ} {a a' b b' : ℤ} → Reads m a' a → Reads n b' b → Reads (m + n) (a' +ℤ b') (a +ℤ b)
plus {a = a} {b = b} h k = record { same = rw (h.same, k.same); bound = le_trans (abs_add a b) (add-le-add h.bound k.bound) }

pub less : {m n : ℕ} {a a' b b' : ℤ} → Reads m a' a → Reads n b' b → Reads (m + n) (a' -ℤ b') (a -ℤ b)
less {a = a} {b = b} h k = record { same = rw (h.same, k.same); bound = le_trans (abs_sub a b) (add-le-add h.bound k.bound) }

pub times : {m n : ℕ} {a a' b b' : ℤ} → Reads m a' a → Reads n b' b → Reads (m * n) (a' *ℤ b') (a *ℤ b)
times {a = a} {b = b} h k = record { same = rw (h.same, k.same); bound = le_trans (le_of_eq (abs_mul a b)) (mul-le-mul h.bound k.bound) }

pub divided : {m n : ℕ} {a a' b b' : ℤ} → Reads m a' a → Reads n b' b → Reads m (quot_z a' b') (quot_z a b)
divided {a = a} {b = b} h k = record { same = rw (h.same, k.same); bound = le_trans (abs_quot a b) h.bound }

pub minus : {k : ℕ} {y z : ℤ} → Reads k y z → Reads k (pos 0 -ℤ y) (neg_ℤ z)
minus {k} {y} {z} h = record { same = ap (λ (v : ℤ). pos 0 -ℤ v) h.same ∙ +ℤ_idl (neg_ℤ z); bound = le_trans (le_of_eq (abs_neg z)) h.bound }

-- the same number by another name
pub called : {k : ℕ} {y z z' : ℤ} → z ≡ z' → Reads k y z → Reads k y z'
called {k} e h = record { same = h.same ∙ e; bound = subst (λ (z : ℤ). nat_abs z ≤ k) e h.bound }

pub reads_within : {k : ℕ} {y z : ℤ} → Reads k y z → Within k y
reads_within {k} h = record { le = subst (λ (z : ℤ). nat_abs z ≤ k) (sym h.same) h.bound }

pub fits : {k : ℕ} {y z : ℤ} → Reads k y z → T (ltb k (2 ^ 63)) → SFits w64 y
fits {k} {y} {z} h t = subst (SFits w64) (sym h.same) (fits_at w64 z (lt_of_le_of_lt h.bound (ltb→lt k (2 ^ 63) t)))

pub stored : {k : ℕ} {y z : ℤ} → Reads k y z → T (ltb k (2 ^ 63)) → Reads k (to_z w64 (of_z w64 y)) z
stored {k} {y} {z} h t = record { same = to_z-of_z w64 y (fits h t) ∙ h.same; bound = h.bound }

-- what the machine reads of a signed local
abbrev pub read : ℤ → ℤ
read z = to_z w64 (of_z w64 z)

-- a parameter
pub param : {k : ℕ} {z : ℤ} → Within k z → T (ltb k (2 ^ 63)) → Reads k (read z) z
param h t = stored (num h) t

-- the same as an equation and as a bound, for a callee's contract
pub read_is : {k : ℕ} {z : ℤ} → Within k z → T (ltb k (2 ^ 63)) → read z ≡ z
read_is h t = within_back h t

pub read_within : {k : ℕ} {z : ℤ} → Within k z → T (ltb k (2 ^ 63)) → Within k (read z)
read_within {k} h t = subst (Within k) (sym (read_is h t)) h

-- a test of a parameter against a literal, as a fact about the parameter
pub under : (z k : ℤ) {t : Bool} → SFits w64 z → lt_z (read z) k ≡ t → lt_z z k ≡ t
under z k h e = sym (ap (λ (y : ℤ). lt_z y k) (to_z-of_z w64 z h)) ∙ e

pub over : (z k : ℤ) {t : Bool} → SFits w64 z → lt_z k (read z) ≡ t → lt_z k z ≡ t
over z k h e = sym (ap (λ (y : ℤ). lt_z k y) (to_z-of_z w64 z h)) ∙ e

-- a callee's answer on three parameters that were passed on
pub args3 : {X : Type 0} (g : ℤ → ℤ → ℤ → X) (a b d : ℤ) → SFits w64 a → SFits w64 b → SFits w64 d → g (read a) (read b) (read d) ≡ g a b d
args3 g a b d h k l = rw (to_z-of_z w64 a h, to_z-of_z w64 b k, to_z-of_z w64 d l)

pub args4 : {X : Type 0} (g : ℤ → ℤ → ℤ → ℤ → X) (a b d e : ℤ) → SFits w64 a → SFits w64 b → SFits w64 d → SFits w64 e → g (read a) (read b) (read d) (read e) ≡ g a b d e
args4 g a b d e h k l m = args3 (g (read a)) b d e k l m ∙ ap (λ (z : ℤ). g z b d e) (to_z-of_z w64 a h)

pub args6 : {X : Type 0} (g : ℤ → ℤ → ℤ → ℤ → ℤ → ℤ → X) (a b d e p q : ℤ) → SFits w64 a → SFits w64 b → SFits w64 d → SFits w64 e → SFits w64 p → SFits w64 q
    → g (read a) (read b) (read d) (read e) (read p) (read q) ≡ g a b d e p q
args6 g a b d e p q h k l m n o = args3 (g (read a) (read b) (read d)) e p q m n o ∙ args3 (λ (x y z : ℤ). g x y z e p q) a b d h k l
