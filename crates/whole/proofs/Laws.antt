-- The laws of the ring of whole numbers that the library lacks. Assumes nothing.
use mathlib.Core.Path.{◌≡◌, refl, sym, ap, ap₂, ◌∙◌}
use Prim.Native.Nat.{zero, suc, ◌*◌}
use lib.IntN.{ℤ, pos, negsuc, neg_ℤ, suc_ℤ, pred_ℤ, ◌+ℤ◌, ◌-ℤ◌, ◌*ℤ◌, +ℤ_idl, +ℤ_assoc, +ℤ_comm, suc_ℤ-+ℤ, pred_ℤ-+ℤ, suc_ℤ-*ℤ, pred_ℤ-*ℤ, zero-*ℤ, *ℤ_comm, neg_ℤ-neg_ℤ, -ℤ-+ℤ_cancel}

-- what holds of 0 and passes to the next number either way holds of every number
pub by_steps : (P : ℤ → Type 0) → P (pos 0) → ((m : ℤ) → P m → P (suc_ℤ m)) → ((m : ℤ) → P m → P (pred_ℤ m)) → (k : ℤ) → P k
by_steps P z s p (pos zero) = z
by_steps P z s p (pos (suc n)) = s (pos n) (by_steps P z s p (pos n))
by_steps P z s p (negsuc zero) = p (pos 0) z
by_steps P z s p (negsuc (suc n)) = p (negsuc n) (by_steps P z s p (negsuc n))

-- ---- sums

pub +ℤ_swap : (a b c : ℤ) → (a +ℤ b) +ℤ c ≡ (a +ℤ c) +ℤ b
+ℤ_swap a b c = +ℤ_assoc a b c ∙ ap (λ (x : ℤ). a +ℤ x) (+ℤ_comm b c) ∙ sym (+ℤ_assoc a c b)

pub +ℤ_left_comm : (a b c : ℤ) → a +ℤ (b +ℤ c) ≡ b +ℤ (a +ℤ c)
+ℤ_left_comm a b c = sym (+ℤ_assoc a b c) ∙ ap (λ (x : ℤ). x +ℤ c) (+ℤ_comm a b) ∙ +ℤ_assoc b a c

pub +ℤ_cross : (a b c d : ℤ) → (a +ℤ b) +ℤ (c +ℤ d) ≡ (a +ℤ c) +ℤ (b +ℤ d)
+ℤ_cross a b c d = +ℤ_assoc a b (c +ℤ d) ∙ ap (λ (x : ℤ). a +ℤ x) (+ℤ_left_comm b c d) ∙ sym (+ℤ_assoc a c (b +ℤ d))

-- ---- products

pub *ℤ_+ℤ_right : (a b c : ℤ) → (a +ℤ b) *ℤ c ≡ a *ℤ c +ℤ b *ℤ c
*ℤ_+ℤ_right a b c = by_steps (λ (x : ℤ). (x +ℤ b) *ℤ c ≡ x *ℤ c +ℤ b *ℤ c) none more less a
  where
    none : (pos 0 +ℤ b) *ℤ c ≡ pos 0 *ℤ c +ℤ b *ℤ c
    none = ap (λ (x : ℤ). x *ℤ c) (+ℤ_idl b) ∙ sym (+ℤ_idl (b *ℤ c)) ∙ ap (λ (x : ℤ). x +ℤ b *ℤ c) (sym (zero-*ℤ c))

    more : (m : ℤ) → (m +ℤ b) *ℤ c ≡ m *ℤ c +ℤ b *ℤ c → (suc_ℤ m +ℤ b) *ℤ c ≡ suc_ℤ m *ℤ c +ℤ b *ℤ c
    more m h = ap (λ (x : ℤ). x *ℤ c) (suc_ℤ-+ℤ m b) ∙ suc_ℤ-*ℤ (m +ℤ b) c ∙ ap (λ (x : ℤ). x +ℤ c) h ∙ +ℤ_swap (m *ℤ c) (b *ℤ c) c
        ∙ ap (λ (x : ℤ). x +ℤ b *ℤ c) (sym (suc_ℤ-*ℤ m c))

    less : (m : ℤ) → (m +ℤ b) *ℤ c ≡ m *ℤ c +ℤ b *ℤ c → (pred_ℤ m +ℤ b) *ℤ c ≡ pred_ℤ m *ℤ c +ℤ b *ℤ c
    less m h = ap (λ (x : ℤ). x *ℤ c) (pred_ℤ-+ℤ m b) ∙ pred_ℤ-*ℤ (m +ℤ b) c ∙ ap (λ (x : ℤ). x -ℤ c) h ∙ +ℤ_swap (m *ℤ c) (b *ℤ c) (neg_ℤ c)
        ∙ ap (λ (x : ℤ). x +ℤ b *ℤ c) (sym (pred_ℤ-*ℤ m c))

pub *ℤ_+ℤ_left : (a b c : ℤ) → a *ℤ (b +ℤ c) ≡ a *ℤ b +ℤ a *ℤ c
*ℤ_+ℤ_left a b c = *ℤ_comm a (b +ℤ c) ∙ *ℤ_+ℤ_right b c a ∙ ap₂ (λ (x y : ℤ). x +ℤ y) (*ℤ_comm b a) (*ℤ_comm c a)

pub negℤ_*ℤ : (a b : ℤ) → neg_ℤ a *ℤ b ≡ neg_ℤ (a *ℤ b)
negℤ_*ℤ (pos zero) b = zero-*ℤ b ∙ ap neg_ℤ (sym (zero-*ℤ b))
negℤ_*ℤ (pos (suc n)) (pos b) = refl
negℤ_*ℤ (pos (suc n)) (negsuc b) = sym (neg_ℤ-neg_ℤ (pos (suc n * suc b)))
negℤ_*ℤ (negsuc n) (pos b) = sym (neg_ℤ-neg_ℤ (pos (suc n * b)))
negℤ_*ℤ (negsuc n) (negsuc b) = refl

pub *ℤ_negℤ : (a b : ℤ) → a *ℤ neg_ℤ b ≡ neg_ℤ (a *ℤ b)
*ℤ_negℤ a b = *ℤ_comm a (neg_ℤ b) ∙ negℤ_*ℤ b a ∙ ap neg_ℤ (*ℤ_comm b a)

pub *ℤ_assoc : (a b c : ℤ) → (a *ℤ b) *ℤ c ≡ a *ℤ (b *ℤ c)
*ℤ_assoc a b c = by_steps (λ (x : ℤ). (x *ℤ b) *ℤ c ≡ x *ℤ (b *ℤ c)) none more less a
  where
    none : (pos 0 *ℤ b) *ℤ c ≡ pos 0 *ℤ (b *ℤ c)
    none = ap (λ (x : ℤ). x *ℤ c) (zero-*ℤ b) ∙ zero-*ℤ c ∙ sym (zero-*ℤ (b *ℤ c))

    more : (m : ℤ) → (m *ℤ b) *ℤ c ≡ m *ℤ (b *ℤ c) → (suc_ℤ m *ℤ b) *ℤ c ≡ suc_ℤ m *ℤ (b *ℤ c)
    more m h = ap (λ (x : ℤ). x *ℤ c) (suc_ℤ-*ℤ m b) ∙ *ℤ_+ℤ_right (m *ℤ b) b c ∙ ap (λ (x : ℤ). x +ℤ b *ℤ c) h ∙ sym (suc_ℤ-*ℤ m (b *ℤ c))

    less : (m : ℤ) → (m *ℤ b) *ℤ c ≡ m *ℤ (b *ℤ c) → (pred_ℤ m *ℤ b) *ℤ c ≡ pred_ℤ m *ℤ (b *ℤ c)
    less m h = ap (λ (x : ℤ). x *ℤ c) (pred_ℤ-*ℤ m b) ∙ *ℤ_+ℤ_right (m *ℤ b) (neg_ℤ b) c ∙ ap₂ (λ (x y : ℤ). x +ℤ y) h (negℤ_*ℤ b c)
        ∙ sym (pred_ℤ-*ℤ m (b *ℤ c))

pub *ℤ--ℤ-left : (a b c : ℤ) → a *ℤ (b -ℤ c) ≡ a *ℤ b -ℤ a *ℤ c
*ℤ--ℤ-left a b c = *ℤ_+ℤ_left a b (neg_ℤ c) ∙ ap (λ (x : ℤ). a *ℤ b +ℤ x) (*ℤ_negℤ a c)

pub *ℤ--ℤ-right : (a b c : ℤ) → (a -ℤ b) *ℤ c ≡ a *ℤ c -ℤ b *ℤ c
*ℤ--ℤ-right a b c = *ℤ_+ℤ_right a (neg_ℤ b) c ∙ ap (λ (x : ℤ). a *ℤ c +ℤ x) (negℤ_*ℤ b c)

pub *ℤ_left_comm : (a b c : ℤ) → a *ℤ (b *ℤ c) ≡ b *ℤ (a *ℤ c)
*ℤ_left_comm a b c = sym (*ℤ_assoc a b c) ∙ ap (λ (x : ℤ). x *ℤ c) (*ℤ_comm a b) ∙ *ℤ_assoc b a c

pub *ℤ_cross : (a b c d : ℤ) → (a *ℤ b) *ℤ (c *ℤ d) ≡ (a *ℤ c) *ℤ (b *ℤ d)
*ℤ_cross a b c d = *ℤ_assoc a b (c *ℤ d) ∙ ap (λ (x : ℤ). a *ℤ x) (*ℤ_left_comm b c d) ∙ sym (*ℤ_assoc a c (b *ℤ d))

pub one_*ℤ : (a : ℤ) → pos 1 *ℤ a ≡ a
one_*ℤ a = suc_ℤ-*ℤ (pos 0) a ∙ ap (λ (x : ℤ). x +ℤ a) (zero-*ℤ a) ∙ +ℤ_idl a

pub *ℤ_1 : (a : ℤ) → a *ℤ pos 1 ≡ a
*ℤ_1 a = *ℤ_comm a (pos 1) ∙ one_*ℤ a

-- ---- differences

-- two numbers whose difference is 0 are one
pub same_of_less : (a b : ℤ) → a -ℤ b ≡ pos 0 → a ≡ b
same_of_less a b h = sym (-ℤ-+ℤ_cancel a b) ∙ ap (λ (x : ℤ). x +ℤ b) h ∙ +ℤ_idl b
