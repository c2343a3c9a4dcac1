-- The order of the whole numbers: a ≤ b exactly if the difference b - a is a natural number, and so every law of the order
-- is a law of natural numbers and an identity. Stated over the library's `◌≤ℤ◌` and `◌<ℤ◌`, from which a and b are inferred;
-- `≤_yes`, `≤_is`, `<_yes`, `<_is` lead from and to the tests `le_z`, `lt_z`. Assumes nothing.
use mathlib.Core.Path.{◌≡◌, refl, sym, ap, ap₂, subst, ◌∙◌}
use mathlib.Core.Logic.{◌⊎◌, inl, inr, ⊎_elim, ◌≢◌}
use mathlib.Core.Bool.{Bool, true, false, not, cond}
use mathlib.Core.List.{[], ◌∷◌}
use Prim.Native.Nat.{ℕ, zero, suc, ◌+◌, ◌-◌, ◌*◌, ◌<◌, ◌≤◌}
use native.Mathlib.Omega.{arith}
use lib.Dec.{T, ltb, leb→le, le→leb}
use borrow.Author.Tests.{lt-ltb, le-ltb, le-leb, ltb-true, ltb-false}
use lib.IntN.{ℤ, pos, negsuc, neg_ℤ, nat_abs, sub_ℕ, ◌+ℤ◌, ◌-ℤ◌, ◌*ℤ◌, +ℤ_idr, *ℤ-zero}
use lib.Signed.{le_z, lt_z, ◌≤ℤ◌, ◌<ℤ◌, lt_z_no, ≤ℤ_refl, clash_ℤ, yes_non_neg, pos-nat_abs}
use Rattle.verdict.proofs.Bools.{clash, test, T_true, true_T}
use Rattle.whole.proofs.Laws.{same_of_less}
use Rattle.whole.proofs.Ring.{var, num, ◌:+◌, ◌:-◌, ◌:*◌, neg, norm, same, solve}

-- ---- tests and facts

pub ≤_yes : (a b : ℤ) → le_z a b ≡ true → a ≤ℤ b
≤_yes a b e = record { le = true_T (le_z a b) e }

pub ≤_is : {a b : ℤ} → a ≤ℤ b → le_z a b ≡ true
≤_is {a} {b} h = T_true (le_z a b) h.le

pub <_yes : (a b : ℤ) → lt_z a b ≡ true → a <ℤ b
<_yes a b e = record { lt = true_T (lt_z a b) e }

pub <_is : {a b : ℤ} → a <ℤ b → lt_z a b ≡ true
<_is {a} {b} h = T_true (lt_z a b) h.lt

-- a failed test is the other order
pub <_no : (a b : ℤ) → lt_z a b ≡ false → b ≤ℤ a
<_no a b e = lt_z_no {a = a} {b = b} (true_T (not (lt_z a b)) (ap not e))

pub ≤_not : {a b : ℤ} → b ≤ℤ a → lt_z a b ≡ false
≤_not {a} {b} h = test (lt_z a b) (λ y. clash_ℤ (<_yes a b y) h) (λ n. n)

-- of the two tests one passes
pub lt_z_is : (a b : ℤ) → lt_z a b ≡ not (le_z b a)
lt_z_is a b = test (lt_z a b) (λ y. y ∙ ap not (sym (fails y))) (λ n. n ∙ ap not (sym (≤_is (<_no a b n))))
  where
    fails : lt_z a b ≡ true → le_z b a ≡ false
    fails y = test (le_z b a) (λ z. clash_ℤ (<_yes a b y) (≤_yes b a z)) (λ z. z)

-- ---- a ≤ b is a natural difference

sub_over : (a b : ℕ) → b ≤ a → sub_ℕ a b ≡ pos (a - b)
sub_over a b h = ap (λ (t : Bool). cond t (negsuc (b - suc a)) (pos (a - b))) (le-ltb a b h)

sub_under : (a b : ℕ) → a < b → sub_ℕ a b ≡ negsuc (b - suc a)
sub_under a b h = ap (λ (t : Bool). cond t (negsuc (b - suc a)) (pos (a - b))) (lt-ltb a b h)

-- what is left over, as a sum
rest : (a b : ℤ) → T (le_z a b) → (n : ℕ) × (a +ℤ pos n ≡ b)
rest (pos a) (pos b) t = let h = leb→le a b t in (b - a, ap pos (omega arith))
rest (pos a) (negsuc b) t = absurd t
rest (negsuc a) (pos b) t = (b + suc a, sub_over (b + suc a) (suc a) (omega arith) ∙ ap pos (omega arith))
rest (negsuc a) (negsuc b) t = let h = leb→le b a t in (a - b, sub_under (a - b) (suc a) (omega arith) ∙ ap negsuc (omega arith))

rest_le : (a : ℤ) (n : ℕ) → T (le_z a (a +ℤ pos n))
rest_le (pos a) n = le→leb a (a + n) (omega arith)
rest_le (negsuc a) n =
    test (ltb n (suc a))
    (λ y. subst (λ (z : ℤ). T (le_z (negsuc a) z)) (sym (sub_under n (suc a) (ltb-true n (suc a) y))) (le→leb (suc a - suc n) a (omega arith)))
    (λ y. subst (λ (z : ℤ). T (le_z (negsuc a) z)) (sym (sub_over n (suc a) (ltb-false n (suc a) y))) tt)

-- the difference of two numbers in order
pub gap : {a b : ℤ} → a ≤ℤ b → (n : ℕ) × (b -ℤ a ≡ pos n)
unfolding norm same
gap {a} {b} h =
    let r = rest a b h.le in
    (r.0, ap (λ (x : ℤ). x -ℤ a) (sym r.1) ∙ solve (var 0 :+ var 1 :- var 0) (var 1) tt (a ∷ pos r.0 ∷ []))

-- and back: whatever has a natural difference is in order
pub ≤_by : (a b : ℤ) (n : ℕ) → b -ℤ a ≡ pos n → a ≤ℤ b
unfolding norm same
≤_by a b n e =
    let back : a +ℤ pos n ≡ b = ap (λ (x : ℤ). a +ℤ x) (sym e) ∙ solve (var 0 :+ (var 1 :- var 0)) (var 1) tt (a ∷ b ∷ []) in
    record { le = subst (λ (z : ℤ). T (le_z a z)) back (rest_le a n) }

-- strictly: the difference is a successor
pub gap_< : {a b : ℤ} → a <ℤ b → (n : ℕ) × (b -ℤ a ≡ pos (suc n))
gap_< {a} {b} h = go (gap weak).0 (gap weak).1
  where
    weak : a ≤ℤ b
    weak = test (le_z a b) (λ y. ≤_yes a b y) (λ n. absurd (lost a b h.lt n))
      where
        lost : (a b : ℤ) → T (lt_z a b) → le_z a b ≡ false → ⊥
        lost (pos a) (pos b) t n = clash (le-leb a b (omega (arith, leb→le (suc a) b t))) n
        lost (pos a) (negsuc b) t n = t
        lost (negsuc a) (pos b) t n = clash refl n
        lost (negsuc a) (negsuc b) t n = clash (le-leb b a (omega (arith, leb→le (suc b) a t))) n

    go : (n : ℕ) → b -ℤ a ≡ pos n → (n : ℕ) × (b -ℤ a ≡ pos (suc n))
    go zero e = clash_ℤ h (subst (λ (z : ℤ). b ≤ℤ z) (same_of_less b a e) (≤ℤ_refl b))
    go (suc n) e = (n, e)

pub <_by : (a b : ℤ) (n : ℕ) → b -ℤ a ≡ pos (suc n) → a <ℤ b
unfolding norm same
<_by a b n e = test (lt_z a b) (λ y. <_yes a b y) (λ no. absurd (lost (gap (<_no a b no))))
  where
    lost : (m : ℕ) × (a -ℤ b ≡ pos m) → ⊥
    lost g =
        let sum : pos (suc n + g.0) ≡ pos 0 = ap₂ (λ (x y : ℤ). x +ℤ y) (sym e) (sym g.1) ∙ solve ((var 1 :- var 0) :+ (var 0 :- var 1)) (num (pos 0)) tt (a ∷ b ∷ []) in
        omega (arith, ap nat_abs sum)

-- ---- the order is total, and none comes both before and after

pub <→≤ : {a b : ℤ} → a <ℤ b → a ≤ℤ b
<→≤ {a} {b} h = let g = gap_< h in ≤_by a b (suc g.0) g.1

pub ≤_or_< : (a b : ℤ) → (a ≤ℤ b) ⊎ (b <ℤ a)
≤_or_< a b = test (lt_z b a) (λ y. inr (<_yes b a y)) (λ n. inl (<_no b a n))

pub ≤_antisym : {a b : ℤ} → a ≤ℤ b → b ≤ℤ a → a ≡ b
≤_antisym {a} {b} h k = ⊎_elim (λ e. e) (λ (l : a <ℤ b). clash_ℤ l k) (equal (gap h).0 (gap h).1)
  where
    equal : (n : ℕ) → b -ℤ a ≡ pos n → (a ≡ b) ⊎ (a <ℤ b)
    equal zero e = inl (sym (same_of_less b a e))
    equal (suc n) e = inr (<_by a b n e)

pub ≢→< : (a b : ℤ) → a ≢ b → (a <ℤ b) ⊎ (b <ℤ a)
≢→< a b ne = test (lt_z a b) (λ y. inl (<_yes a b y)) (λ n. test (lt_z b a) (λ y. inr (<_yes b a y)) (λ m. absurd (ne (≤_antisym (<_no b a m) (<_no a b n)))))

pub ≤_trans : {a b c : ℤ} → a ≤ℤ b → b ≤ℤ c → a ≤ℤ c
unfolding norm same
≤_trans {a} {b} {c} h k =
    ≤_by a c ((gap k).0 + (gap h).0)
    (solve (var 2 :- var 0) ((var 2 :- var 1) :+ (var 1 :- var 0)) tt (a ∷ b ∷ c ∷ []) ∙ ap₂ (λ (x y : ℤ). x +ℤ y) (gap k).1 (gap h).1)

pub ≤_<_trans : {a b c : ℤ} → a ≤ℤ b → b <ℤ c → a <ℤ c
≤_<_trans {a} {b} {c} h k = test (lt_z a c) (λ y. <_yes a c y) (λ n. clash_ℤ k (≤_trans (<_no a c n) h))

pub <_trans : {a b c : ℤ} → a <ℤ b → b <ℤ c → a <ℤ c
<_trans h k = ≤_<_trans (<→≤ h) k

-- ---- sums and differences

-- a ≤ b is 0 ≤ b - a
pub ≤→less : {a b : ℤ} → a ≤ℤ b → pos 0 ≤ℤ (b -ℤ a)
≤→less {a} {b} h = ≤_by (pos 0) (b -ℤ a) (gap h).0 (+ℤ_idr (b -ℤ a) ∙ (gap h).1)

pub less→≤ : (a b : ℤ) → pos 0 ≤ℤ (b -ℤ a) → a ≤ℤ b
less→≤ a b h = ≤_by a b (gap h).0 (sym (+ℤ_idr (b -ℤ a)) ∙ (gap h).1)

pub +ℤ_≤ : {a b c d : ℤ} → a ≤ℤ b → c ≤ℤ d → (a +ℤ c) ≤ℤ (b +ℤ d)
unfolding norm same
+ℤ_≤ {a} {b} {c} {d} h k =
    ≤_by (a +ℤ c) (b +ℤ d) ((gap h).0 + (gap k).0)
    (solve ((var 1 :+ var 3) :- (var 0 :+ var 2)) ((var 1 :- var 0) :+ (var 3 :- var 2)) tt (a ∷ b ∷ c ∷ d ∷ []) ∙ ap₂ (λ (x y : ℤ). x +ℤ y) (gap h).1 (gap k).1)

pub +ℤ_< : {a b c d : ℤ} → a <ℤ b → c ≤ℤ d → (a +ℤ c) <ℤ (b +ℤ d)
unfolding norm same
+ℤ_< {a} {b} {c} {d} h k =
    <_by (a +ℤ c) (b +ℤ d) ((gap_< h).0 + (gap k).0)
    (solve ((var 1 :+ var 3) :- (var 0 :+ var 2)) ((var 1 :- var 0) :+ (var 3 :- var 2)) tt (a ∷ b ∷ c ∷ d ∷ []) ∙ ap₂ (λ (x y : ℤ). x +ℤ y) (gap_< h).1 (gap k).1
    ∙ ap pos (omega arith))

pub +ℤ_≤_cancel : (a b c : ℤ) → (a +ℤ c) ≤ℤ (b +ℤ c) → a ≤ℤ b
unfolding norm same
+ℤ_≤_cancel a b c h = ≤_by a b (gap h).0 (solve (var 1 :- var 0) ((var 1 :+ var 2) :- (var 0 :+ var 2)) tt (a ∷ b ∷ c ∷ []) ∙ (gap h).1)

pub negℤ_≤ : {a b : ℤ} → a ≤ℤ b → neg_ℤ b ≤ℤ neg_ℤ a
unfolding norm same
negℤ_≤ {a} {b} h = ≤_by (neg_ℤ b) (neg_ℤ a) (gap h).0 (solve (neg (var 0) :- neg (var 1)) (var 1 :- var 0) tt (a ∷ b ∷ []) ∙ (gap h).1)

pub negℤ_< : {a b : ℤ} → a <ℤ b → neg_ℤ b <ℤ neg_ℤ a
unfolding norm same
negℤ_< {a} {b} h = <_by (neg_ℤ b) (neg_ℤ a) (gap_< h).0 (solve (neg (var 0) :- neg (var 1)) (var 1 :- var 0) tt (a ∷ b ∷ []) ∙ (gap_< h).1)

-- ---- not negative: a natural number

pub pos_≤ : (a b : ℕ) → a ≤ b → pos a ≤ℤ pos b
pos_≤ a b h = record { le = le→leb a b h }

pub pos_< : (a b : ℕ) → a < b → pos a <ℤ pos b
pos_< a b h = record { lt = le→leb (suc a) b h }

pub pos_≥0 : (n : ℕ) → pos 0 ≤ℤ pos n
pos_≥0 n = ≤_by (pos 0) (pos n) n (+ℤ_idr (pos n))

pub pos_>0 : (n : ℕ) → 0 < n → pos 0 <ℤ pos n
pos_>0 zero h = absurd (omega arith)
pos_>0 (suc n) h = <_by (pos 0) (pos (suc n)) n (+ℤ_idr (pos (suc n)))

pub abs_of : {z : ℤ} → pos 0 ≤ℤ z → pos (nat_abs z) ≡ z
abs_of {z} h = pos-nat_abs z (yes_non_neg h)

pub abs_of_neg : {z : ℤ} → z ≤ℤ pos 0 → pos (nat_abs z) ≡ neg_ℤ z
abs_of_neg {z} h = ap pos (sym (size z)) ∙ abs_of (negℤ_≤ h)
  where
    size : (z : ℤ) → nat_abs (neg_ℤ z) ≡ nat_abs z
    size (pos zero) = refl
    size (pos (suc n)) = refl
    size (negsuc n) = refl

pub >0_pos : (n : ℕ) → pos 0 <ℤ pos n → 0 < n
>0_pos n h = leb→le 1 n h.lt

-- ---- products

pub *ℤ_≥0 : {a b : ℤ} → pos 0 ≤ℤ a → pos 0 ≤ℤ b → pos 0 ≤ℤ (a *ℤ b)
*ℤ_≥0 {a} {b} h k = subst (λ (z : ℤ). pos 0 ≤ℤ z) (ap₂ (λ (x y : ℤ). x *ℤ y) (abs_of h) (abs_of k)) (pos_≥0 (nat_abs a * nat_abs b))

pub *ℤ_>0 : {a b : ℤ} → pos 0 <ℤ a → pos 0 <ℤ b → pos 0 <ℤ (a *ℤ b)
*ℤ_>0 {a} {b} h k =
    subst (λ (z : ℤ). pos 0 <ℤ z)
    (ap₂ (λ (x y : ℤ). x *ℤ y) (sym (gap_< h).1 ∙ +ℤ_idr a) (sym (gap_< k).1 ∙ +ℤ_idr b))
    (pos_>0 (suc (gap_< h).0 * suc (gap_< k).0) (omega arith))

-- with a factor that is not negative, the order stays
pub *ℤ_≤ : (k : ℤ) {a b : ℤ} → pos 0 ≤ℤ k → a ≤ℤ b → (k *ℤ a) ≤ℤ (k *ℤ b)
unfolding norm same
*ℤ_≤ k {a} {b} p h =
    less→≤ (k *ℤ a) (k *ℤ b)
    (subst (λ (z : ℤ). pos 0 ≤ℤ z) (solve (var 0 :* (var 2 :- var 1)) (var 0 :* var 2 :- var 0 :* var 1) tt (k ∷ a ∷ b ∷ [])) (*ℤ_≥0 p (≤→less h)))

-- a positive factor cancels
pub *ℤ_≤_cancel : (k a b : ℤ) → pos 0 <ℤ k → (k *ℤ a) ≤ℤ (k *ℤ b) → a ≤ℤ b
unfolding norm same
*ℤ_≤_cancel k a b p h =
    ⊎_elim (λ (y : a ≤ℤ b). y)
    (λ (l : b <ℤ a).
    let g = gap_< p in
    let m = gap_< l in
    let more : (k *ℤ a) -ℤ (k *ℤ b) ≡ pos (suc g.0 * suc m.0) =
    solve (var 0 :* var 1 :- var 0 :* var 2) ((var 0 :- num (pos 0)) :* (var 1 :- var 2)) tt (k ∷ a ∷ b ∷ []) ∙ ap₂ (λ (x y : ℤ). x *ℤ y) g.1 m.1 in
    clash_ℤ (<_by (k *ℤ b) (k *ℤ a) (g.0 * m.0 + g.0 + m.0) (more ∙ ap pos (omega arith))) h)
    (≤_or_< a b)

pub *ℤ_≥0_cancel : (k a : ℤ) → pos 0 <ℤ k → pos 0 ≤ℤ (k *ℤ a) → pos 0 ≤ℤ a
*ℤ_≥0_cancel k a p h = *ℤ_≤_cancel k (pos 0) a p (subst (λ (z : ℤ). z ≤ℤ (k *ℤ a)) (sym (*ℤ-zero k)) h)

pub *ℤ_≤0_cancel : (k a : ℤ) → pos 0 <ℤ k → (k *ℤ a) ≤ℤ pos 0 → a ≤ℤ pos 0
*ℤ_≤0_cancel k a p h = *ℤ_≤_cancel k a (pos 0) p (subst (λ (z : ℤ). (k *ℤ a) ≤ℤ z) (sym (*ℤ-zero k)) h)

pub *ℤ_≡_cancel : (k a b : ℤ) → pos 0 <ℤ k → k *ℤ a ≡ k *ℤ b → a ≡ b
*ℤ_≡_cancel k a b p e =
    ≤_antisym (*ℤ_≤_cancel k a b p (subst (λ (z : ℤ). (k *ℤ a) ≤ℤ z) e (≤ℤ_refl (k *ℤ a))))
    (*ℤ_≤_cancel k b a p (subst (λ (z : ℤ). z ≤ℤ (k *ℤ a)) e (≤ℤ_refl (k *ℤ a))))

pub *ℤ_< : (k : ℤ) {a b : ℤ} → pos 0 <ℤ k → a <ℤ b → (k *ℤ a) <ℤ (k *ℤ b)
*ℤ_< k {a} {b} p h = test (lt_z (k *ℤ a) (k *ℤ b)) (λ y. <_yes (k *ℤ a) (k *ℤ b) y) (λ n. clash_ℤ h (*ℤ_≤_cancel k b a p (<_no (k *ℤ a) (k *ℤ b) n)))

pub *ℤ_<_cancel : (k a b : ℤ) → pos 0 <ℤ k → (k *ℤ a) <ℤ (k *ℤ b) → a <ℤ b
*ℤ_<_cancel k a b p h = ⊎_elim (λ (y : b ≤ℤ a). clash_ℤ h (*ℤ_≤ k (<→≤ p) y)) (λ (y : a <ℤ b). y) (≤_or_< b a)

-- the rules of signs
pub *ℤ_≥0_≤0 : {a b : ℤ} → pos 0 ≤ℤ a → b ≤ℤ pos 0 → (a *ℤ b) ≤ℤ pos 0
*ℤ_≥0_≤0 {a} {b} h k = subst (λ (z : ℤ). (a *ℤ b) ≤ℤ z) (*ℤ-zero a) (*ℤ_≤ a h k)

pub *ℤ_≤0_≤0 : {a b : ℤ} → a ≤ℤ pos 0 → b ≤ℤ pos 0 → pos 0 ≤ℤ (a *ℤ b)
unfolding norm same
*ℤ_≤0_≤0 {a} {b} h k = subst (λ (z : ℤ). pos 0 ≤ℤ z) (solve (neg (var 0) :* neg (var 1)) (var 0 :* var 1) tt (a ∷ b ∷ [])) (*ℤ_≥0 (negℤ_≤ h) (negℤ_≤ k))
