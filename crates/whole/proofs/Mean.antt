-- A weighted mean of three numbers lies between any bounds that hold for the three, also after a scaling. Assumes nothing.
use mathlib.Core.Path.{◌≡◌, refl, sym, ap, subst, ◌∙◌}
use mathlib.Core.Bool.{true}
use mathlib.Core.List.{[], ◌∷◌}
use Prim.Native.Nat.{ℕ, ◌+◌, ◌<◌}
use lib.IntN.{ℤ, pos, neg_ℤ, ◌+ℤ◌, ◌-ℤ◌, ◌*ℤ◌, *ℤ_comm}
use lib.Signed.{le_z, ◌≤ℤ◌}
use Rattle.whole.proofs.Laws.{one_*ℤ}
use Rattle.whole.proofs.Ring.{Expr, var, ◌:+◌, ◌:-◌, ◌:*◌, neg, norm, same, solve}
use Rattle.whole.proofs.Order.{≤_yes, ≤_is, ≤→less, less→≤, +ℤ_≤, pos_≥0, pos_>0, *ℤ_≥0, *ℤ_≥0_cancel}

-- p is a mean of a, b, c: natural weights, not all 0
pub record Mean (a b c p : ℤ) : Type 0 where
  pub u : ℕ
  pub v : ℕ
  pub w : ℕ
  pub some : 0 < u + v + w
  pub is : pos (u + v + w) *ℤ p ≡ (pos u *ℤ a +ℤ pos v *ℤ b) +ℤ pos w *ℤ c

-- the mean of k * z + m is k * (the mean) + m
scaled_mean : (a b c p k m u v w : ℤ) → (u +ℤ v +ℤ w) *ℤ p ≡ (u *ℤ a +ℤ v *ℤ b) +ℤ w *ℤ c
    → (u +ℤ v +ℤ w) *ℤ (k *ℤ p +ℤ m) ≡ (u *ℤ (k *ℤ a +ℤ m) +ℤ v *ℤ (k *ℤ b +ℤ m)) +ℤ w *ℤ (k *ℤ c +ℤ m)
unfolding norm same
scaled_mean a b c p k m u v w e =
    solve (all :* (var 4 :* var 3 :+ var 5)) (var 4 :* (all :* var 3) :+ all :* var 5) tt (a ∷ b ∷ c ∷ p ∷ k ∷ m ∷ u ∷ v ∷ w ∷ [])
    ∙ ap (λ (x : ℤ). k *ℤ x +ℤ (u +ℤ v +ℤ w) *ℤ m) e
    ∙ solve (var 4 :* (var 6 :* var 0 :+ var 7 :* var 1 :+ var 8 :* var 2) :+ all :* var 5)
    (var 6 :* (var 4 :* var 0 :+ var 5) :+ var 7 :* (var 4 :* var 1 :+ var 5) :+ var 8 :* (var 4 :* var 2 :+ var 5)) tt
    (a ∷ b ∷ c ∷ p ∷ k ∷ m ∷ u ∷ v ∷ w ∷ [])
  where
    all : Expr
    all = var 6 :+ var 7 :+ var 8

module _ {a b c p : ℤ} (mean : Mean a b c p) where
  -- the one law: what is k * z + m, and not negative at a, b, c, is not negative at p
  pub mean_≥0 : (k m : ℤ) → pos 0 ≤ℤ (k *ℤ a +ℤ m) → pos 0 ≤ℤ (k *ℤ b +ℤ m) → pos 0 ≤ℤ (k *ℤ c +ℤ m) → pos 0 ≤ℤ (k *ℤ p +ℤ m)
  mean_≥0 k m ha hb hc =
      *ℤ_≥0_cancel (pos (mean.u + mean.v + mean.w)) (k *ℤ p +ℤ m) (pos_>0 (mean.u + mean.v + mean.w) mean.some)
      (subst (λ (z : ℤ). pos 0 ≤ℤ z) (sym (scaled_mean a b c p k m (pos mean.u) (pos mean.v) (pos mean.w) mean.is))
      (+ℤ_≤ (+ℤ_≤ (*ℤ_≥0 (pos_≥0 mean.u) ha) (*ℤ_≥0 (pos_≥0 mean.v) hb)) (*ℤ_≥0 (pos_≥0 mean.w) hc)))

  -- a bound from below and from above for k times each of the three holds for k times the mean, however "k times" is written
  pub low_by : (f : ℤ → ℤ) (k lo : ℤ) → ((z : ℤ) → f z ≡ k *ℤ z) → le_z lo (f a) ≡ true → le_z lo (f b) ≡ true → le_z lo (f c) ≡ true → le_z lo (f p) ≡ true
  low_by f k lo same-f ha hb hc = ≤_is (less→≤ lo (f p) (out p (mean_≥0 k (neg_ℤ lo) (into a ha) (into b hb) (into c hc))))
    where
      into : (z : ℤ) → le_z lo (f z) ≡ true → pos 0 ≤ℤ (k *ℤ z +ℤ neg_ℤ lo)
      into z h = subst (λ (x : ℤ). pos 0 ≤ℤ (x -ℤ lo)) (same-f z) (≤→less (≤_yes lo (f z) h))

      out : (z : ℤ) → pos 0 ≤ℤ (k *ℤ z +ℤ neg_ℤ lo) → pos 0 ≤ℤ (f z -ℤ lo)
      out z h = subst (λ (x : ℤ). pos 0 ≤ℤ (x -ℤ lo)) (sym (same-f z)) h

  pub high_by : (f : ℤ → ℤ) (k hi : ℤ) → ((z : ℤ) → f z ≡ k *ℤ z) → le_z (f a) hi ≡ true → le_z (f b) hi ≡ true → le_z (f c) hi ≡ true → le_z (f p) hi ≡ true
  unfolding norm same
  high_by f k hi same-f ha hb hc = ≤_is (less→≤ (f p) hi (out p (mean_≥0 (neg_ℤ k) hi (into a ha) (into b hb) (into c hc))))
    where
      turned : (z : ℤ) → hi -ℤ f z ≡ neg_ℤ k *ℤ z +ℤ hi
      turned z = ap (λ (x : ℤ). hi -ℤ x) (same-f z) ∙ solve (var 0 :- var 1 :* var 2) (neg (var 1) :* var 2 :+ var 0) tt (hi ∷ k ∷ z ∷ [])

      into : (z : ℤ) → le_z (f z) hi ≡ true → pos 0 ≤ℤ (neg_ℤ k *ℤ z +ℤ hi)
      into z h = subst (λ (x : ℤ). pos 0 ≤ℤ x) (turned z) (≤→less (≤_yes (f z) hi h))

      out : (z : ℤ) → pos 0 ≤ℤ (neg_ℤ k *ℤ z +ℤ hi) → pos 0 ≤ℤ (hi -ℤ f z)
      out z h = subst (λ (x : ℤ). pos 0 ≤ℤ x) (sym (turned z)) h

  -- as it stands; k times from the left; k times from the right
  pub mean_low : (lo : ℤ) → le_z lo a ≡ true → le_z lo b ≡ true → le_z lo c ≡ true → le_z lo p ≡ true
  mean_low lo = low_by (λ z. z) (pos 1) lo (λ z. sym (one_*ℤ z))

  pub mean_high : (hi : ℤ) → le_z a hi ≡ true → le_z b hi ≡ true → le_z c hi ≡ true → le_z p hi ≡ true
  mean_high hi = high_by (λ z. z) (pos 1) hi (λ z. sym (one_*ℤ z))

  pub times_low : (k lo : ℤ) → le_z lo (k *ℤ a) ≡ true → le_z lo (k *ℤ b) ≡ true → le_z lo (k *ℤ c) ≡ true → le_z lo (k *ℤ p) ≡ true
  times_low k lo = low_by (λ z. k *ℤ z) k lo (λ z. refl)

  pub times_high : (k hi : ℤ) → le_z (k *ℤ a) hi ≡ true → le_z (k *ℤ b) hi ≡ true → le_z (k *ℤ c) hi ≡ true → le_z (k *ℤ p) hi ≡ true
  times_high k hi = high_by (λ z. k *ℤ z) k hi (λ z. refl)

  pub low_times : (k lo : ℤ) → le_z lo (a *ℤ k) ≡ true → le_z lo (b *ℤ k) ≡ true → le_z lo (c *ℤ k) ≡ true → le_z lo (p *ℤ k) ≡ true
  low_times k lo = low_by (λ z. z *ℤ k) k lo (λ z. *ℤ_comm z k)

  pub high_times : (k hi : ℤ) → le_z (a *ℤ k) hi ≡ true → le_z (b *ℤ k) hi ≡ true → le_z (c *ℤ k) hi ≡ true → le_z (p *ℤ k) hi ≡ true
  high_times k hi = high_by (λ z. z *ℤ k) k hi (λ z. *ℤ_comm z k)
