-- Division rounded down, for either sign: it meets its plain statement, no other number does, and it does not depend on how the fraction is
-- written. Assumes nothing.
use mathlib.Core.Path.{◌≡◌, refl, sym, ap, subst, ◌∙◌}
use mathlib.Core.Logic.{⊎_elim}
use mathlib.Core.List.{[], ◌∷◌}
use Prim.Native.Nat.{ℕ, zero, suc, ◌+◌, ◌*◌, ◌/◌, ◌<◌}
use native.Mathlib.Nat.{mul-div-le, lt-mul-div-succ}
use native.Mathlib.Omega.{arith}
use native.Mathlib.Numerals.{add-one}
use lib.IntN.{ℤ, pos, negsuc, neg_ℤ, ◌+ℤ◌, ◌-ℤ◌, ◌*ℤ◌, +ℤ_one, -ℤ_one}
use lib.Signed.{◌≤ℤ◌, ◌<ℤ◌, clash_ℤ}
use Rattle.whole.proofs.Laws.{*ℤ_negℤ, *ℤ_left_comm}
use Rattle.whole.proofs.Ring.{var, num, ◌:+◌, ◌:-◌, norm, same, solve}
use Rattle.whole.proofs.Order.{≤_by, <→≤, gap_<, ≤_or_<, ≤_antisym, ≤_<_trans, negℤ_≤, negℤ_<, pos_≤, pos_<, *ℤ_≤, *ℤ_<, *ℤ_≤_cancel, *ℤ_<_cancel}
use Rattle.slope.specs.Height.{rounded_down}
use Rattle.slope.specs.Plain.{RoundedDown}

next_neg : (q : ℕ) → negsuc q +ℤ pos 1 ≡ neg_ℤ (pos q)
next_neg zero = refl
next_neg (suc q) = +ℤ_one (negsuc (suc q))

module _ (d : ℕ) (p : 0 < d) where
  pub rounded_is : (n : ℤ) → RoundedDown n (pos d) (rounded_down n d)
  unfolding rounded_down
  rounded_is (pos n) = record { low = pos_≤ (d * (n / d)) n (mul-div-le n d); high = pos_< n (d * (n / d + 1)) (lt-mul-div-succ n p) }
  rounded_is (negsuc n) = record {
    low = negℤ_≤ (pos_≤ (suc n) (d * suc (n / d)) (rw add-one at (lt-mul-div-succ n p)));
    high = subst (λ (z : ℤ). negsuc n <ℤ z) (sym (ap (λ (z : ℤ). pos d *ℤ z) (next_neg (n / d)) ∙ *ℤ_negℤ (pos d) (pos (n / d))))
        (negℤ_< (pos_< (d * (n / d)) (suc n) (below n)));
  }
    where
      below : (n : ℕ) → d * (n / d) < suc n
      below n = omega (arith, mul-div-le n d)

-- what is under k + 1 is at most k, also after a scaling
pub under_next : (d h k : ℤ) → pos 0 <ℤ d → (d *ℤ h) <ℤ (d *ℤ (k +ℤ pos 1)) → h ≤ℤ k
unfolding norm same
under_next d h k p l =
    ⊎_elim (λ (y : (k +ℤ pos 1) ≤ℤ h). clash_ℤ l (*ℤ_≤ d (<→≤ p) y))
    (λ (y : h <ℤ (k +ℤ pos 1)).
    let g = gap_< y in
    ≤_by h k g.0 (solve (var 1 :- var 0) ((var 1 :+ num (pos 1) :- var 0) :- num (pos 1)) tt (h ∷ k ∷ []) ∙ ap (λ (z : ℤ). z -ℤ pos 1) g.1 ∙ -ℤ_one (pos (suc g.0))))
    (≤_or_< (k +ℤ pos 1) h)

-- no other number is the fraction rounded down
pub rounded_only : (n d h k : ℤ) → pos 0 <ℤ d → RoundedDown n d h → RoundedDown n d k → h ≡ k
rounded_only n d h k p r s =
    ≤_antisym (under_next d h k p (≤_<_trans r.low s.high)) (under_next d k h p (≤_<_trans s.low r.high))

-- a fraction written with other numbers, rounded down, is the same
pub rescaled : (n d s w h : ℤ) → pos 0 <ℤ d → pos 0 <ℤ w → w *ℤ n ≡ d *ℤ s → RoundedDown n d h → RoundedDown s w h
rescaled n d s w h p q e r = record {
  low = *ℤ_≤_cancel d (w *ℤ h) s p (subst (λ (z : ℤ). (d *ℤ (w *ℤ h)) ≤ℤ z) e (subst (λ (z : ℤ). z ≤ℤ (w *ℤ n)) (*ℤ_left_comm w d h) (*ℤ_≤ w (<→≤ q) r.low)));
  high = *ℤ_<_cancel d s (w *ℤ (h +ℤ pos 1)) p
      (subst (λ (z : ℤ). z <ℤ (d *ℤ (w *ℤ (h +ℤ pos 1)))) e (subst (λ (z : ℤ). (w *ℤ n) <ℤ z) (*ℤ_left_comm w d (h +ℤ pos 1)) (*ℤ_< w q r.high)));
}
