-- The machine's numbers on the way to a height: the division, and signs made those of a positive area. Assumes nothing.
use mathlib.Core.Path.{◌≡◌, refl, sym, ap, ap₂, subst, ◌∙◌}
use mathlib.Core.Bool.{true, false}
use Prim.Native.Nat.{ℕ, zero, suc, ◌/◌, ◌<◌}
use native.Mathlib.Omega.{arith}
use lib.IntN.{ℤ, pos, negsuc, neg_ℤ, nat_abs, ◌-ℤ◌, ◌*ℤ◌, +ℤ_idr, +ℤ_comm, -ℤ_one}
use lib.Signed.{lt_z, quot_z, ◌<ℤ◌, clash_ℤ}
use mir.Syntax.{w64}
use mir.Val.{of_z}
use Rattle.verdict.proofs.Bools.{clash, test}
use Rattle.wire.specs.Signed.{Within}
use Rattle.wire.proofs.Signed.{read, read_is}
use Rattle.whole.proofs.Order.{<_yes, <_no, <→≤, pos_≥0, abs_of, abs_of_neg, >0_pos}
use Rattle.slope.specs.declared.Corner.{Corner}
use Rattle.slope.specs.Height.{rounded_down, beside, area, lifted, turned, numerator, denominator, height_at}
use Rattle.slope.specs.Plain.{most_cross, most_lifted}

-- ---- the division

from_minus_one : (m : ℕ) → negsuc 0 -ℤ negsuc m ≡ pos m
from_minus_one m = +ℤ_comm (negsuc 0) (pos (suc m)) ∙ -ℤ_one (pos (suc m))

minus_one_less : (q : ℕ) → negsuc 0 -ℤ pos q ≡ negsuc q
minus_one_less zero = +ℤ_idr (negsuc 0)
minus_one_less (suc q) = ap negsuc (omega arith)

-- a divisor that is positive is not 0 in the machine either
pub some_divisor : {d : ℤ} → pos 0 <ℤ d → 0 < of_z w64 d
some_divisor {d} p = subst (λ (z : ℤ). 0 < of_z w64 z) (abs_of (<→≤ p)) (>0_pos (nat_abs d) (subst (λ (z : ℤ). pos 0 <ℤ z) (sym (abs_of (<→≤ p))) p))

-- what the two returns work out, of whole numbers
pub below_zero : (n d : ℤ) → pos 0 <ℤ d → lt_z n (pos 0) ≡ true → negsuc 0 -ℤ quot_z (negsuc 0 -ℤ n) d ≡ rounded_down n (nat_abs d)
unfolding rounded_down
below_zero (pos n) d p h = clash_ℤ (<_yes (pos n) (pos 0) h) (pos_≥0 n)
below_zero (negsuc n) d p h =
    ap₂ (λ (a b : ℤ). negsuc 0 -ℤ quot_z a b) (from_minus_one n) (sym (abs_of (<→≤ p))) ∙ minus_one_less (n / nat_abs d)

pub from_zero : (n d : ℤ) → pos 0 <ℤ d → lt_z n (pos 0) ≡ false → quot_z n d ≡ rounded_down n (nat_abs d)
unfolding rounded_down
from_zero (pos n) d p h = ap (λ (b : ℤ). quot_z (pos n) b) (sym (abs_of (<→≤ p)))
from_zero (negsuc n) d p h = clash refl h

-- ---- signs

module _ (area n : ℤ) where
  pub turned_yes : lt_z area (pos 0) ≡ true → neg_ℤ n ≡ turned area n
  unfolding turned
  turned_yes h = rw h

  pub turned_no : lt_z area (pos 0) ≡ false → n ≡ turned area n
  unfolding turned
  turned_no h = rw h

-- the area itself, made positive
pub turned_area : (k : ℤ) → turned k k ≡ pos (nat_abs k)
unfolding turned
turned_area k = test (lt_z k (pos 0)) (λ y. rw y (sym (abs_of_neg (<→≤ (<_yes k (pos 0) y))))) (λ m. rw m (sym (abs_of (<_no k (pos 0) m))))

-- ---- what the locals hold

-- a share: a cross times a height
pub one_share : (p q : Corner) {x y z e r : ℤ} → Within 65536 x → Within 65536 y → Within 65536 z → e ≡ beside p q (read x) (read y) → Within most_cross e → r ≡ read e *ℤ read z
    → r ≡ beside p q x y *ℤ z
one_share p q hx hy hz is small r =
    r ∙ ap₂ (λ (u v : ℤ). u *ℤ v) (read_is small tt ∙ is ∙ ap₂ (λ (u v : ℤ). beside p q u v) (read_is hx tt) (read_is hy tt)) (read_is hz tt)

module _ (a b c : Corner) where
  pub area_made : {e : ℤ} → Within 65536 c.x → Within 65536 c.y → e ≡ beside a b (read c.x) (read c.y) → Within most_cross e → read e ≡ area a b c
  unfolding area
  area_made hx hy is small = read_is small tt ∙ is ∙ ap₂ (λ (u v : ℤ). beside a b u v) (read_is hx tt) (read_is hy tt)

  pub lifted_made : {x y n : ℤ} → Within 65536 x → Within 65536 y → n ≡ lifted a b c (read x) (read y) → Within most_lifted n → read n ≡ lifted a b c x y
  lifted_made hx hy is small = read_is small tt ∙ is ∙ ap₂ (λ (u v : ℤ). lifted a b c u v) (read_is hx tt) (read_is hy tt)

  pub denominator_made : {k d : ℤ} → k ≡ area a b c → d ≡ turned k k → Within most_lifted d → read d ≡ pos (denominator a b c)
  unfolding denominator
  denominator_made ea is small = read_is small tt ∙ is ∙ ap (λ (u : ℤ). turned u u) ea ∙ turned_area (area a b c)

module _ (a b c : Corner) (x y : ℤ) where
  pub numerator_made : {k n t : ℤ} → k ≡ area a b c → n ≡ lifted a b c x y → t ≡ turned k n → Within most_lifted t → read t ≡ numerator a b c x y
  unfolding numerator
  numerator_made ea en is small = read_is small tt ∙ is ∙ ap₂ (λ (u v : ℤ). turned u v) ea en

  pub height_made : {t d r : ℤ} → t ≡ numerator a b c x y → d ≡ pos (denominator a b c) → r ≡ rounded_down t (nat_abs d) → r ≡ height_at a b c x y
  unfolding height_at
  height_made et ed is = is ∙ ap₂ (λ (u v : ℤ). rounded_down u (nat_abs v)) et ed
