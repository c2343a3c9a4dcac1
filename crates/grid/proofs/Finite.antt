-- A pattern is finite exactly where it is, its sign taken off, below the infinity's. Assumes nothing.
use mathlib.Core.Path.{◌≡◌, refl, sym, ap, ◌∙◌, subst}
use mathlib.Core.Logic.{◌⊎◌, inl, inr}
use Prim.Native.Nat.{ℕ, zero, suc, ◌+◌, ◌%◌, ◌≤◌, ◌<◌}
use native.Mathlib.Omega.{arith}
use mathlib.Core.Bool.{Bool, true, false, not, cond}
use lib.Dec.{T, leb, ltb, eqb}
use lib.Ieee.{nan, inf, binary32, odd, of_fields, of_bits, nan_bits}
use lib.Ieee.Bits.{nan_bits_is}
use borrow.Author.Tests.{lt-ltb, le-ltb, eq-eqb, ne_eqb}
use Rattle.grid.specs.Grid.{finite}
use Rattle.grid.proofs.Patterns.{expo, of_bits_is}
use Rattle.grid.proofs.Fractions.{lt_or_le}
use Rattle.grid.proofs.Grid.{finite_number}

odd_finite : (d : ℕ) (s : Bool) (q k l : ℕ) → finite (odd d s q k l) ≡ true
unfolding odd finite
odd_finite d s zero k l = refl
odd_finite d s (suc q) k l = refl

fields : (s : Bool) (E t : ℕ) → finite (of_fields binary32 s E t) ≡ not (eqb E 255)
unfolding of_fields finite
fields s zero t = odd_finite 24 s t 0 149
fields s (suc x) t = go (eqb (suc x) 255)
  where
    top : (b : Bool) → finite (cond b (inf s) nan) ≡ false
    top true = refl
    top false = refl

    go : (b : Bool) → finite (cond b (cond (eqb t 0) (inf s) nan) (odd 24 s (8388608 + t) x 149)) ≡ not b
    go true = top (eqb t 0)
    go false = odd_finite 24 s (8388608 + t) x 149

pub finite_bits : (b : ℕ) → finite (of_bits binary32 b) ≡ ltb (b % 2147483648) 2139095040
finite_bits b = ap finite (of_bits_is b) ∙ fields (leb 2147483648 b) (expo b) (b % 8388608) ∙ go (lt_or_le (b % 2147483648) 2139095040)
  where
    under : (b : ℕ) → b % 2147483648 < 2139095040 → expo b ≡ 255 → ⊥
    under b h e = omega arith

    over : (b : ℕ) → 2139095040 ≤ b % 2147483648 → expo b ≡ 255
    over b h = omega arith

    go : (b % 2147483648 < 2139095040) ⊎ (2139095040 ≤ b % 2147483648) → not (eqb (expo b) 255) ≡ ltb (b % 2147483648) 2139095040
    go (inl l) = simp (ne_eqb (expo b) 255 (under b l), lt-ltb (b % 2147483648) 2139095040 l)
    go (inr l) = simp (eq-eqb (expo b) 255 (over b l), le-ltb (b % 2147483648) 2139095040 l)

-- so it is no NaN, and may be made a float
pub finite_no_nan : (b : ℕ) → finite (of_bits binary32 b) ≡ true → T (not (nan_bits binary32 b))
finite_no_nan b h = subst (λ (t : Bool). T (not t)) (sym (nan_bits_is binary32 b)) (finite_number (of_bits binary32 b) h)
