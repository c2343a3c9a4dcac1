-- Lower case: a byte, and all bytes of a name. Assumes nothing.
use mathlib.Core.Path.{◌≡◌, refl}
use mathlib.Core.Bool.{Bool, true, false, ◌||◌}
use mathlib.Core.List.{List, [], ◌∷◌}
use Prim.Native.Nat.{ℕ, zero, suc, ◌+◌, ◌≤◌}
use native.Mathlib.Omega.{arith}
use lib.Dec.{leb}
use lib.ListN.{length, get_or, length-map}
use borrow.Author.Tests.{leb-true, le-leb, lt-leb}
use Rattle.verdict.proofs.Bools.{test, and_true, true_and, and_no}
use Rattle.letters.specs.Class.{within, class_of, name_byte}
use Rattle.letters.specs.Case.{lower, lowered}

lower_nought : 0 ≡ lower 0
unfolding lower
lower_nought = refl

-- a capital letter is none when it has become small
capital : (b : ℕ) → within 65 90 b ≡ true → (within 97 122 (b + 32) ≡ true) × (within 65 90 (b + 32) ≡ false)
capital b e =
    let h = and_true (leb 65 b) (leb b 90) e in
    let l : 65 ≤ b = leb-true 65 b h.0 in
    let m : b ≤ 90 = leb-true b 90 h.1 in (
      true_and (leb 97 (b + 32)) (leb (b + 32) 122) (le-leb 97 (b + 32) (omega arith)) (le-leb (b + 32) 122 (omega arith)),
      rw (lt-leb (b + 32) 90 (omega arith)) (and_no (leb 65 (b + 32))),
    )

pub lower_again : (b : ℕ) → lower (lower b) ≡ lower b
unfolding lower
lower_again b = test (within 65 90 b) (λ e. rw (e, (capital b e).1)) (λ e. rw (e, e))

pub name_lower : (b : ℕ) → name_byte b ≡ true → name_byte (lower b) ≡ true
unfolding lower name_byte class_of
name_lower b h = test (within 65 90 b) (λ e. rw (e, (capital b e).0)) (λ e. rw e h)

-- and back
pub name_raised : (b : ℕ) → name_byte (lower b) ≡ true → name_byte b ≡ true
unfolding lower name_byte class_of
name_raised b h = test (within 65 90 b) (λ e. rw (e, or_yes (within 97 122 b))) (λ e. rw e at h)
  where
    or_yes : (t : Bool) → (t || true) ≡ true
    or_yes true = refl
    or_yes false = refl

pub length_lowered : (w : List ℕ) → length (lowered w) ≡ length w
unfolding lowered
length_lowered w = length-map w lower

pub lowered_at : (w : List ℕ) (i : ℕ) → get_or (lowered w) i 0 ≡ lower (get_or w i 0)
unfolding lowered
lowered_at [] i = lower_nought
lowered_at (b ∷ w) zero = refl
lowered_at (b ∷ w) (suc i) = lowered_at w i

pub lowered_again : (w : List ℕ) → lowered (lowered w) ≡ lowered w
unfolding lowered
lowered_again [] = refl
lowered_again (b ∷ w) = rw (lower_again b, lowered_again w)
