-- The order of floats: of two finite ones one is at most the other; the lesser and the greater; zero's two signs. Assumes nothing.
use Prim.Native.Nat.{ℕ, ◌*◌, ◌<◌}
use native.Mathlib.Omega.{arith}
use mathlib.Core.Path.{◌≡◌, refl, sym, ◌∙◌}
use mathlib.Core.Bool.{true, false}
use lib.Dec.{eqb}
use lib.IntN.{ℤ, pos, negsuc}
use lib.Signed.{le_z}
use lib.Ieee.{Float, nan, inf, fin, up, down, le, eq, binary32, of_bits, to_bits}
use lib.Ieee.Bits.{to_bits-of_bits}
use borrow.Author.Tests.{eqb-true, eq-eqb, leb-false, le-leb}
use Rattle.verdict.proofs.Bools.{clash, test}
use Rattle.grid.specs.Grid.{finite, plain, signed}
use Rattle.grid.proofs.Grid.{finite_number}
use Rattle.grid.proofs.Order.{le_real, le_finite}
use Rattle.grid.proofs.Equal.{eq_self, eq_sym, eq_le}
use Rattle.planting.specs.Boxes.{lesser, greater}

-- ---- total

le_z_total : (y z : ℤ) → le_z y z ≡ false → le_z z y ≡ true
le_z_total (pos a) (pos b) h = le-leb b a (let l = leb-false a b h in omega arith)
le_z_total (pos a) (negsuc b) h = refl
le_z_total (negsuc a) (pos b) h = clash refl h
le_z_total (negsuc a) (negsuc b) h = le-leb a b (let l = leb-false b a h in omega arith)

pub le_total : (x y : Float) → finite x ≡ true → finite y ≡ true → le x y ≡ false → le y x ≡ true
unfolding finite
le_total nan y f g h = clash f refl
le_total (inf s) y f g h = clash f refl
le_total (fin s m e) nan f g h = clash g refl
le_total (fin s m e) (inf t) f g h = clash g refl
le_total (fin s m e) (fin t n d) f g h =
    le_real t s n m d e ∙ le_z_total (signed s (m * up e * down d)) (signed t (n * up d * down e)) (sym (le_real s t m n e d) ∙ h)

-- ---- the lesser and the greater: one of the two, and at most, at least, each

module _ (x y : Float) where
  pub lesser_one : (P : Float → Type 0) → P x → P y → P (lesser x y)
  unfolding lesser
  lesser_one P a b = test (le x y) (λ t. rw t a) (λ t. rw t b)

  pub greater_one : (P : Float → Type 0) → P x → P y → P (greater x y)
  unfolding greater
  greater_one P a b = test (le x y) (λ t. rw t b) (λ t. rw t a)

  module _ (f : finite x ≡ true) (g : finite y ≡ true) where
    pub lesser_first : le (lesser x y) x ≡ true
    unfolding lesser
    lesser_first = test (le x y) (λ t. rw t (le_finite x f)) (λ t. rw t (le_total x y f g t))

    pub lesser_second : le (lesser x y) y ≡ true
    unfolding lesser
    lesser_second = test (le x y) (λ t. rw t t) (λ t. rw t (le_finite y g))

    pub greater_first : le x (greater x y) ≡ true
    unfolding greater
    greater_first = test (le x y) (λ t. rw t t) (λ t. rw t (le_finite x f))

    pub greater_second : le y (greater x y) ≡ true
    unfolding greater
    greater_second = test (le x y) (λ t. rw t (le_finite y g)) (λ t. rw t (le_total x y f g t))

-- ---- zero written plain: the word of a finite float, with zero's for minus zero's

module _ (w : ℕ) where
  -- a property of the float that zero has too
  plain_one : (P : Float → Type 0) → P (of_bits binary32 w) → P (of_bits binary32 0) → P (of_bits binary32 (plain w))
  unfolding plain
  plain_one P a b = test (eqb w 2147483648) (λ t. rw t b) (λ t. rw t a)

  module _ (f : finite (of_bits binary32 w) ≡ true) where
    pub plain_finite : finite (of_bits binary32 (plain w)) ≡ true
    plain_finite = plain_one (λ y. finite y ≡ true) f (unfold of_bits finite in refl)

    -- by comparison it is the float itself
    pub plain_same : eq (of_bits binary32 (plain w)) (of_bits binary32 w) ≡ true
    unfolding plain
    plain_same =
        test (eqb w 2147483648) (λ t. let e = eqb-true w 2147483648 t in rw e (unfold of_bits eq in refl)) (λ t. rw t (eq_self _ f))

    pub plain_under : le (of_bits binary32 (plain w)) (of_bits binary32 w) ≡ true
    plain_under = eq_le _ _ plain_same

    pub plain_over : le (of_bits binary32 w) (of_bits binary32 (plain w)) ≡ true
    plain_over = eq_le _ _ (eq_sym (plain w) w plain_finite f plain_same)

    -- and it is not negative zero
    pub plain_bits : w < 4294967296 → to_bits binary32 (of_bits binary32 (plain w)) ≡ 2147483648 → ⊥
    unfolding plain
    plain_bits l e =
        test (eqb w 2147483648) (λ t. let z : ◌≡◌ {A = ℕ} 0 2147483648 = unfold of_bits to_bits in (rw t at e) in omega arith)
        (λ t. clash (eq-eqb w 2147483648 (sym (to_bits-of_bits binary32 w l (finite_number (of_bits binary32 w) f)) ∙ (rw t at e))) t)
