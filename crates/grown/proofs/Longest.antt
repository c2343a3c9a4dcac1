-- The plane of a box: the axis of its longest side, the first on a tie; an infinite side counts as longest. Assumes nothing.
use Prim.Native.Nat.{ℕ, zero, suc, ◌+◌, ◌*◌, ◌-◌, ◌^◌, ◌<◌}
use native.Mathlib.Omega.{arith}
use mathlib.Core.Path.{◌≡◌, refl}
use mathlib.Core.Bool.{Bool, true, false, not, ◌&&◌, beq}
use lib.Dec.{ltb}
use lib.Ieee.{prec, Float, Format, low, emax, nan, inf, fin, up, down, le, lt, eq, neg, add, sub, sum, round, units, odd, is_nan, binary32}
use Rattle.verdict.proofs.Bools.{clash, test, and_true, true_and, and_false}
use Rattle.grid.specs.Grid.{finite}
use Rattle.grid.proofs.Order.{le_trans, le_finite}
use Rattle.boxes.specs.declared.Box.{Box}
use Rattle.planting.specs.Boxes.{longest, plane_for}
use Rattle.planting.specs.Sides.{Sides, Good}
use Rattle.grown.specs.Plain.{side_of, Longest}
use Rattle.planting.proofs.Ranges.{each_three}
use Rattle.planting.proofs.Order.{le_total}

-- ---- a difference of finite floats is a number, maybe an infinite one

odd_number : (d : ℕ) (s : Bool) (q k l : ℕ) → is_nan (odd d s q k l) ≡ false
unfolding odd is_nan
odd_number d s zero k l = refl
odd_number d s (suc q) k l = refl

units_number : (f : Format) (s : Bool) (q k : ℕ) → is_nan (units f s q k) ≡ false
unfolding units is_nan
units_number f s q k = test (ltb (q * 2 ^ k) (2 ^ (low f + suc (emax f)))) (λ y. rw y (odd_number (suc (prec f)) s q k (low f))) (λ y. rw y)

round_number : (f : Format) (s : Bool) (a b : ℕ) → is_nan (round f s a b) ≡ false
unfolding round
round_number f s a b = units_number f s _ _

sum_number : (f : Format) (s t : Bool) (a b c : ℕ) → is_nan (sum f s a t b c) ≡ false
unfolding sum
sum_number f s t a b c =
    test (beq s t) (λ y. rw y (round_number f s (a + b) c))
    (λ y. rw y (test (ltb a b) (λ z. rw z (round_number f t (b - a) c)) (λ z. rw z (round_number f (s && ltb b a) (a - b) c))))

pub sub_number : (x y : Float) → finite x ≡ true → finite y ≡ true → is_nan (sub binary32 x y) ≡ false
unfolding finite sub add neg
sub_number nan y f g = clash f refl
sub_number (inf s) y f g = clash f refl
sub_number (fin s m e) nan f g = clash g refl
sub_number (fin s m e) (inf t) f g = clash g refl
sub_number (fin s m e) (fin t n d) f g = sum_number binary32 s (not t) (m * up e * down d) (n * up d * down e) (down e * down d)

-- ---- the order of numbers, infinite ones too

number_total : (x y : Float) → is_nan x ≡ false → is_nan y ≡ false → le x y ≡ false → le y x ≡ true
unfolding is_nan le lt eq
number_total nan y f g h = clash refl f
number_total (inf s) nan f g h = clash refl g
number_total (inf true) (inf true) f g h = refl
number_total (inf true) (inf false) f g h = clash refl h
number_total (inf false) (inf true) f g h = refl
number_total (inf false) (inf false) f g h = refl
number_total (inf true) (fin t n d) f g h = clash refl h
number_total (inf false) (fin t n d) f g h = refl
number_total (fin s m e) nan f g h = clash refl g
number_total (fin s m e) (inf true) f g h = refl
number_total (fin s m e) (inf false) f g h = clash refl h
number_total (fin s m e) (fin t n d) f g h = le_total (fin s m e) (fin t n d) (unfold finite in refl) (unfold finite in refl) h

number_self : (x : Float) → is_nan x ≡ false → le x x ≡ true
unfolding is_nan
number_self nan f = clash refl f
number_self (inf true) f = unfold le lt eq in refl
number_self (inf false) f = unfold le lt eq in refl
number_self (fin s m e) f = le_finite (fin s m e) (unfold finite in refl)

-- ---- the longest of three

module _ (x y z : Float) (a : is_nan x ≡ false) (b : is_nan y ≡ false) (c : is_nan z ≡ false) where
  -- what the choice says, case by case
  pub data Choice : ℕ → Type 0 where
    first : le y x ≡ true → le z x ≡ true → Choice 1
    second : le x y ≡ true → le z y ≡ true → le y x ≡ false → Choice 2
    third : le x z ≡ true → le y z ≡ true → le z x ≡ false → le z y ≡ false → Choice 3

  choice : Choice (longest x y z)
  unfolding longest
  choice =
      test (le y x && le z x)
      (λ p. let q = and_true (le y x) (le z x) p in rw p (first q.0 q.1))
      (λ p. rw p (test (le z y)
      (λ q. rw q (let n = not_first p q in second (number_total y x b a n) q n))
      (λ q. rw q (let n = not_either p q in third (number_total z x c a n) (number_total z y c b q) n q))))
    where
      not_first : (le y x && le z x) ≡ false → le z y ≡ true → le y x ≡ false
      not_first p q = test (le y x) (λ r. clash (le_trans z y x q r) (and_false (le y x) (le z x) p r)) (λ r. r)

      not_either : (le y x && le z x) ≡ false → le z y ≡ false → le z x ≡ false
      not_either p q = test (le z x) (λ r. clash (true_and (le y x) (le z x) (le_trans y z x (number_total z y c b q) r) r) p) (λ r. r)

below_two : (P : ℕ → Type 0) → P 0 → P 1 → (i : ℕ) → i < 2 → P i
below_two P x y zero l = x
below_two P x y (suc zero) l = y
below_two P x y (suc (suc i)) l = absurd (omega arith)

below_one : (P : ℕ → Type 0) → P 0 → (i : ℕ) → i < 1 → P i
below_one P x zero l = x
below_one P x (suc i) l = absurd (omega arith)

module _ (b : Box) (s : Sides Good b) where
  number : (c : ℕ) → c < 3 → is_nan (side_of b c) ≡ false
  number = each_three (λ (c : ℕ). is_nan (side_of b c) ≡ false)
      (sub_number _ _ s.greatest_x.finite s.least_x.finite) (sub_number _ _ s.greatest_y.finite s.least_y.finite) (sub_number _ _ s.greatest_z.finite s.least_z.finite)

  abbrev Side : ℕ → ℕ → Type 0
  Side a c = le (side_of b c) (side_of b a) ≡ true

  abbrev Shorter : ℕ → ℕ → Type 0
  Shorter a c = le (side_of b a) (side_of b c) ≡ false

  self : (c : ℕ) → c < 3 → Side c c
  self c l = number_self (side_of b c) (number c l)

  of_choice : (n : ℕ) → Choice (side_of b 0) (side_of b 1) (side_of b 2) (number 0 (omega arith)) (number 1 (omega arith)) (number 2 (omega arith)) n → Longest b n
  of_choice n (first p q) = record {
    axis = 0;
    three = omega arith;
    here = refl;
    most = each_three (Side 0) (self 0 (omega arith)) p q;
    first = λ c l. absurd (omega arith);
  }
  of_choice n (second p q r) = record {
    axis = 1;
    three = omega arith;
    here = refl;
    most = each_three (Side 1) p (self 1 (omega arith)) q;
    first = below_one (Shorter 1) r;
  }
  of_choice n (third p q r t) = record {
    axis = 2;
    three = omega arith;
    here = refl;
    most = each_three (Side 2) p q (self 2 (omega arith));
    first = below_two (Shorter 2) r t;
  }

  pub plane_longest : Longest b (plane_for b)
  unfolding plane_for
  plane_longest = of_choice (plane_for b) (choice (side_of b 0) (side_of b 1) (side_of b 2) _ _ _)
