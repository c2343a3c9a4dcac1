-- What digits say. Assumes nothing.
use mathlib.Core.Path.{◌≡◌, refl, sym, ap, ◌∙◌}
use mathlib.Core.Bool.{Bool, true, false, cond, ◌||◌}
use mathlib.Core.List.{List, [], ◌∷◌, ◌++◌}
use Prim.Native.Nat.{ℕ, zero, suc, ◌+◌, ◌-◌, ◌*◌, ◌/◌, ◌%◌, ◌^◌, ◌≤◌, ◌<◌}
use native.Mathlib.Nat.{le_of_suc-le-suc, not-suc-le-zero, pow-le-pow_right, mul-le-mul_right, pow-suc, pow-zero, one-mul, le_refl, mul-lt-mul_of_pos_right, mul-pos}
use lib.Pow.{pow-add}
use native.Mathlib.Numerals.{add-one}
use native.Mathlib.Omega.{arith}
use lib.Dec.{eqb, leb, ltb}
use lib.ListN.{length, get_or, take, drop, length-append}
use lib.Seq.{take-suc, length-take-le}
use borrow.Author.Tests.{leb-true, ltb-true, ltb-false, lt-ltb}
use Rattle.number.specs.declared.Num.{Num}
use Rattle.letters.specs.Class.{class_of, is_digit, within}
use Rattle.text.specs.Scan.{run}
use Rattle.number.specs.Count.{value}
use Rattle.number.specs.Number.{count, says, fixed, width, plain, fraction, sign, printed}
use Rattle.verdict.specs.Lowest.{lowest, any_under, all_under}
use Rattle.verdict.proofs.Lowest.{all_true}
use Rattle.verdict.proofs.Bools.{and_true, clash}
use Rattle.text.proofs.RunLaws.{run_nil, run_cons_on, run_cons_off, run_le, run_at, run_take}

-- a test that passes at each of the ten digits, by computing it
pub digits_all : (p : ℕ → Bool) → all_under 10 (λ k. p (48 + k)) ≡ true → (d : ℕ) → d < 10 → p (48 + d) ≡ true
digits_all p t d h = all_true (λ k. p (48 + k)) 10 t d h

pub digit_byte : (d : ℕ) → d < 10 → is_digit (48 + d) ≡ true
unfolding is_digit class_of all_under any_under lowest
digit_byte = digits_all is_digit refl

later : (u m p k e r : Bool) → eqb (cond u 3 (cond m 4 (cond p 5 (cond k 6 (cond e 7 (cond r 8 0)))))) 2 ≡ false
later true m p k e r = refl
later false true p k e r = refl
later false false true k e r = refl
later false false false true e r = refl
later false false false false true r = refl
later false false false false false true = refl
later false false false false false false = refl

second : (l d : Bool) (r : ℕ) → eqb r 2 ≡ false → eqb (cond l 1 (cond d 2 r)) 2 ≡ true → d ≡ true
second true d r n e = clash e refl
second false true r n e = refl
second false false r n e = clash e n

pub digit_range : (b : ℕ) → is_digit b ≡ true → (48 ≤ b) × (b ≤ 57)
unfolding is_digit class_of
digit_range b e =
    let w : within 48 57 b ≡ true = second (within 97 122 b || within 65 90 b) (within 48 57 b) _ (later (eqb b 95) (eqb b 45) (eqb b 46) (eqb b 32 || eqb b 9) (eqb b 10) (eqb b 13)) e in
    let (l, r) = and_true (leb 48 b) (leb b 57) w in
    (leb-true 48 b l, leb-true b 57 r)

pub value_snoc : (n : ℕ) (xs : List ℕ) (d : ℕ) → value n (xs ++ (d ∷ [])) ≡ value n xs * 10 + (d - 48)
unfolding value
value_snoc n [] d = refl
value_snoc n (x ∷ xs) d = value_snoc (n * 10 + (x - 48)) xs d

-- digits say less than a power of ten
pub small : (s : List ℕ) (i n : ℕ) → i ≤ run is_digit s → value n (take i s) < suc n * 10 ^ i
unfolding value
small [] zero n h = omega arith
small [] (suc i) n h = absurd (not-suc-le-zero (rw (run_nil is_digit) at h))
small (b ∷ s) zero n h = omega arith
small (b ∷ s) (suc i) n h = go (is_digit b) refl (small s i (n * 10 + (b - 48)))
  where
    go : (t : Bool) → is_digit b ≡ t → (i ≤ run is_digit s → value (n * 10 + (b - 48)) (take i s) < suc (n * 10 + (b - 48)) * 10 ^ i) → value (n * 10 + (b - 48)) (take i s) < suc n * 10 ^ suc i
    go true e k =
        let r = digit_range b e in
        let x = k (le_of_suc-le-suc (rw (run_cons_on is_digit b s e) at h)) in
        let y : suc (n * 10 + (b - 48)) * 10 ^ i ≤ (suc n * 10) * 10 ^ i = mul-le-mul_right (10 ^ i) (omega arith) in
        rw (pow-suc 10 i) (omega arith)
    go false e k = absurd (not-suc-le-zero (rw (run_cons_off is_digit b s e) at h))

-- digits read one after the other
module _ (w s : List ℕ) (from n : ℕ) (es : s ≡ drop from w) (en : n ≡ count w from) where
  pub said_long : length (take n s) ≡ n
  unfolding count
  said_long = rw (es, en) (length-take-le _ (drop from w) (run_le is_digit (drop from w)))

  digits_alone : run is_digit (take n s) ≡ length (take n s)
  unfolding count
  digits_alone = rw (es, en) (run_take is_digit (drop from w))

  module _ (six : n ≤ 6) (i : ℕ) (h : i < length (take n s)) where
    pub said_digit : (48 ≤ get_or (take n s) i 0) × (get_or (take n s) i 0 ≤ 57)
    said_digit = digit_range _ (run_at is_digit (take n s) i (omega (arith, digits_alone)))

    pub said_small : value 0 (take i (take n s)) < 1000000
    said_small =
        let a = small (take n s) i 0 (omega (arith, digits_alone)) in
        let b : 10 ^ i ≤ 10 ^ 6 = pow-le-pow_right {n = 10} (omega arith) {i = i} {j = 6} (omega (arith, said_long)) in
        omega arith

    pub said_more : value 0 (take (i + 1) (take n s)) ≡ value 0 (take i (take n s)) * 10 + (get_or (take n s) i 0 - 48)
    said_more = rw (add-one, take-suc (take n s) i 0 h, value_snoc)

pub pow_pos_of : (n k : ℕ) → 0 < n → 0 < n ^ k
pow_pos_of n zero h = rw (pow-zero n) (omega arith)
pow_pos_of n (suc k) h = rw (pow-suc n k) (mul-pos (pow_pos_of n k h) h)

-- so many digits say less than that power of ten
pub says_small : (w : List ℕ) (from : ℕ) → says w from < 10 ^ count w from
unfolding says count
says_small w from = rw (one-mul (10 ^ run is_digit (drop from w))) at (small (drop from w) (run is_digit (drop from w)) 0 (le_refl _))

-- digits after the point are less than one
pub fraction_small : (w : List ℕ) (from m : ℕ) → m ≡ count w from → m ≤ 6 → says w from * 10 ^ (6 - m) < 1000000
fraction_small w from m e h =
    let a : says w from < 10 ^ m = rw e (says_small w from) in
    let b : says w from * 10 ^ (6 - m) < 10 ^ m * 10 ^ (6 - m) = mul-lt-mul_of_pos_right a (pow_pos_of 10 (6 - m) (omega arith)) in
    let k : m + (6 - m) ≡ 6 = omega arith in
    let d : 10 ^ m * 10 ^ (6 - m) ≡ 10 ^ 6 = sym (pow-add 10 m (6 - m)) ∙ ap (λ (j : ℕ). 10 ^ j) k in
    omega arith

pub whole_small : (w : List ℕ) (from n : ℕ) → n ≡ count w from → n ≤ 5 → says w from < 100000
whole_small w from n e h =
    let a : says w from < 10 ^ n = rw e (says_small w from) in
    let b : 10 ^ n ≤ 10 ^ 5 = pow-le-pow_right {n = 10} (omega arith) {i = n} {j = 5} h in
    omega arith

pub fixed_pos : (k v : ℕ) → (k ≡ 0 → ⊥) → fixed k v ≡ fixed (k - 1) (v / 10) ++ ((48 + v % 10) ∷ [])
unfolding fixed
fixed_pos zero v h = absurd (h refl)
fixed_pos (suc k) v h =
    let e : suc k - 1 ≡ k = omega arith in
    rw e

pub length_fixed : (k v : ℕ) → length (fixed k v) ≡ k
unfolding fixed
length_fixed zero v = refl
length_fixed (suc k) v = omega (arith, length-append (fixed k (v / 10)) ((48 + v % 10) ∷ []), length_fixed k (v / 10))

pub fraction_pos : (p v : ℕ) → (p ≡ 0 → ⊥) → fraction p v ≡ 46 ∷ fixed p (v % 1000000 / 10 ^ (6 - p))
unfolding fraction
fraction_pos zero v h = absurd (h refl)
fraction_pos (suc p) v h = refl

-- a width is 1 to 5, a number below 100,000 has no more digits than that, and no number of several digits has fewer
pub record Wide (v n : ℕ) : Type 0 where
  pub some : 1 ≤ n
  pub few : n ≤ 5
  pub holds : v < 100000 → v < 10 ^ n
  pub least : (n ≡ 1 → ⊥) → 10 ^ (n - 1) ≤ v

pub width_is : (v : ℕ) → Wide v (width v)
unfolding width
width_is v = go (ltb v 10) (ltb v 100) (ltb v 1000) (ltb v 10000) refl refl refl refl
  where
    go : (a b c d : Bool) → ltb v 10 ≡ a → ltb v 100 ≡ b → ltb v 1000 ≡ c → ltb v 10000 ≡ d → Wide v (cond a 1 (cond b 2 (cond c 3 (cond d 4 5))))
    go true b c d p q r s = let k = ltb-true v 10 p in record { some = omega arith; few = omega arith; holds = λ _. k; least = λ n. absurd (n refl) }
    go false true c d p q r s = let k = ltb-true v 100 q in record { some = omega arith; few = omega arith; holds = λ _. k; least = λ _. ltb-false v 10 p }
    go false false true d p q r s = let k = ltb-true v 1000 r in record { some = omega arith; few = omega arith; holds = λ _. k; least = λ _. ltb-false v 100 q }
    go false false false true p q r s = let k = ltb-true v 10000 s in record { some = omega arith; few = omega arith; holds = λ _. k; least = λ _. ltb-false v 1000 r }
    go false false false false p q r s = record { some = omega arith; few = omega arith; holds = λ k. k; least = λ _. ltb-false v 10000 s }

-- a number below 100 has at most two digits
pub width_two : (v : ℕ) → v < 100 → width v ≤ 2
unfolding width
width_two v h = rw (lt-ltb v 100 h) (go (ltb v 10))
  where
    go : (t : Bool) → cond t 1 2 ≤ 2
    go true = omega arith
    go false = omega arith

pub length_sign : (t : Bool) → length (sign t) ≤ 1
length_sign true = omega arith
length_sign false = omega arith

pub length_plain : (v : ℕ) → length (plain v) ≡ width v
unfolding plain
length_plain v = length_fixed (width v) v

-- how long what is printed can be
pub plain_short : (v : ℕ) → length (plain v) ≤ 5
plain_short v = omega (arith, length_plain v, (width_is v).few)

pub fraction_short : (p v : ℕ) → p ≤ 6 → length (fraction p v) ≤ 7
unfolding fraction
fraction_short zero v h = omega arith
fraction_short (suc p) v h = omega (arith, length_fixed (suc p) (v % 1000000 / 10 ^ (6 - suc p)))

pub printed_short : (x : Num) → x.places ≤ 6 → length (printed x) ≤ 13
unfolding printed
printed_short x h =
    let v = x.millionths / 1000000 in
    let f = fraction x.places x.millionths in
    omega (arith, length-append (sign x.neg) (plain v ++ f), length-append (plain v) f, length_sign x.neg, plain_short v, fraction_short x.places x.millionths h)
