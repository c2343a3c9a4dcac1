-- A number is written with the digits that were typed behind its point, and byte for byte as typed where nothing needless was (M-104). Assumes nothing.
use mathlib.Core.Path.{◌≡◌, refl, sym, ap, ◌∙◌}
use mathlib.Core.Bool.{true, not, ◌&&◌}
use mathlib.Core.List.{List, [], ◌∷◌, ◌++◌}
use Prim.Native.Nat.{ℕ, zero, suc, ◌+◌, ◌-◌, ◌*◌, ◌/◌, ◌%◌, ◌^◌, ◌≤◌, ◌<◌}
use native.Mathlib.Nat.{mul-div_cancel, mul-le-mul_right, mul-lt-mul_of_pos_right, one-mul, pow-suc, zero-add}
use native.Mathlib.Omega.{arith}
use lib.Arith.{digits_mod}
use lib.Dec.{eqb}
use lib.ListN.{length, get_or, take}
use lib.Pow.{pow-add}
use lib.Seq.{take-suc, take_all}
use borrow.Author.Tests.{lt-ltb, le-ltb}
use Rattle.letters.specs.Class.{is_digit}
use Rattle.text.specs.Scan.{run}
use Rattle.text.proofs.RunLaws.{run_le, run_at, run_of, all_first}
use Rattle.number.specs.Count.{value}
use Rattle.number.specs.Number.{number_of, some, sign, plain, width, pointed, fixed, fraction, printed, Decimal, NoNeedlessZero, millionths_of}
use Rattle.number.proofs.DigitLaws.{digit_range, value_snoc, small, pow_pos_of, length_fixed, width_is}
use Rattle.number.proofs.NumberTrip.{fixed_run, fixed_value, part, fraction_pointed, signed}
use Rattle.number.proofs.DecimalLaws.{decimal_read}

-- ---- behind the point

-- so many digits of what digits say are the digits
first_digits : (s : List ℕ) (i : ℕ) → i ≤ run is_digit s → fixed i (value 0 (take i s)) ≡ take i s
unfolding fixed
first_digits s zero h = refl
first_digits s (suc i) h =
    let b = get_or s i 0 in
    let v = value 0 (take i s) in
    let r = digit_range b (run_at is_digit s i h) in
    let q : (v * 10 + (b - 48)) / 10 ≡ v = omega arith in
    let m : 48 + (v * 10 + (b - 48)) % 10 ≡ b = omega arith in
    rw (take-suc s i 0 (omega (arith, run_le is_digit s)), value_snoc 0 (take i s) b, q, m, first_digits s i (omega arith))

module _ (fs : List ℕ) (all : run is_digit fs ≡ length fs) where
  pub digits_again : fixed (length fs) (value 0 fs) ≡ fs
  digits_again = rw (take_all (length fs) fs (omega arith)) at (first_digits fs (length fs) (omega (arith, all)))

  said_small : value 0 fs < 10 ^ length fs
  said_small = rw (take_all (length fs) fs (omega arith), one-mul (10 ^ length fs)) at (small fs (length fs) 0 (omega (arith, all)))

module _ (ds fs : List ℕ) (six : length fs ≤ 6) (behind : run is_digit fs ≡ length fs) where
  below_one : value 0 fs * 10 ^ (6 - length fs) < 1000000
  below_one =
      let k : length fs + (6 - length fs) ≡ 6 = omega arith in
      let d : 10 ^ length fs * 10 ^ (6 - length fs) ≡ 1000000 = sym (pow-add 10 (length fs) (6 - length fs)) ∙ ap (λ (j : ℕ). 10 ^ j) k in
      rw d at (mul-lt-mul_of_pos_right (said_small fs behind) (pow_pos_of 10 (6 - length fs) (omega arith)))

  whole_typed : millionths_of ds fs / 1000000 ≡ value 0 ds
  unfolding millionths_of
  whole_typed = omega (arith, below_one)

  part_typed : part (millionths_of ds fs) (length fs) ≡ value 0 fs
  unfolding millionths_of
  part_typed = rw (digits_mod (value 0 ds) below_one) (mul-div_cancel (value 0 fs) (pow_pos_of 10 (6 - length fs) (omega arith)))

  fraction_typed : fraction (length fs) (millionths_of ds fs) ≡ pointed fs
  fraction_typed = fraction_pointed (length fs) (millionths_of ds fs) ∙ rw (part_typed, digits_again fs behind)

-- ---- the whole number

-- the minus, but not of zero; the digits before the point without needless zeros; the point and the digits behind it as they were typed
pub written_typed : (w : List ℕ) (d : Decimal w) → printed (number_of w) ≡ sign (not (eqb (millionths_of d.whole d.behind) 0) && d.minus) ++ (plain (value 0 d.whole) ++ pointed d.behind)
unfolding printed some
written_typed w d =
    let b = run_of is_digit d.behind d.digits_behind in
    rw (decimal_read w d, whole_typed d.whole d.behind d.six b, fraction_typed d.whole d.behind d.six b)

-- ---- byte for byte

-- digits behind n say at least n with so many zeros
value_least : (n : ℕ) (s : List ℕ) → n * 10 ^ length s ≤ value n s
unfolding value
value_least n [] = omega arith
value_least n (b ∷ s) =
    let i : (n * 10 + (b - 48)) * 10 ^ length s ≤ value (n * 10 + (b - 48)) s = value_least (n * 10 + (b - 48)) s in
    let m : (n * 10) * 10 ^ length s ≤ (n * 10 + (b - 48)) * 10 ^ length s = mul-le-mul_right (10 ^ length s) (omega arith) in
    rw (pow-suc 10 (length s)) (omega arith)

-- the first digit
value_front : (d : ℕ) (ds : List ℕ) → (d - 48) * 10 ^ length ds ≤ value 0 (d ∷ ds)
unfolding value
value_front d ds = rw (zero-add (d - 48)) (value_least (d - 48) ds)

-- a number has as many digits as its powers of ten say
width_exact : (v n : ℕ) → n < 5 → v < 10 ^ suc n → ((n ≡ 0 → ⊥) → 10 ^ n ≤ v) → width v ≡ suc n
unfolding width
width_exact v zero h u l = rw (lt-ltb v 10 u)
width_exact v (suc zero) h u l = let k = l (omega arith) in rw (le-ltb v 10 k, lt-ltb v 100 u)
width_exact v (suc (suc zero)) h u l = let k = l (omega arith) in rw (le-ltb v 10 (omega arith), le-ltb v 100 k, lt-ltb v 1000 u)
width_exact v (suc (suc (suc zero))) h u l = let k = l (omega arith) in rw (le-ltb v 10 (omega arith), le-ltb v 100 (omega arith), le-ltb v 1000 k, lt-ltb v 10000 u)
width_exact v (suc (suc (suc (suc zero)))) h u l = let k = l (omega arith) in rw (le-ltb v 10 (omega arith), le-ltb v 100 (omega arith), le-ltb v 1000 (omega arith), le-ltb v 10000 k)
width_exact v (suc (suc (suc (suc (suc n))))) h u l = absurd (omega arith)

plain_again : (ds : List ℕ) → run is_digit ds ≡ length ds → 1 ≤ length ds → length ds ≤ 5 → NoNeedlessZero ds → plain (value 0 ds) ≡ ds
unfolding plain
plain_again [] all one five none = absurd (omega arith)
plain_again (d ∷ ds) all one five none =
    let r = digit_range d (run_at is_digit (d ∷ ds) 0 (omega (arith, all))) in
    let least : (length ds ≡ 0 → ⊥) → 10 ^ length ds ≤ value 0 (d ∷ ds) = λ (many : length ds ≡ 0 → ⊥).
    let front : d ≡ 48 → ⊥ = none (λ k. many (omega arith)) in
    let one-ten : 1 * 10 ^ length ds ≤ (d - 48) * 10 ^ length ds = mul-le-mul_right (10 ^ length ds) (omega (arith, front)) in
    omega (arith, one-ten, value_front d ds) in
    rw (width_exact (value 0 (d ∷ ds)) (length ds) (omega arith) (said_small (d ∷ ds) all) least) (digits_again (d ∷ ds) all)

-- a number is never written with a needless zero
pub plain_needless : (v : ℕ) → v < 100000 → NoNeedlessZero (plain v)
unfolding plain value
plain_needless v h = go (fixed (width v) v) (length_fixed (width v) v) (fixed_run (width v) v) (fixed_value (width v) v ((width_is v).holds h))
  where
    go : (ds : List ℕ) → length ds ≡ width v → run is_digit ds ≡ width v → value 0 ds ≡ v → NoNeedlessZero ds
    go [] l r e many front = absurd (omega (arith, (width_is v).some))
    go (d ∷ ds) l r e many front =
        let tail = (all_first is_digit d ds (r ∙ sym l)).1 in
        let least : 10 ^ (width v - 1) ≤ v = (width_is v).least (λ k. many (l ∙ k)) in
        let n : width v - 1 ≡ length ds = omega arith in
        let z : value 0 ds ≡ v = rw front at e in
        absurd (omega (arith, said_small ds tail, rw n at least))

-- a number without needless zeros in front, and that is not minus zero, is written byte for byte as it was typed
pub typed_kept : (w : List ℕ) (d : Decimal w) → NoNeedlessZero d.whole → (d.minus ≡ true → millionths_of d.whole d.behind ≡ 0 → ⊥) → printed (number_of w) ≡ w
typed_kept w d none minus =
    written_typed w d
    ∙ rw (signed d.minus (millionths_of d.whole d.behind) minus, plain_again d.whole (run_of is_digit d.whole d.digits) d.some d.five none)
    (sym d.spelled)
