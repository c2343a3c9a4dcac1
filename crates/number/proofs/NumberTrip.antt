-- What is printed is read as what was printed. Assumes nothing.
use mathlib.Core.Path.{◌≡◌, refl, sym, ap, ◌∙◌}
use mathlib.Core.Bool.{Bool, true, false, not, ◌&&◌, and-false}
use mathlib.Core.List.{List, [], ◌∷◌}
use Prim.Native.Nat.{ℕ, zero, suc, ◌+◌, ◌-◌, ◌*◌, ◌/◌, ◌%◌, ◌^◌, ◌≤◌, ◌<◌}
use native.Mathlib.Nat.{pow-suc, div-add-mod', div-lt_iff_lt-mul, mul-mod_left}
use native.Mathlib.Omega.{arith}
use lib.Arith.{digits_mod}
use lib.Dec.{eqb}
use lib.ListN.{length, get_or}
use lib.Pow.{pow-add}
use borrow.Author.Tests.{eq-eqb, ne_eqb}
use Rattle.verdict.proofs.Bools.{clash, test}
use Rattle.number.specs.declared.Num.{Num}
use Rattle.letters.specs.Class.{is_digit}
use Rattle.text.specs.Scan.{run}
use Rattle.number.specs.Count.{value}
use Rattle.number.specs.Number.{count, says, minus, right, some, none, number_of, fixed, width, plain, pointed, fraction, printed, Decimal, millionths_of, Said}
use Rattle.text.proofs.RunLaws.{run_nil, run_cons_on, run_all, run_at}
use Rattle.number.proofs.DigitLaws.{digit_byte, value_snoc, length_fixed, width_is, pow_pos_of, whole_small, fraction_small}
use Rattle.number.proofs.NumberLaws.{number_by, right_bounds}
use Rattle.number.proofs.DecimalLaws.{pointed_some, decimal_read, not_number}

-- printed digits are digits
pub fixed_run : (k v : ℕ) → run is_digit (fixed k v) ≡ k
unfolding fixed
fixed_run zero v = run_nil is_digit
fixed_run (suc k) v =
    let l = length_fixed k (v / 10) in
    let one : run is_digit ((48 + v % 10) ∷ []) ≡ 1 = run_cons_on is_digit (48 + v % 10) [] (digit_byte (v % 10) (omega arith)) ∙ ap suc (run_nil is_digit) in
    run_all is_digit (fixed k (v / 10)) ((48 + v % 10) ∷ []) (fixed_run k (v / 10) ∙ sym l) ∙ omega (arith, l)

-- they say the number
pub fixed_value : (k v : ℕ) → v < 10 ^ k → value 0 (fixed k v) ≡ v
unfolding fixed value
fixed_value zero v h = omega arith
fixed_value (suc k) v h =
    let s : 10 ^ suc k ≡ 10 ^ k * 10 = pow-suc 10 k in
    let i : value 0 (fixed k (v / 10)) ≡ v / 10 = fixed_value k (v / 10) (omega arith) in
    value_snoc 0 (fixed k (v / 10)) (48 + v % 10) ∙ omega arith

-- the digits behind the point, as a number
abbrev pub part : ℕ → ℕ → ℕ
part v p = v % 1000000 / 10 ^ (6 - p)

part_small : (v p : ℕ) → p ≤ 6 → part v p < 10 ^ p
part_small v p few =
    let k : p + (6 - p) ≡ 6 = omega arith in
    let s : 10 ^ p * 10 ^ (6 - p) ≡ 1000000 = sym (pow-add 10 p (6 - p)) ∙ ap (λ (j : ℕ). 10 ^ j) k in
    (div-lt_iff_lt-mul (pow_pos_of 10 (6 - p) (omega arith))).1 (rw s (omega arith))

part_back : (v p : ℕ) → v % 1000000 % 10 ^ (6 - p) ≡ 0 → part v p * 10 ^ (6 - p) ≡ v % 1000000
part_back v p e = omega (arith, e, div-add-mod' (v % 1000000) (10 ^ (6 - p)))

-- a printed fraction is a point and its digits
pub fraction_pointed : (p v : ℕ) → fraction p v ≡ pointed (fixed p (part v p))
unfolding fraction
fraction_pointed zero v = unfold pointed fixed in refl
fraction_pointed (suc p) v = sym (pointed_some (fixed (suc p) (part v (suc p))) (omega (arith, length_fixed (suc p) (part v (suc p)))))

fixed_digit : (k v i : ℕ) → i < length (fixed k v) → is_digit (get_or (fixed k v) i 0) ≡ true
fixed_digit k v i l = run_at is_digit (fixed k v) i (omega (arith, fixed_run k v, length_fixed k v))

-- what is printed of a number of at most six places is what the paper calls a number
pub printed_decimal : (x : Num) → x.places ≤ 6 → Decimal (printed x)
unfolding printed plain
printed_decimal x few =
    let w = width_is (x.millionths / 1000000) in
    let l = length_fixed (width (x.millionths / 1000000)) (x.millionths / 1000000) in
    record {
      minus = x.neg;
      whole = plain (x.millionths / 1000000);
      behind = fixed x.places (part x.millionths x.places);
      spelled = rw (fraction_pointed x.places x.millionths);
      some = omega (arith, l, w.some);
      five = omega (arith, l, w.few);
      six = omega (arith, length_fixed x.places (part x.millionths x.places));
      digits = fixed_digit (width (x.millionths / 1000000)) (x.millionths / 1000000);
      digits_behind = fixed_digit x.places (part x.millionths x.places);
    }

-- and its digits say the number, where none is lost
pub printed_means : (v p : ℕ) → v < 100000000000 → p ≤ 6 → v % 1000000 % 10 ^ (6 - p) ≡ 0 → millionths_of (plain (v / 1000000)) (fixed p (part v p)) ≡ v
unfolding millionths_of plain
printed_means v p small few even =
    rw (length_fixed p (part v p), fixed_value (width (v / 1000000)) (v / 1000000) ((width_is (v / 1000000)).holds (omega arith)), fixed_value p (part v p) (part_small v p few), part_back v p even)
    (omega arith)

pub signed : (n : Bool) (v : ℕ) → (n ≡ true → v ≡ 0 → ⊥) → (not (eqb v 0) && n) ≡ n
signed true v h = rw (ne_eqb v 0 (h refl))
signed false v h = and-false (not (eqb v 0))

-- reading what was printed gives the number again, sign, millionths and places
pub printed_read : (x : Num) → Said x → number_of (printed x) ≡ x
unfolding some printed_decimal
printed_read x s =
    decimal_read (printed x) (printed_decimal x s.few)
    ∙ rw (length_fixed x.places (part x.millionths x.places), printed_means x.millionths x.places s.small s.few s.even, signed x.neg x.millionths s.sign, ← s.right)

-- so printing what was read from a printed form gives the same bytes
pub printed_again : (x : Num) → Said x → printed (number_of (printed x)) ≡ printed x
printed_again x s = ap printed (printed_read x s)

minus_zero : (v : ℕ) (n : Bool) → (not (eqb v 0) && n) ≡ true → v ≡ 0 → ⊥
minus_zero v n e z = clash e (rw (eq-eqb v 0 z))

some_said : (t : Bool) (v m : ℕ) → v < 100000000000 → m ≤ 6 → v % 1000000 % 10 ^ (6 - m) ≡ 0 → Said (some t v m)
unfolding some
some_said t v m s f e = record { right = refl; small = s; few = f; even = e; sign = minus_zero v t }

none_no : none.ok ≡ true → ⊥
unfolding none
none_no e = clash e refl

read_by : (w : List ℕ) (a e n m : ℕ) → a ≡ minus w → e ≡ a + count w a → n ≡ count w a → m ≡ count w (e + 1) → (number_of w).ok ≡ true → Said (number_of w)
read_by w a e n m ea ee en em k = go (right w e n m) refl
  where
    go : (t : Bool) → right w e n m ≡ t → Said (number_of w)
    go true r =
        let b = right_bounds w e n m em r in
        let x : says w a < 100000 = whole_small w a n en b.0 in
        let y : says w (e + 1) * 10 ^ (6 - m) < 1000000 = fraction_small w (e + 1) m em b.1 in
        let z : (says w a * 1000000 + says w (e + 1) * 10 ^ (6 - m)) % 1000000 ≡ says w (e + 1) * 10 ^ (6 - m) = digits_mod (says w a) y in
        rw (number_by w a e n m ea ee en em true r)
        (some_said _ _ _ (omega arith) b.1 (rw z (mul-mod_left (says w (e + 1)) (10 ^ (6 - m)))))
    go false r = absurd (none_no (rw (number_by w a e n m ea ee en em false r) at k))

-- a word that is a number says one that can be printed
pub read_said : (w : List ℕ) → (number_of w).ok ≡ true → Said (number_of w)
read_said w k = read_by w (minus w) _ _ _ refl refl refl refl k

-- a number that was read has at most six places, and no number has none
pub number_places : (w : List ℕ) → (number_of w).places ≤ 6
number_places w = test (number_of w).ok (λ e. (read_said w e).few) (λ e. rw (not_number w e) (unfold none in (omega arith)))
