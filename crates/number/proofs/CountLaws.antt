-- Counts: what a word that is one says, and that a number up to 64 is printed as one. Assumes nothing.
use mathlib.Core.Path.{◌≡◌, sym, ◌∙◌}
use mathlib.Core.Bool.{Bool, true, false, cond, ◌&&◌}
use mathlib.Core.List.{List}
use Prim.Native.Nat.{ℕ, ◌+◌, ◌≤◌, ◌<◌}
use native.Mathlib.Nat.{zero-add}
use native.Mathlib.Omega.{arith}
use lib.Dec.{eqb, leb, ltb}
use lib.ListN.{length}
use lib.Seq.{take-length}
use borrow.Author.Tests.{eq-eqb, ne_eqb, eqb-true, leb-true, le-leb, lt-ltb}
use Rattle.verdict.proofs.Bools.{and_true, and_no}
use Rattle.letters.specs.Class.{within, is_digit}
use Rattle.text.specs.Scan.{run}
use Rattle.number.specs.Count.{value, is_count}
use Rattle.number.specs.Number.{count, says, plain, width}
use Rattle.number.proofs.DigitLaws.{length_plain, length_fixed, width_is}
use Rattle.number.proofs.NumberTrip.{fixed_run, fixed_value}

-- ---- what a count is

module _ (w : List ℕ) (e : is_count w ≡ true) where
  parts : (within 1 2 (length w) ≡ true) × ((run is_digit w ≡ length w) × (value 0 w ≤ 64))
  unfolding is_count
  parts =
      let h = and_true (within 1 2 (length w)) (eqb (run is_digit w) (length w) && leb (value 0 w) 64) e in
      let k = and_true (eqb (run is_digit w) (length w)) (leb (value 0 w) 64) h.1 in
      (h.0, (eqb-true (run is_digit w) (length w) k.0, leb-true (value 0 w) 64 k.1))

  pub count_within : value 0 w ≤ 64
  count_within = parts.1.1

  pub count_digits : run is_digit w ≡ length w
  count_digits = parts.1.0

  pub count_run : length w ≡ count w 0
  unfolding count
  count_run = sym parts.1.0

  pub count_small : length w ≤ 6
  count_small = let h = and_true (leb 1 (length w)) (leb (length w) 2) parts.0 in omega (arith, leb-true (length w) 2 h.1)

  pub count_says : says w 0 ≡ value 0 w
  unfolding says
  count_says = rw (← count_run, take-length)

-- ---- at the values that the code has in hand

pub count_not : (w : List ℕ) → within 1 2 (length w) ≡ false → false ≡ is_count w
unfolding is_count
count_not w h = rw h

pub count_letters : (w : List ℕ) (r : ℕ) → r ≡ 0 + count w 0 → (r ≡ length w → ⊥) → false ≡ is_count w
unfolding is_count count
count_letters w r e n = rw (ne_eqb (run is_digit w) (length w) (λ z. n (e ∙ zero-add (run is_digit w) ∙ z)), and_no (within 1 2 (length w)))

module _ (w : List ℕ) (r : ℕ) (h : within 1 2 (length w) ≡ true) (e : r ≡ 0 + count w 0) (n : r ≡ length w) where
  pub count_by : (v : ℕ) → v ≡ says w 0 → leb v 64 ≡ is_count w
  unfolding is_count count says
  count_by v f =
      let d : run is_digit w ≡ length w = omega arith in
      let k : v ≡ value 0 w = f ∙ rw (d, take-length) in
      rw (h, eq-eqb (run is_digit w) (length w) d, k)

-- ---- a number up to 64, printed

pub plain_value : (n : ℕ) → n < 100000 → value 0 (plain n) ≡ n
unfolding plain
plain_value n h = fixed_value (width n) n ((width_is n).holds h)

plain_width : (n : ℕ) → n ≤ 64 → width n ≤ 2
unfolding width
plain_width n h = rw (lt-ltb n 100 (omega arith)) (go (ltb n 10))
  where
    go : (t : Bool) → cond t 1 2 ≤ 2
    go true = omega arith
    go false = omega arith

pub plain_count : (n : ℕ) → n ≤ 64 → is_count (plain n) ≡ true
unfolding is_count
plain_count n h =
    let w = width_is n in
    let l = length_plain n in
    let d : run is_digit (plain n) ≡ length (plain n) = unfold plain in (fixed_run (width n) n ∙ sym (length_fixed (width n) n)) in
    rw (plain_value n (omega arith), le-leb 1 (length (plain n)) (omega (arith, l, w.some)), le-leb (length (plain n)) 2 (omega (arith, l, plain_width n h)))
    (rw (eq-eqb (run is_digit (plain n)) (length (plain n)) d, le-leb n 64 h))
