-- The reader of a number accepts exactly what the paper describes, and reads what the paper says it means. Assumes nothing.
use mathlib.Core.Path.{◌≡◌, refl, sym, ap, ◌∙◌}
use mathlib.Core.Bool.{Bool, true, false, ◌&&◌, ◌||◌, or-true}
use mathlib.Core.List.{List, [], ◌∷◌, ◌++◌}
use Prim.Native.Nat.{ℕ, zero, suc, ◌+◌, ◌≤◌, ◌<◌}
use native.Mathlib.Nat.{add-zero, add_assoc}
use native.Mathlib.Numerals.{add-one}
use native.Mathlib.Omega.{arith}
use lib.Dec.{eqb, leb}
use lib.ListN.{length, get_or, take, drop, length-append, length-drop, take-append-drop, drop_of_length-le}
use lib.Seq.{drop-append_seam, drop-append-add, take-append_seam, take-length, take_all, length-take-le, get_or-append-add, drop-drop, drop-cons}
use borrow.Author.Tests.{leb-true, eqb-true, le-leb, eq-eqb, ne_eqb}
use Rattle.verdict.proofs.Bools.{clash, test, and_true}
use Rattle.number.specs.declared.Num.{Num}
use Rattle.letters.specs.Class.{class_of, is_digit, within}
use Rattle.text.specs.Scan.{run}
use Rattle.number.specs.Count.{value}
use Rattle.number.specs.Number.{sign, pointed, Decimal, millionths_of, count, says, minus, right, some, none, number_of}
use Rattle.text.proofs.RunLaws.{run_nil, run_cons_off, run_all, run_at, run_of, run_le, run_take}
use Rattle.number.proofs.DigitLaws.{digit_range}
use Rattle.number.proofs.NumberLaws.{number_by, right_bounds, right_some}

pub pointed_some : (fs : List ℕ) → 1 ≤ length fs → pointed fs ≡ 46 ∷ fs
unfolding pointed
pointed_some [] h = absurd (omega arith)
pointed_some (d ∷ ds) h = refl

pointed_none : pointed [] ≡ []
unfolding pointed
pointed_none = refl

-- ---- what the paper describes is read

-- a sign, whole digits and a tail: what the definition's numbers are
module _ (M P F : List ℕ) (digits : run is_digit P ≡ length P) (tail : run is_digit F ≡ 0) where
  abbrev word : List ℕ
  word = M ++ (P ++ F)

  from_whole : drop (length M) word ≡ P ++ F
  from_whole = drop-append_seam M (P ++ F)

  whole_count : count word (length M) ≡ length P
  unfolding count
  whole_count = rw from_whole (run_all is_digit P F digits ∙ rw tail (add-zero (length P)))

  whole_says : says word (length M) ≡ value 0 P
  unfolding says
  whole_says = rw (whole_count, from_whole, take-append_seam)

  from_tail : (k : ℕ) → drop (length M + length P + k) word ≡ drop k F
  from_tail k = rw (add_assoc, drop-append-add, drop-append-add)

  at_tail : get_or word (length M + length P) 0 ≡ get_or F 0 0
  at_tail = ap (λ (k : ℕ). get_or word k 0) (sym (add-zero (length M + length P))) ∙ rw (add_assoc, get_or-append-add, get_or-append-add)

  length_word : length word ≡ length M + length P + length F
  length_word = omega (arith, length-append M (P ++ F), length-append P F)

sign_minus : (t : Bool) (R : List ℕ) → is_digit (get_or R 0 0) ≡ true → length (sign t) ≡ minus (sign t ++ R)
unfolding minus
sign_minus true R d = refl
sign_minus false R d =
    let r = digit_range (get_or R 0 0) d in
    rw (ne_eqb (get_or R 0 0) 45 (omega (arith, r.0)))

sign_told : (t : Bool) → eqb (length (sign t)) 1 ≡ t
sign_told true = refl
sign_told false = refl

-- a point is no digit, so the digits before it end there
point_stops : (fs : List ℕ) → run is_digit (pointed fs) ≡ 0
unfolding pointed is_digit class_of
point_stops [] = run_nil is_digit
point_stops (d ∷ ds) = run_cons_off is_digit 46 (d ∷ ds) refl

behind_point : (fs : List ℕ) → drop 1 (pointed fs) ≡ fs
unfolding pointed
behind_point [] = refl
behind_point (d ∷ ds) = refl

module _ (t : Bool) (ds fs : List ℕ) (one : 1 ≤ length ds) (five : length ds ≤ 5) (six : length fs ≤ 6) (whole : run is_digit ds ≡ length ds) (behind : run is_digit fs ≡ length fs) where
  abbrev spelled : List ℕ
  spelled = sign t ++ (ds ++ pointed fs)

  abbrev end : ℕ
  end = length (sign t) + length ds

  first_digit : is_digit (get_or (ds ++ pointed fs) 0 0) ≡ true
  first_digit = run_at is_digit (ds ++ pointed fs) 0 (omega (arith, run_all is_digit ds (pointed fs) whole))

  behind_count : length fs ≡ count spelled (end + 1)
  unfolding count
  behind_count = rw (from_tail (sign t) ds (pointed fs) whole (point_stops fs) 1, behind_point fs) (sym behind)

  behind_says : says spelled (end + 1) ≡ value 0 fs
  unfolding says
  behind_says = rw (← behind_count, from_tail (sign t) ds (pointed fs) whole (point_stops fs) 1, behind_point fs, take-length)

  shape : right spelled end (length ds) (length fs) ≡ true
  unfolding right
  shape =
      simp (le-leb 1 (length ds) one, le-leb (length ds) 5 five, at_tail (sign t) ds (pointed fs) whole (point_stops fs))
      (go fs refl)
    where
      go : (gs : List ℕ) → fs ≡ gs → (eqb end (length spelled) || (eqb (get_or (pointed fs) 0 0) 46 && (within 1 6 (length fs) && eqb (end + 1 + length fs) (length spelled)))) ≡ true
      go [] e =
          let z : length (pointed fs) ≡ 0 = unfold pointed in (rw e) in
          rw (eq-eqb end (length spelled) (omega (arith, length_word (sign t) ds (pointed fs) whole (point_stops fs))))
      go (d ∷ gs) e =
          let n : length fs ≡ suc (length gs) = ap length e in
          let f : pointed fs ≡ 46 ∷ fs = pointed_some fs (omega arith) in
          let l : length (pointed fs) ≡ suc (length fs) = ap length f in
          let h : get_or (pointed fs) 0 0 ≡ 46 = ap (λ (x : List ℕ). get_or x 0 0) f in
          rw (eq-eqb (get_or (pointed fs) 0 0) 46 h, le-leb 1 (length fs) (omega arith), le-leb (length fs) 6 six, eq-eqb (end + 1 + length fs) (length spelled) (omega (arith, length_word (sign t) ds (pointed fs) whole (point_stops fs))), or-true)

  read_parts : number_of spelled ≡ some t (millionths_of ds fs) (length fs)
  unfolding millionths_of
  read_parts =
      let n = whole_count (sign t) ds (pointed fs) whole (point_stops fs) in
      number_by spelled (length (sign t)) end (length ds) (length fs) (sign_minus t (ds ++ pointed fs) first_digit)
      (ap (λ (k : ℕ). length (sign t) + k) (sym n)) (sym n) behind_count true shape
      ∙ rw (sign_told t, whole_says (sign t) ds (pointed fs) whole (point_stops fs), behind_says)

-- the first half: sign, whole millionths, and how many digits stand behind the point
pub decimal_read : (w : List ℕ) (d : Decimal w) → number_of w ≡ some d.minus (millionths_of d.whole d.behind) (length d.behind)
decimal_read w d =
    ap number_of d.spelled
    ∙ read_parts d.minus d.whole d.behind d.some d.five d.six (run_of is_digit d.whole d.digits) (run_of is_digit d.behind d.digits_behind)

-- ---- nothing else is read

sign_split : (w : List ℕ) → w ≡ sign (eqb (minus w) 1) ++ drop (minus w) w
unfolding minus
sign_split [] = refl
sign_split (b ∷ w) = test (eqb b 45) (λ e. rw e (ap (λ (x : ℕ). x ∷ w) (eqb-true b 45 e))) (λ e. rw e)

none_left : (k : ℕ) → take {A = ℕ} k [] ≡ []
none_left zero = refl
none_left (suc k) = refl

module _ (w : List ℕ) (a e n m : ℕ) (ea : a ≡ minus w) (ee : e ≡ a + count w a) (en : n ≡ count w a) (em : m ≡ count w (e + 1)) (r : right w e n m ≡ true) where
  abbrev ds : List ℕ
  ds = take (count w a) (drop a w)

  abbrev fs : List ℕ
  fs = take (count w (e + 1)) (drop (e + 1) w)

  -- the digits from a place on
  length_digits : (at : ℕ) → length (take (count w at) (drop at w)) ≡ count w at
  unfolding count
  length_digits at = length-take-le (run is_digit (drop at w)) (drop at w) (run_le is_digit (drop at w))

  are_digits : (at i : ℕ) → i < length (take (count w at) (drop at w)) → is_digit (get_or (take (count w at) (drop at w)) i 0) ≡ true
  unfolding count
  are_digits at i l = run_at is_digit (take (run is_digit (drop at w)) (drop at w)) i (omega (arith, run_take is_digit (drop at w)))

  tail : drop e w ≡ pointed fs
  unfolding right
  tail =
      let (x, y) = and_true (within 1 5 n) (eqb e (length w) || (eqb (get_or w e 0) 46 && (within 1 6 m && eqb (e + 1 + m) (length w)))) r in
      go (eqb e (length w)) refl y
    where
      go : (t : Bool) → eqb e (length w) ≡ t → (t || (eqb (get_or w e 0) 46 && (within 1 6 m && eqb (e + 1 + m) (length w)))) ≡ true → drop e w ≡ pointed fs
      go true q x =
          let k : e ≡ length w = eqb-true e (length w) q in
          let f : drop e w ≡ [] = drop_of_length-le w {i = e} (omega arith) in
          let g : drop (e + 1) w ≡ [] = drop_of_length-le w {i = e + 1} (omega arith) in
          f ∙ rw (g, none_left (count w (e + 1))) (sym pointed_none)
      go false q x =
          let (u, y) = and_true (eqb (get_or w e 0) 46) (within 1 6 m && eqb (e + 1 + m) (length w)) x in
          let (z, v) = and_true (within 1 6 m) (eqb (e + 1 + m) (length w)) y in
          let (s, _) = and_true (leb 1 m) (leb m 6) z in
          let one : 1 ≤ m = leb-true 1 m s in
          let all : e + 1 + m ≡ length w = eqb-true (e + 1 + m) (length w) v in
          let l = length_digits (e + 1) in
          let f : fs ≡ drop (e + 1) w = take_all (count w (e + 1)) (drop (e + 1) w) (omega (arith, length-drop (e + 1) w)) in
          drop-cons w e 0 (omega arith) ∙ rw (← (add-one e), eqb-true (get_or w e 0) 46 u, f) (sym (pointed_some (drop (e + 1) w) (omega (arith, length-drop (e + 1) w))))

  split : w ≡ sign (eqb a 1) ++ (ds ++ pointed fs)
  split =
      let c : drop a w ≡ ds ++ drop (count w a) (drop a w) = sym (take-append-drop (count w a) (drop a w)) in
      let d : drop (count w a) (drop a w) ≡ drop e w = rw ee (drop-drop (count w a) a w) in
      rw ea (sign_split w) ∙ ap (λ (x : List ℕ). sign (eqb a 1) ++ x) (c ∙ ap (λ (x : List ℕ). ds ++ x) (d ∙ tail))

  is_decimal : Decimal w
  is_decimal =
      let b = right_bounds w e n m em r in
      let l = length_digits a in
      let k = length_digits (e + 1) in
      record {
        minus = eqb a 1;
        whole = ds;
        behind = fs;
        spelled = split;
        some = omega (arith, right_some w e n m r);
        five = omega arith;
        six = omega arith;
        digits = are_digits a;
        digits_behind = are_digits (e + 1);
      }

read_by : (w : List ℕ) (a e n m : ℕ) → a ≡ minus w → e ≡ a + count w a → n ≡ count w a → m ≡ count w (e + 1) → (number_of w).ok ≡ true → Decimal w
read_by w a e n m ea ee en em k =
    test (right w e n m) (λ r. is_decimal w a e n m ea ee en em r) (λ r. clash k (ap (λ (x : Num). x.ok) (number_by w a e n m ea ee en em false r) ∙ unfold none in refl))

-- the second half: a word that is read as a number is what the paper describes
pub read_decimal : (w : List ℕ) → (number_of w).ok ≡ true → Decimal w
read_decimal w k = read_by w (minus w) _ _ _ refl refl refl refl k

-- a word that is refused is read as no number
none_by : (w : List ℕ) (a e n m : ℕ) → a ≡ minus w → e ≡ a + count w a → n ≡ count w a → m ≡ count w (e + 1) → (number_of w).ok ≡ false → number_of w ≡ none
unfolding some
none_by w a e n m ea ee en em k =
    test (right w e n m) (λ r. clash (ap (λ (x : Num). x.ok) (number_by w a e n m ea ee en em true r)) k) (λ r. number_by w a e n m ea ee en em false r)

pub not_number : (w : List ℕ) → (number_of w).ok ≡ false → number_of w ≡ none
not_number w k = none_by w (minus w) _ _ _ refl refl refl refl k

-- so the two accept the same words
pub decimal_ok : (w : List ℕ) → Decimal w → (number_of w).ok ≡ true
unfolding some
decimal_ok w d = ap (λ (x : Num). x.ok) (decimal_read w d)

pub decimal_millionths : (w : List ℕ) (d : Decimal w) → (number_of w).millionths ≡ millionths_of d.whole d.behind
unfolding some
decimal_millionths w d = ap (λ (x : Num). x.millionths) (decimal_read w d)

pub not_decimal : (w : List ℕ) → (Decimal w → ⊥) → number_of w ≡ none
not_decimal w n = test (number_of w).ok (λ e. absurd (n (read_decimal w e))) (λ e. not_number w e)
