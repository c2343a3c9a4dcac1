-- A number of a layout (rule 35), read from a word and printed. Sign and magnitude: whole millionths, and how many digits stood after the
-- point. Definitions only.
use Rattle.std.specs.Prelude.{◌≡◌, ℕ, zero, suc, ◌+◌, ◌-◌, ◌*◌, ◌/◌, ◌%◌, ◌^◌, ◌≤◌, ◌<◌, Bool, true, false, cond, not, ◌&&◌, ◌||◌, List, [], ◌∷◌, ◌++◌, length, get_or, take, drop, ltb, eqb}
use Rattle.number.specs.declared.Num.{Num}
use Rattle.letters.specs.Class.{is_digit, within}
use Rattle.text.specs.Scan.{run}
use Rattle.number.specs.Count.{value}

-- ---- as the paper says it

-- a minus or nothing
abbrev pub sign : Bool → List ℕ
sign t = cond t (45 ∷ []) []

-- a point and digits, or nothing
unfoldable pub pointed : List ℕ → List ℕ
pointed [] = []
pointed (d ∷ ds) = 46 ∷ d ∷ ds

-- optional minus, 1 to 5 digits, optionally a point and 1 to 6 digits
pub record Decimal (w : List ℕ) : Type 0 where
  pub minus : Bool
  pub whole : List ℕ
  pub behind : List ℕ
  pub spelled : w ≡ sign minus ++ (whole ++ pointed behind)
  pub some : 1 ≤ length whole
  pub five : length whole ≤ 5
  pub six : length behind ≤ 6
  pub digits : (i : ℕ) → i < length whole → is_digit (get_or whole i 0) ≡ true
  pub digits_behind : (i : ℕ) → i < length behind → is_digit (get_or behind i 0) ≡ true

-- its meaning is whole millionths: what the digits say, and those behind the point as so many millionths
unfoldable pub millionths_of : List ℕ → List ℕ → ℕ
millionths_of ds fs = value 0 ds * 1000000 + value 0 fs * 10 ^ (6 - length fs)

-- one digit alone, or another than 0 in front
abbrev pub NoNeedlessZero : List ℕ → Type 0
NoNeedlessZero ds = (length ds ≡ 1 → ⊥) → get_or ds 0 0 ≡ 48 → ⊥

-- ---- as it is read

-- 1 if the word starts with a minus, else 0
unfoldable pub minus : List ℕ → ℕ
minus w = cond (eqb (get_or w 0 0) 45) 1 0

-- digits from a place on, how many and what they say
unfoldable pub count : List ℕ → ℕ → ℕ
count w at = run is_digit (drop at w)

unfoldable pub says : List ℕ → ℕ → ℕ
unfolding count
says w at = value 0 (take (count w at) (drop at w))

-- a word of n digits that end at e, and then either no more, or a point and m digits to its end
unfoldable pub right : List ℕ → ℕ → ℕ → ℕ → Bool
right w e n m =
    within 1 5 n && (eqb e (length w) || (eqb (get_or w e 0) 46 && (within 1 6 m && eqb (e + 1 + m) (length w))))

-- no number
unfoldable pub none : Num
none = record { ok = false; neg = false; millionths = 0; places = 0 }

-- what is kept of a number: minus zero loses its minus
unfoldable pub some : Bool → ℕ → ℕ → Num
some neg v m = record { ok = true; neg = not (eqb v 0) && neg; millionths = v; places = m }

-- optional minus, 1 to 5 digits, optionally a point and 1 to 6 digits
unfoldable pub number_of : List ℕ → Num
number_of w =
    let a = minus w in
    let n = count w a in
    let e = a + n in
    let m = count w (e + 1) in
    cond (right w e n m) (some (eqb a 1) (says w a * 1000000 + says w (e + 1) * 10 ^ (6 - m)) m) none

-- ---- as it is printed

-- the last k digits of v, in order
unfoldable pub fixed : ℕ → ℕ → List ℕ
fixed zero v = []
fixed (suc k) v = fixed k (v / 10) ++ ((48 + v % 10) ∷ [])

-- how many digits a number below 100,000 has
unfoldable pub width : ℕ → ℕ
width v = cond (ltb v 10) 1 (cond (ltb v 100) 2 (cond (ltb v 1000) 3 (cond (ltb v 10000) 4 5)))

-- a whole number with no needless leading zeros
unfoldable pub plain : ℕ → List ℕ
plain v = fixed (width v) v

-- a point and so many digits of the millionths, or nothing
unfoldable pub fraction : ℕ → ℕ → List ℕ
fraction zero v = []
fraction (suc p) v = 46 ∷ fixed (suc p) (v % 1000000 / 10 ^ (6 - suc p))

-- the number as it is printed
unfoldable pub printed : Num → List ℕ
printed x = sign x.neg ++ (plain (x.millionths / 1000000) ++ fraction x.places x.millionths)

-- what a word can say: fewer than ten to the eleventh millionths, no digit lost behind the places, and no minus zero
pub record Said (x : Num) : Type 0 where
  pub right : x.ok ≡ true
  pub small : x.millionths < 100000000000
  pub few : x.places ≤ 6
  pub even : x.millionths % 1000000 % 10 ^ (6 - x.places) ≡ 0
  pub sign : x.neg ≡ true → x.millionths ≡ 0 → ⊥
