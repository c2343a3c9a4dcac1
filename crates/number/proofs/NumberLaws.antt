-- What the reader of a number uses of its definition. Assumes nothing.
use mathlib.Core.Path.{◌≡◌, refl}
use mathlib.Core.Bool.{Bool, true, false, cond, ◌&&◌, ◌||◌}
use mathlib.Core.List.{List, [], ◌∷◌}
use Prim.Native.Nat.{ℕ, suc, ◌+◌, ◌-◌, ◌*◌, ◌^◌, ◌≤◌, zero-le}
use native.Mathlib.Omega.{arith}
use lib.Dec.{eqb, leb}
use lib.ListN.{length, get_or, drop, length-drop}
use borrow.Author.Tests.{leb-true, eqb-true}
use Rattle.letters.specs.Class.{is_digit, within}
use Rattle.number.specs.Number.{count, says, minus, right, some, none, number_of}
use Rattle.text.proofs.RunLaws.{run_le}
use Rattle.verdict.proofs.Bools.{and_true}

pub minus_le : (w : List ℕ) → minus w ≤ length w
unfolding minus
minus_le [] = zero-le
minus_le (b ∷ w) = go (eqb b 45)
  where
    go : (t : Bool) → cond t 1 0 ≤ suc (length w)
    go true = omega arith
    go false = omega arith

pub count_le : (w : List ℕ) (from : ℕ) → count w from ≤ length w - from
unfolding count
count_le w from = omega (arith, run_le is_digit (drop from w), length-drop from w)

pub right_bounds : (w : List ℕ) (e n m : ℕ) → m ≡ count w (e + 1) → right w e n m ≡ true → (n ≤ 5) × (m ≤ 6)
unfolding right
right_bounds w e n m em r =
    let (a, b) = and_true (within 1 5 n) (eqb e (length w) || (eqb (get_or w e 0) 46 && (within 1 6 m && eqb (e + 1 + m) (length w)))) r in
    let (l, h) = and_true (leb 1 n) (leb n 5) a in
    (leb-true _ _ h, go (eqb e (length w)) refl b)
  where
    go : (t : Bool) → eqb e (length w) ≡ t → (t || (eqb (get_or w e 0) 46 && (within 1 6 m && eqb (e + 1 + m) (length w)))) ≡ true → m ≤ 6
    go true q x = let k : e ≡ length w = eqb-true _ _ q in omega (arith, count_le w (e + 1))
    go false q x =
        let (_, y) = and_true (eqb (get_or w e 0) 46) (within 1 6 m && eqb (e + 1 + m) (length w)) x in
        let (z, _) = and_true (within 1 6 m) (eqb (e + 1 + m) (length w)) y in
        let (_, s) = and_true (leb 1 m) (leb m 6) z in
        leb-true m 6 s

pub right_some : (w : List ℕ) (e n m : ℕ) → right w e n m ≡ true → 1 ≤ n
unfolding right
right_some w e n m r =
    let (a, _) = and_true (within 1 5 n) (eqb e (length w) || (eqb (get_or w e 0) 46 && (within 1 6 m && eqb (e + 1 + m) (length w)))) r in
    let (l, _) = and_true (leb 1 n) (leb n 5) a in
    leb-true 1 n l

module _ (w : List ℕ) (a e n m : ℕ) (ea : a ≡ minus w) (ee : e ≡ a + count w a) (en : n ≡ count w a) (em : m ≡ count w (e + 1)) where
  -- the definition, at numbers that the code has in hand
  pub number_by : (t : Bool) → right w e n m ≡ t → number_of w ≡ cond t (some (eqb a 1) (says w a * 1000000 + says w (e + 1) * 10 ^ (6 - m)) m) none
  unfolding number_of
  number_by t r = rw (← r, em, en, ee, ea)
