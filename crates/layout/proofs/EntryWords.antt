-- An entry's words: how many there are, and that those behind its names are numbers. Assumes nothing.
use mathlib.Core.Path.{◌≡◌, refl}
use mathlib.Core.Bool.{true, false, ◌||◌}
use mathlib.Core.Logic.{◌⊎◌, inl, inr}
use mathlib.Core.List.{List, [], ◌∷◌}
use Prim.Native.Nat.{ℕ, ◌+◌, ◌-◌, ◌≤◌, ◌<◌}
use native.Mathlib.Omega.{arith}
use lib.Dec.{eqb}
use lib.ListN.{length, drop, length-drop}
use lib.Seq.{get_or-drop}
use borrow.Author.Tests.{eqb-true, ne_eqb}
use Rattle.verdict.proofs.Bools.{clash, test, and_true}
use Rattle.verdict.proofs.Each.{Each, each_at, each_of}
use Rattle.number.specs.Number.{number_of, Decimal}
use Rattle.number.proofs.DecimalLaws.{decimal_ok, read_decimal}
use Rattle.text.specs.Reading.{Word, Line, nth}
use Rattle.layout.specs.Grammar.{entry_long, numbers}

-- ---- how many

module _ (k n : ℕ) (e : entry_long k n ≡ true) where
  pub hook_words : k ≡ 5 → (n ≡ 9) ⊎ (n ≡ 14)
  unfolding entry_long
  hook_words h =
      let z : (eqb n 9 || eqb n 14) ≡ true = rw h at e in
      test (eqb n 9) (λ (q : eqb n 9 ≡ true). inl (eqb-true n 9 q)) (λ (q : eqb n 9 ≡ false). inr (eqb-true n 14 (rw q at z)))

  pub four_words : (k ≡ 5 → ⊥) → n ≡ 4
  unfolding entry_long
  four_words h = eqb-true n 4 (rw (ne_eqb k 5 h) at e)

-- no entry is blank
pub some_words : (k : ℕ) → entry_long k 0 ≡ true → ⊥
unfolding entry_long
some_words k e = test (eqb k 5) (λ (h : eqb k 5 ≡ true). clash e (rw h)) (λ (h : eqb k 5 ≡ false). clash e (rw h))

-- ---- numbers, as the reader asks and as the paper tells, both ways

pub numbers_are : (ws : List Word) → numbers ws ≡ true → Each Decimal ws
unfolding numbers
numbers_are [] e = tt
numbers_are (w ∷ ws) e = let (a, b) = and_true (number_of w).ok (numbers ws) e in (read_decimal w a, numbers_are ws b)

pub are_numbers : (ws : List Word) → Each Decimal ws → numbers ws ≡ true
unfolding numbers
are_numbers [] g = refl
are_numbers (w ∷ ws) (g, gs) = rw (decimal_ok w g, are_numbers ws gs)

-- ---- word by word, from word m on

module _ (m : ℕ) (l : Line) where
  pub number_at : Each Decimal (drop m l) → (i : ℕ) → m ≤ i → i < length l → Decimal (nth l i)
  number_at g i h k =
      let z : m + (i - m) ≡ i = omega arith in
      rw (get_or-drop m l (i - m) [], z) at (each_at Decimal [] (drop m l) g (i - m) (omega (arith, length-drop m l)))

  pub numbers_from : ((i : ℕ) → m ≤ i → i < length l → Decimal (nth l i)) → Each Decimal (drop m l)
  numbers_from f =
      each_of Decimal [] (drop m l) (λ j h. rw (get_or-drop m l j []) (f (m + j) (omega arith) (omega (arith, length-drop m l))))
