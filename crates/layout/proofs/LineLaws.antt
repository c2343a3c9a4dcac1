-- A line's words and faults, at the values that the code has in hand. Assumes nothing.
use mathlib.Core.Path.{◌≡◌, refl, sym, ◌∙◌}
use mathlib.Core.Bool.{Bool, true, false, cond, not}
use mathlib.Core.List.{[], ◌∷◌}
use Prim.Native.Nat.{ℕ, zero, suc, ◌+◌, ◌-◌, ◌≤◌, ◌<◌}
use native.Mathlib.Omega.{arith}
use lib.Dec.{eqb, ltb}
use lib.ListN.{length, drop, length-drop}
use lib.Seq.{get_or-drop}
use borrow.Author.Tests.{eqb-true, eq-eqb, ne_eqb, le-leb, lt-leb}
use Rattle.verdict.proofs.Bools.{same_test, and_no}
use Rattle.letters.specs.Class.{within}
use Rattle.names.specs.Name.{same}
use Rattle.number.specs.Count.{value, is_count}
use Rattle.number.specs.Number.{number_of}
use Rattle.text.specs.Reading.{Word, Line, nth}
use Rattle.layout.specs.Grammar.{section_of, follows, opens, names_in, entry_long, numbers, words_of, open_fault, beginlayout, roomcount, trackcount, obstaclecount, doorhookcount, donelayout}
use Rattle.layout.specs.Starts.{count_in}

-- ---- keywords

module _ (w : Word) where
  pub section_1 : same w beginlayout ≡ true → 1 ≡ section_of w
  unfolding section_of
  section_1 a = rw a

  module _ (a : same w beginlayout ≡ false) where
    pub section_2 : same w roomcount ≡ true → 2 ≡ section_of w
    unfolding section_of
    section_2 b = rw (a, b)

    module _ (b : same w roomcount ≡ false) where
      pub section_3 : same w trackcount ≡ true → 3 ≡ section_of w
      unfolding section_of
      section_3 c = rw (a, b, c)

      module _ (c : same w trackcount ≡ false) where
        pub section_4 : same w obstaclecount ≡ true → 4 ≡ section_of w
        unfolding section_of
        section_4 d = rw (a, b, c, d)

        module _ (d : same w obstaclecount ≡ false) where
          pub section_5 : same w doorhookcount ≡ true → 5 ≡ section_of w
          unfolding section_of
          section_5 e = rw (a, b, c, d, e)

          pub section_6 : same w doorhookcount ≡ false → same w donelayout ≡ true → 6 ≡ section_of w
          unfolding section_of
          section_6 e f = rw (a, b, c, d, e, f)

          pub section_0 : same w doorhookcount ≡ false → same w donelayout ≡ false → 0 ≡ section_of w
          unfolding section_of
          section_0 e f = rw (a, b, c, d, e, f)

-- ---- what may follow

pub follows_nought : (sect k : ℕ) → k ≡ 0 → false ≡ follows sect k
unfolding follows
follows_nought sect k e = rw e (sym (ne_eqb (suc sect) 0 (λ z. omega arith)))

pub follows_first : (sect k : ℕ) → (k ≡ 0 → ⊥) → k ≤ 2 → eqb sect (k - 1) ≡ follows sect k
unfolding follows
follows_first sect k n h =
    rw (le-leb k 2 h)
    (same_test (eqb sect (k - 1)) (eqb (suc sect) k) (λ e. let z : sect ≡ k - 1 = eqb-true sect (k - 1) e in eq-eqb (suc sect) k (omega arith))
    (λ e. let z : suc sect ≡ k = eqb-true (suc sect) k e in eq-eqb sect (k - 1) (omega arith)))

pub follows_not : (sect k : ℕ) → 2 < k → sect < 2 → false ≡ follows sect k
unfolding follows
follows_not sect k h l = rw (lt-leb k 2 h, lt-leb 2 sect l)

pub follows_by : (sect k : ℕ) → 2 < k → 2 ≤ sect → ltb sect k ≡ follows sect k
unfolding follows
follows_by sect k h l = rw (lt-leb k 2 h, le-leb 2 sect l)

pub opens_some : (sect : ℕ) (w : Word) (k : ℕ) (r : Bool) → k ≡ section_of w → r ≡ follows sect k → r ≡ true → k ≡ opens sect w
unfolding opens
opens_some sect w k r e f t = rw (← e, ← f, t)

pub opens_none : (sect : ℕ) (w : Word) (k : ℕ) (r : Bool) → k ≡ section_of w → r ≡ follows sect k → r ≡ false → 0 ≡ opens sect w
unfolding opens
opens_none sect w k r e f t = rw (← e, ← f, t)

-- ---- counts

pub count_in_some : (w : Word) (v : ℕ) → is_count w ≡ true → v ≡ value 0 w → v ≡ count_in w
unfolding count_in
count_in_some w v e f = rw e f

pub count_in_none : (w : Word) → is_count w ≡ false → 0 ≡ count_in w
unfolding count_in
count_in_none w e = rw e

pub words_low : (k : ℕ) → k < 2 → 1 ≡ words_of k
unfolding words_of
words_low k h = rw (lt-leb 2 k h)

pub words_mid : (k : ℕ) → 2 ≤ k → k ≤ 5 → 2 ≡ words_of k
unfolding words_of
words_mid k h l = rw (le-leb 2 k h, le-leb k 5 l)

pub words_high : (k : ℕ) → 2 ≤ k → 5 < k → 1 ≡ words_of k
unfolding words_of
words_high k h l = rw (le-leb 2 k h, lt-leb k 5 l)

-- ---- a line that is to open a section

pub open_nothing : (k : ℕ) (l : Line) → k ≡ 0 → 33 ≡ open_fault k l
unfolding open_fault
open_nothing k l e = rw e

two : (t : Bool) (n : ℕ) → n ≡ cond t 2 1 → n ≡ 1 → t ≡ false
two true n e z = absurd (omega arith)
two false n e z = refl

not_two : (t : Bool) (n : ℕ) → n ≡ cond t 2 1 → (n ≡ 1 → ⊥) → t ≡ true
not_two true n e z = refl
not_two false n e z = absurd (z e)

module _ (k : ℕ) (l : Line) (n m : ℕ) (en : n ≡ words_of k) (em : m ≡ length l) (some : k ≡ 0 → ⊥) where
  pub open_unlike : (m ≡ n → ⊥) → 33 ≡ open_fault k l
  unfolding open_fault
  open_unlike h = rw (ne_eqb k 0 some, ne_eqb (length l) (words_of k) (λ z. h (em ∙ z ∙ sym en)))

  same_count : m ≡ n → eqb (length l) (words_of k) ≡ true
  same_count h = eq-eqb (length l) (words_of k) (sym em ∙ h ∙ en)

  pub open_single : m ≡ n → n ≡ 1 → 0 ≡ open_fault k l
  unfolding open_fault
  open_single h o = rw (ne_eqb k 0 some, same_count h, two (within 2 5 k) n (unfold words_of in en) o)

  pub open_counted : (u : Word) (r t : Bool) → m ≡ n → (n ≡ 1 → ⊥) → u ≡ nth l 1 → r ≡ is_count u → r ≡ t → ◌≡◌ {A = ℕ} (cond t 0 36) (open_fault k l)
  unfolding open_fault
  open_counted u r t h o eu er et =
      rw (ne_eqb k 0 some, same_count h, not_two (within 2 5 k) n (unfold words_of in en) o, ← eu, ← er, et) (go t)
    where
      go : (q : Bool) → ◌≡◌ {A = ℕ} (cond q 0 36) (cond (not q) 36 0)
      go true = refl
      go false = refl

-- ---- numbers

-- each word is one, and one word is none
numbers_each : (ws : Line) → ((i : ℕ) → i < length ws → (number_of (nth ws i)).ok ≡ true) → numbers ws ≡ true
unfolding numbers
numbers_each [] h = refl
numbers_each (w ∷ ws) h = rw (h 0 (omega arith)) (numbers_each ws (λ i l. h (suc i) (omega arith)))

numbers_fail : (ws : Line) (i : ℕ) → i < length ws → (number_of (nth ws i)).ok ≡ false → numbers ws ≡ false
unfolding numbers
numbers_fail [] i l e = absurd (omega arith)
numbers_fail (w ∷ ws) zero l e = rw e
numbers_fail (w ∷ ws) (suc i) l e = rw (numbers_fail ws i (omega arith) e) (and_no (number_of w).ok)

-- the words from k on
module _ (l : Line) (k : ℕ) where
  pub numbers_from : ((i : ℕ) → k ≤ i → i < length l → (number_of (nth l i)).ok ≡ true) → true ≡ numbers (drop k l)
  numbers_from h = sym (numbers_each (drop k l) (λ i m. let q : k + i < length l = omega (arith, length-drop k l) in rw (get_or-drop k l i []) (h (k + i) (omega arith) q)))

  pub numbers_stop : (i : ℕ) → k ≤ i → i < length l → (number_of (nth l i)).ok ≡ false → false ≡ numbers (drop k l)
  numbers_stop i m h e =
      let z : k + (i - k) ≡ i = omega arith in
      sym (numbers_fail (drop k l) (i - k) (omega (arith, length-drop k l)) (rw (get_or-drop k l (i - k) [], z) e))

-- ---- how many words and names an entry has

module _ (k : ℕ) where
  pub names_hook : k ≡ 5 → 2 ≡ names_in k
  unfolding names_in
  names_hook h = rw h

  pub names_other : (k ≡ 5 → ⊥) → 1 ≡ names_in k
  unfolding names_in
  names_other n = rw (ne_eqb k 5 n)

  pub long_nine : (n : ℕ) → k ≡ 5 → n ≡ 9 → true ≡ entry_long k n
  unfolding entry_long
  long_nine n h e = rw (h, e)

  pub long_more : (n : ℕ) → k ≡ 5 → (n ≡ 9 → ⊥) → eqb n 14 ≡ entry_long k n
  unfolding entry_long
  long_more n h e = rw (h, ne_eqb n 9 e)

  pub long_four : (n : ℕ) → (k ≡ 5 → ⊥) → eqb n 4 ≡ entry_long k n
  unfolding entry_long
  long_four n h = rw (ne_eqb k 5 h)
