-- The table of byte classes in code is the definition, by one computed test; and what the classes tell of each other. Assumes nothing.
use mathlib.Core.Path.{◌≡◌, refl}
use mathlib.Core.Bool.{Bool, true, false, cond, not, ◌&&◌, ◌||◌}
use mathlib.Core.List.{List, [], ◌∷◌}
use Prim.Native.Nat.{ℕ, ◌≤◌, ◌<◌}
use native.Mathlib.Omega.{arith}
use lib.Dec.{eqb, leb}
use lib.ListN.{get_or}
use borrow.Author.Tests.{eqb-true, eqb-false, ne_eqb, leb-true, le-leb}
use Rattle.verdict.specs.Lowest.{lowest, any_under, all_under}
use Rattle.verdict.proofs.Lowest.{all_true}
use Rattle.verdict.proofs.Bools.{and_true, or_false}
use Rattle.letters.specs.Class.{within, class_of, is_refused, is_gap, is_end, name_byte, word_byte, is_return}

-- the table of the code
unfoldable pub classes : List ℕ
classes =
    0 ∷ 0 ∷ 0 ∷ 0 ∷ 0 ∷ 0 ∷ 0 ∷ 0 ∷ 0 ∷ 6 ∷ 7 ∷ 0 ∷ 0 ∷ 8 ∷ 0 ∷ 0 ∷ 0 ∷ 0 ∷ 0 ∷ 0 ∷ 0 ∷ 0 ∷ 0 ∷ 0 ∷ 0 ∷ 0 ∷ 0 ∷ 0 ∷ 0 ∷ 0 ∷ 0 ∷ 0 ∷
    6 ∷ 0 ∷ 0 ∷ 0 ∷ 0 ∷ 0 ∷ 0 ∷ 0 ∷ 0 ∷ 0 ∷ 0 ∷ 0 ∷ 0 ∷ 4 ∷ 5 ∷ 0 ∷ 2 ∷ 2 ∷ 2 ∷ 2 ∷ 2 ∷ 2 ∷ 2 ∷ 2 ∷ 2 ∷ 2 ∷ 0 ∷ 0 ∷ 0 ∷ 0 ∷ 0 ∷ 0 ∷
    0 ∷ 1 ∷ 1 ∷ 1 ∷ 1 ∷ 1 ∷ 1 ∷ 1 ∷ 1 ∷ 1 ∷ 1 ∷ 1 ∷ 1 ∷ 1 ∷ 1 ∷ 1 ∷ 1 ∷ 1 ∷ 1 ∷ 1 ∷ 1 ∷ 1 ∷ 1 ∷ 1 ∷ 1 ∷ 1 ∷ 1 ∷ 0 ∷ 0 ∷ 0 ∷ 0 ∷ 3 ∷
    0 ∷ 1 ∷ 1 ∷ 1 ∷ 1 ∷ 1 ∷ 1 ∷ 1 ∷ 1 ∷ 1 ∷ 1 ∷ 1 ∷ 1 ∷ 1 ∷ 1 ∷ 1 ∷ 1 ∷ 1 ∷ 1 ∷ 1 ∷ 1 ∷ 1 ∷ 1 ∷ 1 ∷ 1 ∷ 1 ∷ 1 ∷ 0 ∷ 0 ∷ 0 ∷ 0 ∷ 0 ∷
    0 ∷ 0 ∷ 0 ∷ 0 ∷ 0 ∷ 0 ∷ 0 ∷ 0 ∷ 0 ∷ 0 ∷ 0 ∷ 0 ∷ 0 ∷ 0 ∷ 0 ∷ 0 ∷ 0 ∷ 0 ∷ 0 ∷ 0 ∷ 0 ∷ 0 ∷ 0 ∷ 0 ∷ 0 ∷ 0 ∷ 0 ∷ 0 ∷ 0 ∷ 0 ∷ 0 ∷ 0 ∷
    0 ∷ 0 ∷ 0 ∷ 0 ∷ 0 ∷ 0 ∷ 0 ∷ 0 ∷ 0 ∷ 0 ∷ 0 ∷ 0 ∷ 0 ∷ 0 ∷ 0 ∷ 0 ∷ 0 ∷ 0 ∷ 0 ∷ 0 ∷ 0 ∷ 0 ∷ 0 ∷ 0 ∷ 0 ∷ 0 ∷ 0 ∷ 0 ∷ 0 ∷ 0 ∷ 0 ∷ 0 ∷
    0 ∷ 0 ∷ 0 ∷ 0 ∷ 0 ∷ 0 ∷ 0 ∷ 0 ∷ 0 ∷ 0 ∷ 0 ∷ 0 ∷ 0 ∷ 0 ∷ 0 ∷ 0 ∷ 0 ∷ 0 ∷ 0 ∷ 0 ∷ 0 ∷ 0 ∷ 0 ∷ 0 ∷ 0 ∷ 0 ∷ 0 ∷ 0 ∷ 0 ∷ 0 ∷ 0 ∷ 0 ∷
    0 ∷ 0 ∷ 0 ∷ 0 ∷ 0 ∷ 0 ∷ 0 ∷ 0 ∷ 0 ∷ 0 ∷ 0 ∷ 0 ∷ 0 ∷ 0 ∷ 0 ∷ 0 ∷ 0 ∷ 0 ∷ 0 ∷ 0 ∷ 0 ∷ 0 ∷ 0 ∷ 0 ∷ 0 ∷ 0 ∷ 0 ∷ 0 ∷ 0 ∷ 0 ∷ 0 ∷ 0 ∷ []

-- the test: each of the 256 entries is the class of its byte
agrees : ℕ → Bool
agrees b = eqb (get_or classes b 0) (class_of b)

all_agree : all_under 256 agrees ≡ true
unfolding agrees classes class_of all_under any_under lowest
all_agree = refl

pub class_at : (b : ℕ) → b < 256 → get_or classes b 0 ≡ class_of b
unfolding agrees
class_at b l = eqb-true (get_or classes b 0) (class_of b) (all_true agrees 256 all_agree b l)

-- there are no other classes
pub class_le : (b : ℕ) → class_of b ≤ 8
unfolding class_of
class_le b =
    go (within 97 122 b || within 65 90 b) (within 48 57 b) (eqb b 95) (eqb b 45) (eqb b 46) (eqb b 32 || eqb b 9) (eqb b 10) (eqb b 13)
  where
    go : (l d u m p k e r : Bool) → cond l 1 (cond d 2 (cond u 3 (cond m 4 (cond p 5 (cond k 6 (cond e 7 (cond r 8 0))))))) ≤ 8
    go true d u m p k e r = omega arith
    go false true u m p k e r = omega arith
    go false false true m p k e r = omega arith
    go false false false true p k e r = omega arith
    go false false false false true k e r = omega arith
    go false false false false false true e r = omega arith
    go false false false false false false true r = omega arith
    go false false false false false false false true = omega arith
    go false false false false false false false false = omega arith

-- neither refused nor a CR: what a written text is made of
unfoldable pub calm : ℕ → Bool
calm b = not (is_refused b) && not (is_return b)

-- a byte of a word is none of a gap, ends no line, and is not refused
module _ (b : ℕ) (e : word_byte b ≡ true) where
  word_class : (1 ≤ class_of b) × (class_of b ≤ 5)
  unfolding word_byte
  word_class = let h = and_true (leb 1 (class_of b)) (leb (class_of b) 5) e in (leb-true 1 (class_of b) h.0, leb-true (class_of b) 5 h.1)

  pub word_solid : not (is_gap b) ≡ true
  unfolding is_gap
  word_solid = let h = word_class in rw (ne_eqb (class_of b) 6 (λ z. omega arith), ne_eqb (class_of b) 8 (λ z. omega arith))

  pub word_inline : not (is_end b) ≡ true
  unfolding is_end
  word_inline = let h = word_class in rw (ne_eqb (class_of b) 7 (λ z. omega arith))

  pub word_calm : calm b ≡ true
  unfolding calm is_refused is_return
  word_calm = let h = word_class in rw (ne_eqb (class_of b) 0 (λ z. omega arith), ne_eqb (class_of b) 8 (λ z. omega arith))

-- a byte of a name may stand in a word
pub name_word_byte : (b : ℕ) → name_byte b ≡ true → word_byte b ≡ true
unfolding name_byte word_byte
name_word_byte b e =
    let h = and_true (leb 1 (class_of b)) (leb (class_of b) 3) e in
    let m : class_of b ≤ 3 = leb-true (class_of b) 3 h.1 in
    rw (h.0, le-leb (class_of b) 5 (omega arith))

-- a byte that is not refused, no gap and no line's end may stand in a word
pub word_byte_lem : (b : ℕ) → is_refused b ≡ false → is_gap b ≡ false → is_end b ≡ false → word_byte b ≡ true
unfolding is_refused is_gap is_end word_byte
word_byte_lem b r g e =
    let h = or_false (eqb (class_of b) 6) (eqb (class_of b) 8) g in
    let n0 = eqb-false (class_of b) 0 r in
    let n6 = eqb-false (class_of b) 6 h.0 in
    let n7 = eqb-false (class_of b) 7 e in
    let n8 = eqb-false (class_of b) 8 h.1 in
    let m = class_le b in
    rw (le-leb 1 (class_of b) (omega arith), le-leb (class_of b) 5 (omega arith))

-- past the end of a text stands no LF
pub nought_no_end : is_end 0 ≡ false
unfolding is_end class_of
nought_no_end = refl
