-- Numbers and counts can be written as words. Assumes nothing.
use mathlib.Core.Path.{◌≡◌, refl}
use mathlib.Core.Bool.{Bool, true, false}
use mathlib.Core.List.{[], ◌∷◌, ◌++◌}
use Prim.Native.Nat.{ℕ, zero, suc, ◌+◌, ◌/◌, ◌%◌, ◌<◌}
use native.Mathlib.Omega.{arith}
use lib.ListN.{length, length-append}
use Rattle.verdict.specs.Lowest.{lowest, any_under, all_under}
use Rattle.number.specs.declared.Num.{Num}
use Rattle.letters.specs.Class.{class_of, word_byte}
use Rattle.text.specs.Scan.{run}
use Rattle.number.specs.Number.{sign, fixed, plain, width, fraction, printed}
use Rattle.text.proofs.RunLaws.{run_nil, all_cons, all_append}
use Rattle.text.proofs.WrittenLaws.{Plain}
use Rattle.number.proofs.DigitLaws.{digits_all, length_plain, width_is}

-- ---- numbers

digit_word : (k : ℕ) → k < 10 → word_byte (48 + k) ≡ true
unfolding word_byte class_of all_under any_under lowest
digit_word = digits_all word_byte refl

fixed_clean : (k v : ℕ) → run word_byte (fixed k v) ≡ length (fixed k v)
unfolding fixed
fixed_clean zero v = run_nil word_byte
fixed_clean (suc k) v =
    all_append word_byte (fixed k (v / 10)) ((48 + v % 10) ∷ []) (fixed_clean k (v / 10)) (all_cons word_byte (48 + v % 10) [] (digit_word (v % 10) (omega arith)) (run_nil word_byte))

plain_clean : (v : ℕ) → run word_byte (plain v) ≡ length (plain v)
unfolding plain
plain_clean v = fixed_clean (width v) v

sign_clean : (t : Bool) → run word_byte (sign t) ≡ length (sign t)
unfolding word_byte class_of
sign_clean true = all_cons word_byte 45 [] refl (run_nil word_byte)
sign_clean false = run_nil word_byte

fraction_clean : (p v : ℕ) → run word_byte (fraction p v) ≡ length (fraction p v)
unfolding fraction word_byte class_of
fraction_clean zero v = run_nil word_byte
fraction_clean (suc p) v = all_cons word_byte 46 _ refl (fixed_clean (suc p) _)

pub number_plain : (x : Num) → Plain (printed x)
unfolding printed
number_plain x =
    let v = x.millionths / 1000000 in
    let f = fraction x.places x.millionths in
    record {
      some = omega (arith, length-append (sign x.neg) (plain v ++ f), length-append (plain v) f, length_plain v, width_is v);
      clean = all_append word_byte (sign x.neg) (plain v ++ f) (sign_clean x.neg) (all_append word_byte (plain v) f (plain_clean v) (fraction_clean x.places x.millionths));
    }

-- ---- counts

pub count_plain : (v : ℕ) → Plain (plain v)
count_plain v = record { some = omega (arith, length_plain v, width_is v); clean = plain_clean v }
