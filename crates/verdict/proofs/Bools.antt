-- Laws of tests, for every crate. Assumes nothing.
use mathlib.Core.Path.{◌≡◌, refl}
use mathlib.Core.Bool.{Bool, true, false, not, ◌&&◌, ◌||◌}
use Prim.Native.Nat.{ℕ}
use native.Mathlib.Omega.{arith}
use lib.Dec.{T}

-- a test does not give both
pub clash : {A : Type 0} {t : Bool} → t ≡ true → t ≡ false → A
clash e f = let z : ◌≡◌ {A = ℕ} 0 1 = cc in absurd (omega arith)

-- by the two values of a test
pub test : {C : Type 0} (b : Bool) → (b ≡ true → C) → (b ≡ false → C) → C
test true f g = f refl
test false f g = g refl

-- by whether a thing is so or not
pub decided : {P C : Type 0} → Dec P → (P → C) → (¬ P → C) → C
decided (yes p) f g = f p
decided (no q) f g = g q

-- two tests that pass together are equal
pub same_test : (a b : Bool) → (a ≡ true → b ≡ true) → (b ≡ true → a ≡ true) → a ≡ b
same_test true true f g = refl
same_test true false f g = clash (f refl) refl
same_test false true f g = clash (g refl) refl
same_test false false f g = refl

-- a test that passes, as the library's proposition and as an equation
pub T_true : (b : Bool) → T b → b ≡ true
T_true true t = refl
T_true false t = absurd t

pub true_T : (b : Bool) → b ≡ true → T b
true_T true e = tt
true_T false e = clash e refl

-- ---- `and`, `or`, `not`

pub and_true : (a b : Bool) → (a && b) ≡ true → (a ≡ true) × (b ≡ true)
and_true true b e = (refl, e)
and_true false b e = clash e refl

pub true_and : (a b : Bool) → a ≡ true → b ≡ true → (a && b) ≡ true
true_and a b e f = rw (e, f)

pub and_false : (a b : Bool) → (a && b) ≡ false → a ≡ true → b ≡ false
and_false true b e f = e
and_false false b e f = clash f refl

pub and_no : (a : Bool) → (a && false) ≡ false
and_no true = refl
and_no false = refl

pub and_yes : (a : Bool) → (a && true) ≡ a
and_yes true = refl
and_yes false = refl

pub or_false : (a b : Bool) → (a || b) ≡ false → (a ≡ false) × (b ≡ false)
or_false true b e = clash refl e
or_false false b e = (refl, e)

pub false_or : (a b : Bool) → a ≡ false → b ≡ false → (a || b) ≡ false
false_or a b e f = rw (e, f)

pub not_of_true : (b : Bool) → b ≡ true → not b ≡ false
not_of_true b e = rw e

pub not_of_false : (b : Bool) → b ≡ false → not b ≡ true
not_of_false b e = rw e

pub not_not : (b : Bool) → not (not b) ≡ b
not_not true = refl
not_not false = refl
