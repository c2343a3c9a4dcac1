-- Lists each entry of which has a property. Assumes nothing.
use mathlib.Core.List.{List, [], ◌∷◌, ◌++◌, map}
use Prim.Native.Nat.{ℕ, zero, suc, ◌<◌}
use native.Mathlib.Nat.{le_of_suc-le-suc}
use native.Mathlib.Omega.{arith}
use lib.ListN.{length, get_or}

abbrev pub Each : {A : Type 0} → (A → Type 0) → List A → Type 0
Each P [] = Unit
Each P (x ∷ xs) = P x × Each P xs

module _ {A : Type 0} (P : A → Type 0) where
  pub each_append : (xs ys : List A) → Each P xs → Each P ys → Each P (xs ++ ys)
  each_append [] ys h k = k
  each_append (x ∷ xs) ys (p, h) k = (p, each_append xs ys h k)

  pub each_more : (xs : List A) (x : A) → Each P xs → P x → Each P (xs ++ (x ∷ []))
  each_more xs x h p = each_append xs (x ∷ []) h (p, tt)

  -- the entry of a number, and what stands for it past the last
  pub each_at : (d : A) (xs : List A) → Each P xs → (k : ℕ) → k < length xs → P (get_or xs k d)
  each_at d [] h k l = absurd (omega arith)
  each_at d (x ∷ xs) (p, h) zero l = p
  each_at d (x ∷ xs) (p, h) (suc k) l = each_at d xs h k (le_of_suc-le-suc l)

  pub each_or : (d : A) → P d → (xs : List A) → Each P xs → (k : ℕ) → P (get_or xs k d)
  each_or d o [] h k = o
  each_or d o (x ∷ xs) (p, h) zero = p
  each_or d o (x ∷ xs) (p, h) (suc k) = each_or d o xs h k

  pub each_of : (d : A) (xs : List A) → ((k : ℕ) → k < length xs → P (get_or xs k d)) → Each P xs
  each_of d [] h = tt
  each_of d (x ∷ xs) h = (h zero (omega arith), each_of d xs (λ k l. h (suc k) (omega arith)))

-- a property that follows from another
pub each_as : {A : Type 0} (P Q : A → Type 0) → ((x : A) → P x → Q x) → (xs : List A) → Each P xs → Each Q xs
each_as P Q f [] h = tt
each_as P Q f (x ∷ xs) (p, h) = (f x p, each_as P Q f xs h)

pub each_map : {A B : Type 0} (P : A → Type 0) (Q : B → Type 0) (f : A → B) → ((x : A) → P x → Q (f x)) → (xs : List A) → Each P xs → Each Q (map f xs)
each_map P Q f g [] h = tt
each_map P Q f g (x ∷ xs) (p, h) = (g x p, each_map P Q f g xs h)
