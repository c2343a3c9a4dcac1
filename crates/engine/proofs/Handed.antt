-- What is answered for a 32-bit number with a sign that is passed on is answered for the number that was handed in. Assumes nothing.
use mathlib.Core.Path.{◌≡◌, ap, ◌∙◌}
use lib.IntN.{ℤ}
use mir.Syntax.{w32}
use mir.Val.{SFits, to_z, of_z}
use mir.ValLaws.{to_z-of_z}

pub handed : {A : Type 0} (f : ℤ → A) (x : ℤ) → SFits w32 x → {r : A} → r ≡ f (to_z w32 (of_z w32 x)) → r ≡ f x
handed f x h e = e ∙ ap f (to_z-of_z w32 x h)

pub handed_both : {A : Type 0} (f : ℤ → ℤ → A) (x y : ℤ) → SFits w32 x → SFits w32 y → {r : A} → r ≡ f (to_z w32 (of_z w32 x)) (to_z w32 (of_z w32 y)) → r ≡ f x y
handed_both f x y h k e = handed (f x) y k (handed (λ z. f z (to_z w32 (of_z w32 y))) x h e)
