-- Worked examples, computed. Assumes nothing.
use mathlib.Core.Path.{◌≡◌, refl}
use mathlib.Core.Bool.{true, false}
use mathlib.Core.List.{[], ◌∷◌}
use Rattle.letters.specs.Class.{class_of, is_digit}
use Rattle.text.specs.Scan.{run}
use Rattle.letters.specs.Case.{lower, lowered}
use Rattle.text.specs.Written.{after, spaced}
use Rattle.number.specs.Count.{value}
use Rattle.number.specs.Number.{minus, count, says, right, some, none, number_of, fixed, width, plain, fraction, printed}

-- `1.5`
one_and_half : number_of (49 ∷ 46 ∷ 53 ∷ []) ≡ record { ok = true; neg = false; millionths = 1500000; places = 1 }
unfolding number_of class_of is_digit run value minus count says right some none
one_and_half = refl

-- `-0` has no minus
minus_nought : number_of (45 ∷ 48 ∷ []) ≡ record { ok = true; neg = false; millionths = 0; places = 0 }
unfolding number_of class_of is_digit run value minus count says right some none
minus_nought = refl

-- `1.` is no number
no_digits : number_of (49 ∷ 46 ∷ []) ≡ record { ok = false; neg = false; millionths = 0; places = 0 }
unfolding number_of class_of is_digit run value minus count says right some none
no_digits = refl

-- `007.10` is written `7.10`, and `-0.00` is written `0.00`
as_typed : printed (number_of (48 ∷ 48 ∷ 55 ∷ 46 ∷ 49 ∷ 48 ∷ [])) ≡ 55 ∷ 46 ∷ 49 ∷ 48 ∷ []
unfolding printed plain fixed width fraction number_of class_of is_digit run value minus count says right some none
as_typed = refl

no_minus_nought : printed (number_of (45 ∷ 48 ∷ 46 ∷ 48 ∷ 48 ∷ [])) ≡ 48 ∷ 46 ∷ 48 ∷ 48 ∷ []
unfolding printed plain fixed width fraction number_of class_of is_digit run value minus count says right some none
no_minus_nought = refl

-- the case of the paper: room `Hall 1.5 0 -0` is written `hall 1.5 0 0`
hall : spaced (lowered (72 ∷ 97 ∷ 108 ∷ 108 ∷ []) ∷ printed (number_of (49 ∷ 46 ∷ 53 ∷ [])) ∷ printed (number_of (48 ∷ [])) ∷ printed (number_of (45 ∷ 48 ∷ [])) ∷ [])
    ≡ 104 ∷ 97 ∷ 108 ∷ 108 ∷ 32 ∷ 49 ∷ 46 ∷ 53 ∷ 32 ∷ 48 ∷ 32 ∷ 48 ∷ []
unfolding spaced after lowered lower printed plain fixed width fraction number_of class_of is_digit run value minus count says right some none
hall = refl
