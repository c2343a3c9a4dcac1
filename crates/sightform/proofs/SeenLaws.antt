-- The seen rooms that are written: as many as a row has set marks. Assumes nothing.
use mathlib.Core.Path.{◌≡◌, refl, sym, ◌∙◌}
use mathlib.Core.Bool.{Bool, true, false, cond}
use mathlib.Core.List.{List, [], ◌∷◌}
use Prim.Native.Nat.{ℕ, zero, suc, ◌%◌, ◌^◌, ◌<◌}
use native.Mathlib.Omega.{arith}
use lib.Count.{ones}
use lib.ListN.{length, get_or, length-append}
use Rattle.verdict.specs.Lists.{bit, tally}
use Rattle.text.specs.Reading.{Word}
use Rattle.sight.specs.Rows.{sees}
use Rattle.sight.proofs.LowLaws.{low_tally, ones_tally}
use Rattle.sightform.specs.Form.{seen_to}

piece_long : (b : Bool) (w : Word) → length (cond b (w ∷ []) []) ≡ bit b
piece_long true w = refl
piece_long false w = refl

-- as many are written as marks are set
pub seen_tally : (names : List Word) (row n : ℕ) → length (seen_to names row n) ≡ tally n (sees row)
unfolding seen_to tally
seen_tally names row zero = refl
seen_tally names row (suc n) =
    let ih : length (seen_to names row n) ≡ tally n (sees row) = seen_tally names row n in
    length-append (seen_to names row n) (cond (sees row n) (get_or names n [] ∷ []) []) ∙ omega (arith, piece_long (sees row n) (get_or names n []))

pub seen_count_low : (names : List Word) (row n : ℕ) → length (seen_to names row n) ≡ ones (row % 2 ^ n)
seen_count_low names row n = seen_tally names row n ∙ sym (low_tally row n)

pub seen_count : (names : List Word) (row n : ℕ) → row < 2 ^ n → length (seen_to names row n) ≡ ones row
seen_count names row n h = seen_tally names row n ∙ sym (ones_tally row n h)
