-- The room of a name: at most the number of rooms, and the room that has the name, where no two rooms have one name. Assumes nothing.
use mathlib.Core.Path.{◌≡◌, ◌∙◌}
use mathlib.Core.Bool.{true}
use mathlib.Core.List.{List, []}
use Prim.Native.Nat.{ℕ, ◌≤◌, ◌<◌}
use native.Mathlib.Omega.{arith}
use lib.ListN.{length, get_or}
use Rattle.verdict.proofs.Lowest.{lowest_is, lowest_only}
use Rattle.letters.specs.Case.{lowered}
use Rattle.names.specs.Name.{same_name}
use Rattle.names.proofs.NameLaws.{same_refl}
use Rattle.text.specs.Reading.{Word}
use Rattle.layout.proofs.ApartLaws.{Apart}
use Rattle.sight.specs.Grammar.{room_of}

pub room_within : (names : List Word) (w : Word) → room_of names w ≤ length names
unfolding room_of
room_within names w = (lowest_is _ (length names)).within

-- names that differ in letter case alone
alike : (v w x : Word) → lowered w ≡ lowered v → same_name w x ≡ same_name v x
unfolding same_name
alike v w x e = rw e

alike_true : (v w : Word) → lowered w ≡ lowered v → same_name w v ≡ true
unfolding same_name
alike_true v w e = rw e (same_refl (lowered v))

-- room j is the room of every word that is its name, letter case ignored
pub room_is : (names : List Word) (w : Word) (j : ℕ) → Apart names → j < length names → lowered w ≡ lowered (get_or names j []) → room_of names w ≡ j
unfolding room_of
room_is names w j a l e =
    lowest_only _ (length names) j (record {
      within = omega arith;
      holds = λ m. alike_true (get_or names j []) w e;
      before = λ i m. alike (get_or names j []) w (get_or names i []) e ∙ a.other i j m l;
    })
