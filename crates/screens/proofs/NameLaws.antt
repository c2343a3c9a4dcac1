-- The names of two layouts that are alike but for the name of one room: how many, the others, and which room a word names. Assumes nothing.
use mathlib.Core.Path.{◌≡◌, sym, ap, ◌∙◌}
use mathlib.Core.Logic.{◌≢◌}
use mathlib.Core.List.{List, [], map}
use Prim.Native.Nat.{ℕ, ◌<◌}
use native.Mathlib.Omega.{arith}
use native.Mathlib.Decide.{ℕ_discrete}
use lib.ListN.{length, get_or, set, length-map, length-set}
use Rattle.verdict.proofs.Bools.{decided}
use Rattle.letters.specs.Case.{lowered}
use Rattle.text.specs.Reading.{Word}
use Rattle.layout.proofs.ApartLaws.{Apart}
use Rattle.rooms.specs.Rooms.{room_names}
use Rattle.layoutform.specs.Form.{LayoutParts, parts_of}
use Rattle.layoutform.specs.Rewrite.{renamed}
use Rattle.layoutform.proofs.PartLaws.{part_names}
use Rattle.layoutform.proofs.RenameLaws.{renamed_names_lem, names_of_parts}
use Rattle.caption.specs.Caption.{room_name}
use Rattle.sight.specs.Plain.{NamesRoom}
use Rattle.sight.proofs.BlockLaws.{named_room}
use Rattle.sightform.specs.Rewrite.{shown_names, renamed_names}
use Rattle.screens.specs.Alike.{AlikeLayouts}

-- as many names, and the same but that of room j
pub record AlikeNames (j : ℕ) (ns ms : List Word) : Type 0 where
  pub long : length ns ≡ length ms
  pub others : (i : ℕ) → i < length ns → i ≢ j → get_or ns i [] ≡ get_or ms i []

-- the names in lower case are those of the first layout with the second's name for room j
pub shown_with : (j : ℕ) (v w : List ℕ) → AlikeLayouts j v w → shown_names w ≡ renamed_names v j (room_name w j)
unfolding shown_names renamed_names renamed
shown_with j v w a =
    sym (names_of_parts w) ∙ ap (λ (p : LayoutParts). part_names p.rooms) a.parts ∙ renamed_names_lem (parts_of v).rooms j (lowered (room_name w j))
    ∙ ap (λ (ns : List Word). set ns j (lowered (room_name w j))) (names_of_parts v)

pub alike_names : (j : ℕ) (v w : List ℕ) → AlikeLayouts j v w → AlikeNames j (room_names v) (room_names w)
unfolding room_name shown_names renamed_names
alike_names j v w a = record {
  long = omega (arith, ap length (shown_with j v w a), length-set (map lowered (room_names v)) j (lowered (room_name w j)), length-map (room_names v) lowered, length-map (room_names w) lowered);
  others = λ i l n. a.others i n;
}

pub names_back : (j : ℕ) (ns ms : List Word) → AlikeNames j ns ms → AlikeNames j ms ns
names_back j ns ms a = record { long = sym a.long; others = λ i l n. sym (a.others i (omega (arith, a.long)) n) }

-- a word that names another room names it in both
names_other : (j : ℕ) (ns ms : List Word) → AlikeNames j ns ms → (w : Word) (i : ℕ) → i ≢ j → NamesRoom ns w i → NamesRoom ms w i
names_other j ns ms a w i n r = record {
  name = r.name;
  inside = omega (arith, a.long, r.inside);
  same = rw (← a.others i r.inside n) r.same;
}

-- a word that names a room in both names one room: not another than j in one and j in the other, for no two rooms have one name
pub names_one : (j : ℕ) (ns ms : List Word) → AlikeNames j ns ms → Apart ns → Apart ms → (w : Word) (i k : ℕ) → NamesRoom ns w i → NamesRoom ms w k → i ≡ k
names_one j ns ms a p q w i k r s =
    decided (ℕ_discrete i j)
    (λ (e : i ≡ j).
    decided (ℕ_discrete k j) (λ (f : k ≡ j). e ∙ sym f)
    (λ (n : k ≢ j). sym (named_room ns p w i r) ∙ named_room ns p w k (names_other j ms ns (names_back j ns ms a) w k n s)))
    (λ (n : i ≢ j). sym (named_room ms q w i (names_other j ns ms a w i n r)) ∙ named_room ms q w k s)
