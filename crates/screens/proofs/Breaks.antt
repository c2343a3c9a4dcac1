-- A name with a line break is refused, 34 where the room and the text are right, and nothing is written. Assumes nothing.
use mathlib.Core.Path.{◌≡◌}
use mathlib.Core.Logic.{◌≢◌, ◌⊎◌, inl, inr}
use mathlib.Core.Bool.{true, false}
use mathlib.Core.List.{List}
use Prim.Native.Nat.{ℕ, ◌<◌}
use native.Mathlib.Omega.{arith}
use lib.ListN.{length, get_or}
use borrow.Author.Tests.{eqb-true, lt-ltb}
use Rattle.verdict.specs.declared.Answer.{Answer}
use Rattle.verdict.specs.Verdict.{rule, refused, ◌then◌}
use Rattle.verdict.proofs.Bools.{clash, test}
use Rattle.verdict.proofs.Verdict.{passed, then_next, then_stop}
use Rattle.letters.specs.Class.{class_of, is_end, is_return, name_byte}
use Rattle.names.specs.Name.{is_name}
use Rattle.names.proofs.NameLaws.{name_clean}
use Rattle.text.specs.Reading.{Word}
use Rattle.rooms.specs.Rooms.{room_names, name_verdict}
use Rattle.layoutform.specs.Rewrite.{rename_verdict}
use Rattle.layoutform.proofs.RenameLaws.{names}
use Rattle.layoutform.proofs.Promises.{rename_kept}
use Rattle.sightform.specs.Rewrite.{sight_rename_verdict}
use Rattle.sightform.proofs.Promises.{sight_rename_kept}
use Rattle.screens.specs.TypedName.{HasBreak, BreakRefused}

-- neither LF nor CR stands in a name
break_byte : (b : ℕ) → (is_end b ≡ true) ⊎ (is_return b ≡ true) → name_byte b ≡ false
unfolding name_byte is_end is_return
break_byte b (inl e) = rw (eqb-true (class_of b) 7 e)
break_byte b (inr e) = rw (eqb-true (class_of b) 8 e)

break_no_name : (w : Word) → HasBreak w → is_name w ≡ false
break_no_name w h =
    test (is_name w) (λ (e : is_name w ≡ true). absurd (clash (name_clean w e h.at h.inside) (break_byte (get_or w h.at 0) h.here)))
    (λ (e : is_name w ≡ false). e)

-- behind an accepted text, for a room that is there, 34 is the answer
module _ (v : List ℕ) (i : ℕ) (w : Word) (h : HasBreak w) where
  pub break_34 : i < length (room_names v) → name_verdict v i w ≡ refused 34 0
  unfolding name_verdict rule ◌then◌
  break_34 l = rw (lt-ltb i (length (room_names v)) l, break_no_name w h)

  -- and it is never let through
  pub break_not : (name_verdict v i w).number ≢ 0
  break_not z = clash (names v i w z).name (break_no_name w h)

  behind_text : (a b : Answer) → a.number ≡ 0 → i < length (room_names v) → (a then name_verdict v i w then b) ≡ refused 34 0
  behind_text a b z l = rw (then_next a (name_verdict v i w) z, break_34 l) (then_stop (refused 34 0) (λ q. omega arith) b)

  never : (a b : Answer) → (a then name_verdict v i w then b).number ≢ 0
  never a b z = break_not (passed _ _ (passed _ _ z).0).1

  pub break_refused : (s out : List ℕ) → BreakRefused v s i w out
  unfolding rename_verdict sight_rename_verdict
  break_refused s out = record {
    layout = behind_text _ _;
    sight = behind_text _ _;
    no_layout = never _ _;
    no_sight = never _ _;
    layout_kept = rename_kept v i w out (never _ _);
    sight_kept = sight_rename_kept v s i w out (never _ _);
  }
