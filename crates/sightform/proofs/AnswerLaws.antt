-- What the calls answer, case by case. Assumes nothing.
use mathlib.Core.Path.{◌≡◌, refl, sym, ap}
use mathlib.Core.List.{List, map}
use Prim.Native.Nat.{ℕ}
use native.Mathlib.Omega.{arith}
use lib.ListN.{length, length-map}
use lib.Seq.{set_out}
use Rattle.std.specs.declared.result.Result.TheVariants.{Ok}
use Rattle.verdict.specs.declared.Form.{Form}
use Rattle.verdict.specs.Verdict.{accepted}
use Rattle.verdict.proofs.Verdict.{then_next}
use Rattle.verdict.proofs.Output.{Answers, third_decides}
use Rattle.letters.specs.Case.{lowered}
use Rattle.text.specs.Reading.{Word}
use Rattle.text.specs.Written.{rule40}
use Rattle.rooms.specs.Rooms.{room_names, name_verdict}
use Rattle.layout.specs.Starts.{Told, layout_read}
use Rattle.rooms.proofs.RoomLaws.{names_are}
use Rattle.sight.specs.Sight.{ToldSight, rows_of, sight_of}
use Rattle.sight.specs.Code.{told_sight}
use Rattle.sight.proofs.AnswerLaws.{sight_told}
use Rattle.sight.proofs.SightLaws.{few_names, rows_good}
use Rattle.sightform.specs.Form.{sight_text}
use Rattle.sightform.specs.Rewrite.{shown_names, renamed_names, rewritten_sight, renamed_sight, sight_rewrite_verdict, sight_rename_verdict}
use Rattle.sightform.specs.Code.{printed_names}

module _ (layout s : List ℕ) where
  own_names : (w : Word) → renamed_names layout 64 w ≡ shown_names layout
  unfolding renamed_names shown_names
  own_names w = set_out (map lowered (room_names layout)) 64 (lowered w) (omega (arith, length-map (room_names layout) lowered, few_names layout))

  -- ---- the rows that were read

  module _ (rows : List ℕ) (ev : told_sight (Ok rows) ≡ sight_of layout s) where
    rows_read : rows ≡ rows_of layout s
    unfolding sight_of
    rows_read = ap (λ (t : ToldSight). t.rows) ev

    pub rows_sized : length rows ≡ 64
    rows_sized = rw rows_read (rows_good layout s).sized

    -- ---- by what was read of the layout

    module _ (r : Told) (a : r ≡ layout_read layout) (o new : List ℕ) (f : Form) (w : Word) where
      printed_are : (i : ℕ) → printed_names layout r.starts r.rooms i w ≡ renamed_names layout i w
      unfolding printed_names renamed_names shown_names
      printed_are i = rw (names_are layout r a)

      pub rewrite_by : (let text = sight_text (printed_names layout r.starts r.rooms 64 w) rows in Answers f new (rule40 text (length o)) text o) → Answers f new (sight_rewrite_verdict layout s (length o)) (rewritten_sight layout s) o
      unfolding sight_rewrite_verdict rewritten_sight
      rewrite_by h =
          rw (sym (sight_told layout s (Ok rows) ev), then_next accepted (rule40 (sight_text (shown_names layout) (rows_of layout s)) (length o)) refl) (rw (printed_are 64, own_names w, rows_read) at h)

      pub rename_by : (i : ℕ) → accepted ≡ name_verdict layout i w → (let text = sight_text (printed_names layout r.starts r.rooms i w) rows in Answers f new (rule40 text (length o)) text o) → Answers f new (sight_rename_verdict layout s i w (length o)) (renamed_sight layout s i w) o
      unfolding sight_rename_verdict renamed_sight
      rename_by i y h =
          third_decides _ _ _ f new (sight_text (renamed_names layout i w) (rows_of layout s)) o accepted (sym (sight_told layout s (Ok rows) ev)) y refl (rw (printed_are i, rows_read) at h)
