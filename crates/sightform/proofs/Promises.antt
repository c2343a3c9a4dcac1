-- What a caller may rely on: rewritten visibility is read back as the same rows and written again as the same bytes, with the layout, its
-- fixed form, or the layout with the new name; refused calls leave the output. Assumes nothing.
use mathlib.Core.Path.{◌≡◌, sym, ap}
use mathlib.Core.List.{List}
use Prim.Native.Nat.{ℕ, ◌≤◌}
use lib.ListN.{length}
use Rattle.verdict.specs.declared.Answer.{Answer}
use Rattle.verdict.specs.Output.{form_memory}
use Rattle.verdict.specs.Verdict.{accepted}
use Rattle.verdict.proofs.Output.{form_refused}
use Rattle.verdict.proofs.Verdict.{passed, then_next}
use Rattle.text.specs.Reading.{Word}
use Rattle.text.specs.Sound.{rules31to32}
use Rattle.layout.specs.Layout.{layout_verdict}
use Rattle.layoutform.specs.Form.{parts_of, form_text}
use Rattle.layoutform.specs.Rewrite.{renamed}
use Rattle.rooms.specs.Rooms.{room_names, name_verdict}
use Rattle.layoutform.proofs.FormTrip.{form_accepted, good_accepted}
use Rattle.layoutform.proofs.RenameLaws.{Names, names, renamed_good}
use Rattle.sight.specs.Sight.{sight_verdict, rows_of, sight_of}
use Rattle.sightform.specs.Form.{sight_text}
use Rattle.sightform.specs.Rewrite.{shown_names, rewritten_sight, renamed_sight, sight_rewrite_verdict, sight_rename_verdict}
use Rattle.sight.proofs.RowsGood.{GoodRows}
use Rattle.sight.proofs.SightLaws.{sight_passed, rows_good}
use Rattle.sightform.proofs.SightTrip.{text_accepted, text_read, text_twice, within_40}
use Rattle.sightform.proofs.ShownLaws.{shown_again, rooms_again, shown_renamed, rooms_renamed, grammar_again}

-- ---- rewriting

module _ (layout s : List ℕ) (room : ℕ) (z : (sight_rewrite_verdict layout s room).number ≡ 0) where
  parts : ((sight_verdict layout s).number ≡ 0) × (length (sight_text (shown_names layout) (rows_of layout s)) ≤ 65536)
  unfolding sight_rewrite_verdict rewritten_sight
  parts = let a = passed _ _ z in (a.0, (within_40 _ room a.1).1)

  reads : (layout_verdict layout).number ≡ 0
  reads = (sight_passed layout s parts.0).0

  -- the fixed form is accepted ..
  pub sight_form_accepted : sight_verdict layout (rewritten_sight layout s) ≡ accepted
  unfolding rewritten_sight
  sight_form_accepted = text_accepted layout (rows_of layout s) reads (rows_good layout s) parts.1

  -- .. and read as the same rows ..
  pub sight_form_read : rows_of layout (rewritten_sight layout s) ≡ rows_of layout s
  unfolding rewritten_sight
  sight_form_read = text_read layout (rows_of layout s) reads (rows_good layout s) parts.1

  -- .. and a second rewriting changes no byte
  pub sight_form_twice : rewritten_sight layout (rewritten_sight layout s) ≡ rewritten_sight layout s
  unfolding rewritten_sight
  sight_form_twice = text_twice layout (rows_of layout s) reads (rows_good layout s) parts.1

  -- the same with the layout's own fixed form in place of the layout
  pub sight_form_layout : (sight_verdict (form_text (parts_of layout)) (rewritten_sight layout s) ≡ accepted) × ((rows_of (form_text (parts_of layout)) (rewritten_sight layout s) ≡ rows_of layout s) × (rewritten_sight (form_text (parts_of layout)) (rewritten_sight layout s) ≡ rewritten_sight layout s))
  sight_form_layout = rw (← again) (text_accepted new rows right good short, (text_read new rows right good short, text_twice new rows right good short))
    where
      new : List ℕ
      new = form_text (parts_of layout)

      rows : List ℕ
      rows = rows_of layout s

      again : sight_text (shown_names new) rows ≡ rewritten_sight layout s
      again = unfold rewritten_sight in (ap (λ (ns : List Word). sight_text ns rows) (shown_again layout))

      right : (layout_verdict new).number ≡ 0
      right = ap (λ (v : Answer). v.number) (form_accepted layout)

      good : GoodRows (length (room_names new)) rows
      good = rw (rooms_again layout) (rows_good layout s)

      short : length (sight_text (shown_names new) rows) ≤ 65536
      short = rw (shown_again layout) parts.1

-- ---- rewriting with a name

module _ (layout s : List ℕ) (i : ℕ) (w : Word) (room : ℕ) (z : (sight_rename_verdict layout s i w room).number ≡ 0) where
  name_parts : ((name_verdict layout i w).number ≡ 0) × (length (renamed_sight layout s i w) ≤ 65536)
  unfolding sight_rename_verdict
  name_parts = let a = passed _ _ z in ((passed _ _ a.0).1, (within_40 _ room a.1).1)

  -- the visibility is read back with the layout rewritten with the same name: it is accepted, read as the same rows, and a second
  -- rewriting changes no byte
  renamed_back : (sight_verdict (form_text (renamed (parts_of layout) i w)) (renamed_sight layout s i w) ≡ accepted) × ((rows_of (form_text (renamed (parts_of layout) i w)) (renamed_sight layout s i w) ≡ rows_of layout s) × (rewritten_sight (form_text (renamed (parts_of layout) i w)) (renamed_sight layout s i w) ≡ renamed_sight layout s i w))
  renamed_back = rw (← again) (text_accepted new rows right good short, (text_read new rows right good short, text_twice new rows right good short))
    where
      new : List ℕ
      new = form_text (renamed (parts_of layout) i w)

      rows : List ℕ
      rows = rows_of layout s

      n : Names layout i w
      n = names layout i w name_parts.0

      again : sight_text (shown_names new) rows ≡ renamed_sight layout s i w
      again = unfold renamed_sight in (ap (λ (ns : List Word). sight_text ns rows) (shown_renamed layout i w n.name n.new))

      right : (layout_verdict new).number ≡ 0
      right = ap (λ (v : Answer). v.number) (good_accepted _ (renamed_good layout i w n.name n.new))

      good : GoodRows (length (room_names new)) rows
      good = rw (rooms_renamed layout i w n.name n.new) (rows_good layout s)

      short : length (sight_text (shown_names new) rows) ≤ 65536
      short = rw again name_parts.1

  pub sight_rename_accepted : sight_verdict (form_text (renamed (parts_of layout) i w)) (renamed_sight layout s i w) ≡ accepted
  sight_rename_accepted = renamed_back.0

  pub sight_rename_read : rows_of (form_text (renamed (parts_of layout) i w)) (renamed_sight layout s i w) ≡ rows_of layout s
  sight_rename_read = renamed_back.1.0

  pub sight_rename_twice : rewritten_sight (form_text (renamed (parts_of layout) i w)) (renamed_sight layout s i w) ≡ renamed_sight layout s i w
  sight_rename_twice = renamed_back.1.1

-- ---- a refused rewriting, with a name or without, leaves the output as it was

pub sight_rewrite_kept : (layout s o : List ℕ) → ((sight_rewrite_verdict layout s (length o)).number ≡ 0 → ⊥) → form_memory (sight_rewrite_verdict layout s (length o)) (rewritten_sight layout s) o ≡ o
sight_rewrite_kept layout s o z = sym (form_refused (sight_rewrite_verdict layout s (length o)) (rewritten_sight layout s) o z).1

pub sight_rename_kept : (layout s : List ℕ) (i : ℕ) (w : Word) (o : List ℕ) → ((sight_rename_verdict layout s i w (length o)).number ≡ 0 → ⊥) → form_memory (sight_rename_verdict layout s i w (length o)) (renamed_sight layout s i w) o ≡ o
sight_rename_kept layout s i w o z = sym (form_refused (sight_rename_verdict layout s i w (length o)) (renamed_sight layout s i w) o z).1

-- ---- reading

-- a layout that is accepted and its fixed form read every visibility alike
pub sight_same_layout : (layout s : List ℕ) → (layout_verdict layout).number ≡ 0 → sight_of (form_text (parts_of layout)) s ≡ sight_of layout s
sight_same_layout layout s a = unfold sight_of rows_of in (rw (same, grammar_again layout s))
  where
    new : List ℕ
    new = form_text (parts_of layout)

    same : sight_verdict new s ≡ sight_verdict layout s
    same = unfold sight_verdict in (rw (then_next (layout_verdict new) (rules31to32 s) (ap (λ (v : Answer). v.number) (form_accepted layout)), then_next (layout_verdict layout) (rules31to32 s) a, grammar_again layout s))
