-- What a typed name does: it makes no line, and the texts that are written with it are alike to the plain ones but for the name, so it changes
-- nobody else's screen. Assumes nothing.
use mathlib.Core.Path.{◌≡◌, refl, sym, ap, ◌∙◌}
use mathlib.Core.Logic.{inr}
use mathlib.Core.Bool.{true}
use mathlib.Core.List.{List, [], ◌∷◌, map}
use Prim.Native.Nat.{ℕ, ◌<◌}
use native.Mathlib.Omega.{arith}
use lib.ListN.{length, get_or, set, length-map, length-set}
use lib.Seq.{get_or-set_other}
use borrow.Author.Tests.{ltb-true, lt-ltb}
use Rattle.verdict.specs.declared.Answer.{Answer}
use Rattle.verdict.proofs.Verdict.{passed}
use Rattle.letters.specs.Class.{is_end}
use Rattle.letters.specs.Case.{lowered}
use Rattle.letters.proofs.CaseLaws.{lowered_again}
use Rattle.names.specs.Name.{is_name}
use Rattle.names.proofs.NameLaws.{same_name_refl}
use Rattle.number.specs.Number.{plain}
use Rattle.text.specs.Scan.{apart, words}
use Rattle.text.specs.Written.{spaced, word_lines}
use Rattle.text.specs.Reading.{Word, Line, spoken}
use Rattle.text.proofs.RunLaws.{All}
use Rattle.text.proofs.WrittenLaws.{ended_read}
use Rattle.rooms.specs.Rooms.{room_names, name_verdict}
use Rattle.layoutform.specs.Form.{parts_of, form_text}
use Rattle.layoutform.specs.Rewrite.{renamed, renamed_form, rewrite_verdict, rename_verdict}
use Rattle.layoutform.proofs.PartLaws.{parts_good}
use Rattle.layoutform.proofs.FormTrip.{good_accepted, good_again, form_accepted, form_read}
use Rattle.layoutform.proofs.RenameLaws.{Names, names, names_of_parts, renamed_names_lem, renamed_good}
use Rattle.caption.specs.Caption.{has_room, room_name, caption_of}
use Rattle.sight.specs.Sight.{rows_of}
use Rattle.sightform.specs.Form.{seen_line, lines_to, sight_text}
use Rattle.sightform.specs.Rewrite.{shown_names, renamed_names, rewritten_sight, renamed_sight, sight_rewrite_verdict, sight_rename_verdict}
use Rattle.sightform.proofs.SightForm.{words_seen, words_head}
use Rattle.sightform.proofs.SightTrip.{each_line, head_inline, seen_inline}
use Rattle.sightform.proofs.ShownLaws.{form_room_names}
use Rattle.sightform.proofs.Promises.{sight_form_layout, sight_rename_accepted}
use Rattle.screens.specs.Alike.{AlikeLine, Alongside, AlikeLayouts, AlikeSights}
use Rattle.screens.specs.TypedName.{NoNewLine, RenamedScreens, OwnCaption}
use Rattle.screens.proofs.Captions.{shown_is}
use Rattle.screens.proofs.LayoutForms.{renamed_text_alike}
use Rattle.screens.proofs.SightLines.{lines_alongside}
use Rattle.screens.proofs.SightForms.{Named, shown_right, renamed_alike, renamed_right, new_name, renamed_sight_alike}
use Rattle.screens.proofs.Outputs.{handed_form}
use Rattle.screens.proofs.Screens.{same_screens}

-- ---- it makes no line

-- a name that the calls let through
layout_name : (v : List ℕ) (i : ℕ) (w : Word) (room : ℕ) → (rename_verdict v i w room).number ≡ 0 → (name_verdict v i w).number ≡ 0
unfolding rename_verdict
layout_name v i w room z = (passed _ _ (passed _ _ z).0).1

sight_name : (v s : List ℕ) (i : ℕ) (w : Word) (room : ℕ) → (sight_rename_verdict v s i w room).number ≡ 0 → (name_verdict v i w).number ≡ 0
unfolding sight_rename_verdict
sight_name v s i w room z = (passed _ _ (passed _ _ z).0).1

pub no_new_line : (v s : List ℕ) (i : ℕ) (w : Word) → NoNewLine v s i w
no_new_line v s i w = record {
  layout = λ out other y z.
      rw (handed_form (rewrite_verdict v (length out)) (form_text (parts_of v)) out y, handed_form (rename_verdict v i w (length other)) (renamed_form v i w) other z)
      (renamed_text_alike v i w (layout_name v i w (length other) z));
  sight = λ out other y z.
      rw (handed_form (sight_rewrite_verdict v s (length out)) (rewritten_sight v s) out y, handed_form (sight_rename_verdict v s i w (length other)) (renamed_sight v s i w) other z)
      (renamed_sight_alike v i w (sight_name v s i w (length other) z) s);
}

-- ---- layouts written with it

module _ (v : List ℕ) (i : ℕ) (w : Word) (z : (name_verdict v i w).number ≡ 0) where
  n : Names v i w
  n = names v i w z

  plain_names : room_names (form_text (parts_of v)) ≡ shown_names v
  unfolding shown_names
  plain_names = form_room_names (parts_of v) (parts_good v) ∙ names_of_parts v

  typed_names : room_names (renamed_form v i w) ≡ renamed_names v i w
  unfolding renamed_names shown_names renamed
  typed_names =
      form_room_names (renamed (parts_of v) i w) (renamed_good v i w n.name n.new) ∙ renamed_names_lem (parts_of v).rooms i (lowered w)
      ∙ ap (λ (ns : List Word). set ns i (lowered w)) (names_of_parts v)

  -- the typed name of room i there
  typed_name : room_name (renamed_form v i w) i ≡ lowered w
  unfolding room_name
  typed_name = ap (λ (ns : List Word). get_or ns i []) typed_names ∙ new_name v i w z

  has_room_lem : has_room (renamed_form v i w) i ≡ true
  unfolding has_room renamed_names shown_names
  has_room_lem =
      let long = ap length typed_names ∙ length-set (map lowered (room_names v)) i (lowered w) ∙ length-map (room_names v) lowered in
      lt-ltb i _ (omega (arith, ltb-true i (length (room_names v)) n.within, long))

  parts_with : renamed (parts_of v) i (lowered w) ≡ renamed (parts_of v) i w
  unfolding renamed
  parts_with = rw (lowered_again w)

  -- a layout's plain form and its form with the name are alike but for the name
  pub renamed_layouts_alike : AlikeLayouts i (form_text (parts_of v)) (renamed_form v i w)
  renamed_layouts_alike = record {
    reads = ap (λ (a : Answer). a.number) (form_accepted v);
    other_reads = ap (λ (a : Answer). a.number) (good_accepted (renamed (parts_of v) i w) (renamed_good v i w n.name n.new));
    others = λ k h. unfold room_name renamed_names in (rw (plain_names, typed_names) (sym (get_or-set_other (shown_names v) i k (lowered w) [] h)));
    parts = good_again (renamed (parts_of v) i w) (renamed_good v i w n.name n.new) ∙ rw (typed_name, form_read v) (sym parts_with);
  }

pub own_caption : (v : List ℕ) (i : ℕ) (w : Word) → OwnCaption v i w
unfolding caption_of
own_caption v i w room house z =
    let m = layout_name v i w room z in
    shown_is (renamed_form v i w) house i ∙ rw (has_room_lem v i w m) (typed_name v i w m)

-- ---- visibility written with it

-- lines that are not blank, alongside each other
spoken_more : (l : Line) (ls : List Line) → 0 < length l → spoken (l ∷ ls) ≡ l ∷ spoken ls
unfolding spoken
spoken_more [] ls h = absurd (omega arith)
spoken_more (w ∷ ws) ls h = refl

module _ (ns ms : List Word) where
  -- the words of two lines are alike, and there are some
  record Told (l m : List ℕ) : Type 0 where
    alike : AlikeLine ns ms (words l) (words m)
    some : 0 < length (words l)
    other_some : 0 < length (words m)

  spoken_alongside : (ls ks : List (List ℕ)) → Alongside Told ls ks → Alongside (AlikeLine ns ms) (spoken (map words ls)) (spoken (map words ks))
  unfolding spoken
  spoken_alongside [] [] h = tt
  spoken_alongside [] (k ∷ ks) h = absurd h
  spoken_alongside (l ∷ ls) [] h = absurd h
  spoken_alongside (l ∷ ls) (k ∷ ks) (t, h) =
      rw (spoken_more (words l) (map words ls) t.some, spoken_more (words k) (map words ks) t.other_some) (t.alike, spoken_alongside ls ks h)

module _ (ns ms : List Word) (long : length ns ≡ length ms) (f : Named ns) (g : Named ms) where
  -- a line that begins with a room's name
  told_line : (line : Word → List ℕ) (rest : Line) → ((w : Word) → is_name w ≡ true → words (line w) ≡ w ∷ rest) → (i : ℕ) → i < length ns → Told ns ms (line (get_or ns i [])) (line (get_or ms i []))
  told_line line rest h i l =
      let k : i < length ms = omega (arith, long) in
      let x = h (get_or ns i []) (f i l) in
      let y = h (get_or ms i []) (g i k) in
      record {
        alike = inr (rw (x, y) (
          record {
            room = i;
            here = record { name = f i l; inside = l; same = same_name_refl (get_or ns i []) };
            there = record { name = g i k; inside = k; same = same_name_refl (get_or ms i []) };
          },
          refl,
        ));
        some = rw x (omega arith);
        other_some = rw y (omega arith);
      }

  -- the fixed forms with the same rows
  form_told : (rows : List ℕ) → Alongside (AlikeLine ns ms) (spoken (word_lines (sight_text ns rows))) (spoken (word_lines (sight_text ms rows)))
  unfolding sight_text
  form_told rows =
      rw (ended_read (lines_to ns rows (length ns)) (each_line (All (apart is_end)) head_inline seen_inline ns f rows (length ns) (omega arith)), ended_read (lines_to ms rows (length ms)) (each_line (All (apart is_end)) head_inline seen_inline ms g rows (length ms) (omega arith)))
      (spoken_alongside ns ms (lines_to ns rows (length ns)) (lines_to ms rows (length ms))
      (rw (← long) (lines_alongside (Told ns ms) ns ms long (λ i n l. told_line (λ (w : Word). spaced (w ∷ plain n ∷ [])) (plain n ∷ []) (λ w e. words_head w n e) i l) (λ i l. told_line seen_line [] words_seen i l) rows (length ns) (omega arith))))

-- neither rewriting of the visibility is refused: layout and visibility rewritten plainly, and with the name, are alike but for the name
module _ (v s : List ℕ) (i : ℕ) (w : Word) (room other : ℕ) (y : (sight_rewrite_verdict v s room).number ≡ 0) (z : (sight_rename_verdict v s i w other).number ≡ 0) where
  pub renamed_sights_alike : AlikeSights i (form_text (parts_of v)) (renamed_form v i w) (rewritten_sight v s) (renamed_sight v s i w)
  unfolding rewritten_sight renamed_sight
  renamed_sights_alike =
      let m = sight_name v s i w other z in
      record {
        layouts = renamed_layouts_alike v i w m;
        reads = ap (λ (a : Answer). a.number) (sight_form_layout v s room y).0;
        other_reads = ap (λ (a : Answer). a.number) (sight_rename_accepted v s i w other z);
        lines = rw (plain_names v i w m, typed_names v i w m) (form_told (shown_names v) (renamed_names v i w) (renamed_alike v i w m).long (shown_right v) (renamed_right v i w m) (rows_of v s));
      }

-- so no other screen changes
pub renamed_screens : (v s : List ℕ) (i : ℕ) (w : Word) → RenamedScreens v s i w
renamed_screens v s i w room other y z = same_screens i _ _ _ _ (renamed_sights_alike v s i w room other y z)
