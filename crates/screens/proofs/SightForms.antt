-- Visibility that is alike but for one name: the fixed forms differ in no line but those that hold it; and so do a form and the form with a
-- typed name. Assumes nothing.
use mathlib.Core.Path.{◌≡◌, refl, sym, ap, ◌∙◌}
use mathlib.Core.Logic.{◌≢◌, inl, inr}
use mathlib.Core.Bool.{true}
use mathlib.Core.List.{List, [], ◌∷◌}
use Prim.Native.Nat.{ℕ, ◌<◌}
use native.Mathlib.Omega.{arith}
use native.Mathlib.Decide.{ℕ_discrete}
use lib.ListN.{length, get_or, length-map, length-set}
use lib.Seq.{get_or-set_same, get_or-set_other}
use borrow.Author.Tests.{ltb-true}
use Rattle.verdict.proofs.Bools.{decided}
use Rattle.letters.specs.Class.{is_end}
use Rattle.letters.specs.Case.{lowered}
use Rattle.names.specs.Name.{is_name}
use Rattle.names.proofs.NameLaws.{name_lowered}
use Rattle.number.specs.Number.{plain}
use Rattle.text.specs.Scan.{apart, words}
use Rattle.text.specs.Written.{spaced}
use Rattle.text.specs.Reading.{Word, Line}
use Rattle.text.proofs.RunLaws.{All}
use Rattle.rooms.specs.Rooms.{room_names, name_verdict}
use Rattle.caption.specs.Caption.{room_name}
use Rattle.layoutform.proofs.RenameLaws.{names}
use Rattle.sight.specs.Sight.{rows_of}
use Rattle.sight.proofs.SightLaws.{names_right}
use Rattle.sightform.specs.Form.{seen_line, lines_to, sight_text}
use Rattle.sightform.specs.Rewrite.{shown_names, renamed_names, rewritten_sight, renamed_sight}
use Rattle.sightform.proofs.SightForm.{words_seen, words_head}
use Rattle.sightform.proofs.SightTrip.{each_line, head_inline, seen_inline}
use Rattle.screens.specs.Alike.{AlikeLayouts, AlikeSights}
use Rattle.screens.specs.Shown.{SameLine, SameBut}
use Rattle.screens.specs.Screens.{form_name}
use Rattle.screens.proofs.NameLaws.{AlikeNames, shown_with, alike_names}
use Rattle.screens.proofs.LineLaws.{begin_apart, ended_same}
use Rattle.screens.proofs.SightLines.{lines_alongside}
use Rattle.screens.proofs.LayoutForms.{map_past}
use Rattle.screens.proofs.Rows.{rows_alike}

-- each is a name
abbrev pub Named : List Word → Type 0
Named ns = (i : ℕ) → i < length ns → is_name (get_or ns i []) ≡ true

module _ (j : ℕ) (ns ms : List Word) (a : AlikeNames j ns ms) (f : Named ns) (g : Named ms) where
  -- ---- a line that begins with a room's name

  abbrev R : List ℕ → List ℕ → Type 0
  R = SameLine (get_or ns j []) (get_or ms j [])

  line_of : (line : Word → List ℕ) (rest : Line) → ((w : Word) → is_name w ≡ true → words (line w) ≡ w ∷ rest) → (i : ℕ) → i < length ns → R (line (get_or ns i [])) (line (get_or ms i []))
  line_of line rest h i l =
      decided (ℕ_discrete i j)
      (λ (e : i ≡ j).
      let k : j < length ns = rw e at l in
      inr (rw (e, h (get_or ns j []) (f j k), h (get_or ms j []) (g j (omega (arith, a.long)))) (begin_apart (get_or ns j []) (get_or ms j []) rest rest refl)))
      (λ (n : i ≢ j). inl (ap line (a.others i l n)))

  pub sight_texts_by : (rows : List ℕ) → SameBut (get_or ns j []) (get_or ms j []) (sight_text ns rows) (sight_text ms rows)
  unfolding sight_text
  sight_texts_by rows =
      ended_same (get_or ns j []) (get_or ms j []) (lines_to ns rows (length ns)) (lines_to ms rows (length ms))
      (each_line (All (apart is_end)) head_inline seen_inline ns f rows (length ns) (omega arith))
      (each_line (All (apart is_end)) head_inline seen_inline ms g rows (length ms) (omega arith))
      (rw (← a.long) (lines_alongside R ns ms a.long (λ i n l. line_of (λ (w : Word). spaced (w ∷ plain n ∷ [])) (plain n ∷ []) (λ w e. words_head w n e) i l) (λ i l. line_of seen_line [] words_seen i l) rows (length ns) (omega arith)))

-- ---- the names that a layout shows

shown_at : (layout : List ℕ) (i : ℕ) → get_or (shown_names layout) i [] ≡ lowered (get_or (room_names layout) i [])
unfolding shown_names lowered
shown_at layout i = map_past lowered [] (room_names layout) i

pub shown_long : (layout : List ℕ) → length (shown_names layout) ≡ length (room_names layout)
unfolding shown_names
shown_long layout = length-map (room_names layout) lowered

pub shown_right : (layout : List ℕ) → Named (shown_names layout)
shown_right layout i l = rw (shown_at layout i) (name_lowered _ (names_right layout i (omega (arith, shown_long layout))))

shown_name : (layout : List ℕ) (j : ℕ) → get_or (shown_names layout) j [] ≡ form_name layout j
unfolding room_name
shown_name layout j = shown_at layout j

pub shown_alike : (j : ℕ) (v w : List ℕ) → AlikeLayouts j v w → AlikeNames j (shown_names v) (shown_names w)
shown_alike j v w a =
    let n = alike_names j v w a in
    record {
      long = shown_long v ∙ n.long ∙ sym (shown_long w);
      others = λ i l k. shown_at v i ∙ ap lowered (n.others i (omega (arith, shown_long v)) k) ∙ sym (shown_at w i);
    }

-- ---- two texts of visibility

-- the second's form is the first's, rewritten with the second's name
pub sight_with_name : (j : ℕ) (v w s t : List ℕ) → AlikeSights j v w s t → rewritten_sight w t ≡ renamed_sight v s j (room_name w j)
unfolding rewritten_sight renamed_sight
sight_with_name j v w s t a = rw (shown_with j v w a.layouts, rows_alike j v w s t a)

pub sight_forms_alike : (j : ℕ) (v w s t : List ℕ) → AlikeSights j v w s t → SameBut (form_name v j) (form_name w j) (rewritten_sight v s) (rewritten_sight w t)
unfolding rewritten_sight
sight_forms_alike j v w s t a =
    rw (← shown_name v j, ← shown_name w j, ← rows_alike j v w s t a)
    (sight_texts_by j (shown_names v) (shown_names w) (shown_alike j v w a.layouts) (shown_right v) (shown_right w) (rows_of v s))

-- ---- a typed name

module _ (layout : List ℕ) (i : ℕ) (w : Word) (z : (name_verdict layout i w).number ≡ 0) where
  inside : i < length (shown_names layout)
  inside = omega (arith, ltb-true i (length (room_names layout)) (names layout i w z).within, shown_long layout)

  pub renamed_alike : AlikeNames i (shown_names layout) (renamed_names layout i w)
  unfolding renamed_names
  renamed_alike = record {
    long = sym (length-set (shown_names layout) i (lowered w));
    others = λ k l n. sym (get_or-set_other (shown_names layout) i k (lowered w) [] n);
  }

  pub new_name : get_or (renamed_names layout i w) i [] ≡ lowered w
  unfolding renamed_names
  new_name = get_or-set_same (shown_names layout) i (lowered w) [] inside

  pub renamed_right : Named (renamed_names layout i w)
  renamed_right k l =
      decided (ℕ_discrete k i) (λ (e : k ≡ i). rw (e, new_name) (name_lowered w (names layout i w z).name))
      (λ (n : k ≢ i). let h : k < length (shown_names layout) = omega (arith, renamed_alike.long) in rw (← renamed_alike.others k h n) (shown_right layout k h))

  -- a form with a typed name has as many lines as the plain one, and differs from it in no line but those that hold the name
  pub renamed_sight_alike : (s : List ℕ) → SameBut (form_name layout i) (lowered w) (rewritten_sight layout s) (renamed_sight layout s i w)
  unfolding rewritten_sight renamed_sight
  renamed_sight_alike s =
      rw (← shown_name layout i, ← new_name) (sight_texts_by i (shown_names layout) (renamed_names layout i w) renamed_alike (shown_right layout) renamed_right (rows_of layout s))
