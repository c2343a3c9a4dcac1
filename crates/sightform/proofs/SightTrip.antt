-- The fixed form's text of right rows is accepted against its layout and read as the same rows, where it is not too long. Assumes nothing.
use mathlib.Core.Path.{◌≡◌, ap, ◌∙◌}
use mathlib.Core.Bool.{Bool, true, false, cond}
use mathlib.Core.List.{List, [], ◌∷◌, map, map-append}
use Prim.Native.Nat.{ℕ, zero, suc, ◌≤◌, ◌<◌}
use native.Mathlib.Omega.{arith}
use lib.Count.{ones}
use lib.Dec.{ltb}
use lib.ListN.{length, get_or, length-map}
use borrow.Author.Tests.{ltb-false}
use Rattle.verdict.specs.declared.Answer.{Answer}
use Rattle.verdict.specs.Verdict.{accepted}
use Rattle.verdict.proofs.Bools.{or_false}
use Rattle.verdict.proofs.Lists.{map_at_lem}
use Rattle.verdict.proofs.Verdict.{unbroken}
use Rattle.letters.specs.Class.{is_end, word_byte}
use Rattle.names.specs.Name.{is_name}
use Rattle.letters.specs.Case.{lowered}
use Rattle.number.specs.Number.{plain}
use Rattle.text.specs.Scan.{apart}
use Rattle.text.specs.Sound.{rules31to32}
use Rattle.text.specs.Written.{spaced, rule40}
use Rattle.letters.proofs.ClassLaws.{calm, word_calm}
use Rattle.names.proofs.NameLaws.{name_lowered}
use Rattle.letters.proofs.CaseLaws.{lowered_again}
use Rattle.text.proofs.RunLaws.{All, all_from}
use Rattle.names.proofs.WordLaws.{name_plain}
use Rattle.number.proofs.WordLaws.{count_plain}
use Rattle.text.proofs.WrittenLaws.{plain_inline, inline_spaced, calm_spaced, inline_space, calm_space, ended_read, ended_sound}
use Rattle.text.specs.Reading.{Word, read_lines}
use Rattle.layout.specs.Layout.{layout_verdict}
use Rattle.rooms.specs.Rooms.{room_names}
use Rattle.verdict.proofs.Each.{Each, each_append}
use Rattle.sight.specs.Rows.{sees}
use Rattle.sight.specs.Grammar.{start, Reading, sight_grammar}
use Rattle.sight.specs.Sight.{grammar, sight_verdict, rows_of}
use Rattle.sightform.specs.Form.{seen_to, seen_line, room_lines, lines_to, sight_text}
use Rattle.sightform.specs.Rewrite.{shown_names, rewritten_sight}
use Rattle.sight.proofs.RowsGood.{GoodRows}
use Rattle.sight.proofs.SightLaws.{few_names, names_apart, names_right, sight_sound, rows_sound}
use Rattle.sightform.proofs.SightForm.{Shown, form_lines}

-- ---- what holds of each line of the form

module _ (P : List ℕ → Type 0) (head : (w : Word) (n : ℕ) → is_name w ≡ true → P (spaced (w ∷ plain n ∷ []))) (seen : (w : Word) → is_name w ≡ true → P (seen_line w)) (ms : List Word) (named : (j : ℕ) → j < length ms → is_name (get_or ms j []) ≡ true) where
  each_piece : (b : Bool) (w : Word) → is_name w ≡ true → Each P (map seen_line (cond b (w ∷ []) []))
  each_piece true w e = (seen w e, tt)
  each_piece false w e = tt

  each_seen : (row j : ℕ) → j ≤ length ms → Each P (map seen_line (seen_to ms row j))
  unfolding seen_to
  each_seen row zero l = tt
  each_seen row (suc j) l =
      rw (map-append seen_line (seen_to ms row j) (cond (sees row j) (get_or ms j [] ∷ []) []))
      (each_append P (map seen_line (seen_to ms row j)) _ (each_seen row j (omega arith)) (each_piece (sees row j) (get_or ms j []) (named j l)))

  pub each_line : (rows : List ℕ) (k : ℕ) → k ≤ length ms → Each P (lines_to ms rows k)
  unfolding lines_to room_lines
  each_line rows zero l = tt
  each_line rows (suc k) l =
      each_append P (lines_to ms rows k) (room_lines ms k (get_or rows k 0)) (each_line rows k (omega arith))
      (head (get_or ms k []) (ones (get_or rows k 0)) (named k l), each_seen (get_or rows k 0) (length ms) (omega arith))

pub head_inline : (w : Word) (n : ℕ) → is_name w ≡ true → All (apart is_end) (spaced (w ∷ plain n ∷ []))
head_inline w n e = inline_spaced (w ∷ plain n ∷ []) (name_plain w e, (count_plain n, tt))

head_calm : (w : Word) (n : ℕ) → is_name w ≡ true → All calm (spaced (w ∷ plain n ∷ []))
head_calm w n e = calm_spaced (w ∷ plain n ∷ []) (name_plain w e, (count_plain n, tt))

pub seen_inline : (w : Word) → is_name w ≡ true → All (apart is_end) (seen_line w)
unfolding seen_line
seen_inline w e = inline_space (32 ∷ w) (inline_space w (plain_inline w (name_plain w e)))

seen_calm : (w : Word) → is_name w ≡ true → All calm (seen_line w)
unfolding seen_line
seen_calm w e = calm_space (32 ∷ w) (calm_space w (all_from calm word_byte word_calm w (name_plain w e).clean))

-- ---- the form's text

module _ (ns ms : List Word) (sh : Shown ns ms) (rows : List ℕ) (g : GoodRows (length ns) rows) where
  form_names : (j : ℕ) → j < length ms → is_name (get_or ms j []) ≡ true
  form_names j l = sh.name j (omega (arith, sh.long))

  -- the grammar accepts it, with its rows
  pub form_grammar : grammar ns (sight_text ms rows) ≡ record { verdict = accepted; rows = rows }
  unfolding grammar sight_text
  form_grammar =
      ap (read_lines (sight_grammar ns) 0 start) (ended_read (lines_to ms rows (length ms)) (each_line (All (apart is_end)) head_inline seen_inline ms form_names rows (length ms) (omega arith)))
      ∙ form_lines ns ms sh rows g

  -- rules 31 and 32 accept it, where it is not too long
  pub form_sound : length (sight_text ms rows) ≤ 65536 → rules31to32 (sight_text ms rows) ≡ accepted
  unfolding sight_text
  form_sound h = ended_sound (lines_to ms rows (length ms)) (each_line (All calm) head_calm seen_calm ms form_names rows (length ms) (omega arith)) h

-- ---- with the names of a layout

pub shown_names_lem : (layout : List ℕ) → Shown (room_names layout) (shown_names layout)
unfolding shown_names
shown_names_lem layout =
    let ns = room_names layout in
    record {
      long = length-map ns lowered;
      name = λ j l. rw (map_at_lem lowered [] [] ns j l) (name_lowered (get_or ns j []) (names_right layout j l));
      alike = λ j l. rw (map_at_lem lowered [] [] ns j l) (lowered_again (get_or ns j []));
      apart = names_apart layout;
      few = few_names layout;
    }

module _ (layout rows : List ℕ) (a : (layout_verdict layout).number ≡ 0) (g : GoodRows (length (room_names layout)) rows) (few : length (sight_text (shown_names layout) rows) ≤ 65536) where
  text_grammar : grammar (room_names layout) (sight_text (shown_names layout) rows) ≡ record { verdict = accepted; rows = rows }
  text_grammar = form_grammar (room_names layout) (shown_names layout) (shown_names_lem layout) rows g

  text_sound : (rules31to32 (sight_text (shown_names layout) rows)).number ≡ 0
  text_sound = ap (λ (v : Answer). v.number) (form_sound (room_names layout) (shown_names layout) (shown_names_lem layout) rows g few)

  -- right rows, written with a layout's names, are accepted against it ..
  pub text_accepted : sight_verdict layout (sight_text (shown_names layout) rows) ≡ accepted
  text_accepted = sight_sound layout (sight_text (shown_names layout) rows) a text_sound ∙ ap (λ (r : Reading). r.verdict) text_grammar

  -- .. and read as the same rows ..
  pub text_read : rows_of layout (sight_text (shown_names layout) rows) ≡ rows
  text_read = rows_sound layout (sight_text (shown_names layout) rows) a text_sound ∙ ap (λ (r : Reading). r.rows) text_grammar

  -- .. and written again as the same bytes
  pub text_twice : rewritten_sight layout (sight_text (shown_names layout) rows) ≡ sight_text (shown_names layout) rows
  unfolding rewritten_sight
  text_twice = ap (sight_text (shown_names layout)) text_read

-- 40: a form that is written is not over 65,536 bytes, and the output has room for it
pub within_40 : (text : List ℕ) (room : ℕ) → (rule40 text room).number ≡ 0 → (length text ≤ room) × (length text ≤ 65536)
unfolding rule40
within_40 text room z =
    let h = or_false (ltb room (length text)) (ltb 65536 (length text)) (unbroken 39 _ 0 z) in
    (ltb-false room (length text) h.0, ltb-false 65536 (length text) h.1)
