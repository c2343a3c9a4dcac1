-- What is written is read as the same lines of words, and rules 31 and 32 accept it where it is not too long. Assumes nothing.
use mathlib.Core.Path.{◌≡◌, refl, sym, ap, ◌∙◌}
use mathlib.Core.Bool.{Bool, true, not}
use mathlib.Core.List.{List, [], ◌∷◌, ◌++◌, map, map-append, append-nil, append_assoc}
use Prim.Native.Nat.{ℕ, suc, ◌+◌, ◌≤◌, ◌<◌}
use native.Mathlib.Omega.{arith}
use lib.ListN.{length, length-append}
use Rattle.verdict.specs.Verdict.{accepted}
use Rattle.verdict.proofs.Each.{Each, each_map}
use Rattle.letters.specs.Class.{class_of, is_refused, is_return, is_gap, is_end, word_byte}
use Rattle.text.specs.Scan.{run, apart, words, lines}
use Rattle.text.specs.Sound.{rules31to32}
use Rattle.text.specs.Written.{after, spaced, ended, written, word_lines}
use Rattle.letters.proofs.ClassLaws.{calm, word_solid, word_inline, word_calm}
use Rattle.text.proofs.RunLaws.{All, run_nil, run_cons_off, all_cons, all_append, all_from}
use Rattle.text.proofs.SplitLaws.{split_join, split_last, split_nil, words_nil, words_gap, words_word}
use Rattle.text.proofs.SoundLaws.{calm_sound}

-- a word that can be written: not empty, of letters, digits, underscores, minuses and points
pub record Plain (w : List ℕ) : Type 0 where
  pub some : 0 < length w
  pub clean : run word_byte w ≡ length w

abbrev pub AllPlain : List (List ℕ) → Type 0
AllPlain = Each Plain

abbrev pub AllLines : List (List (List ℕ)) → Type 0
AllLines = Each AllPlain

-- no byte of it is of a gap, or ends a line
pub plain_solid : (w : List ℕ) → Plain w → run (apart is_gap) w ≡ length w
plain_solid w p = all_from (apart is_gap) word_byte word_solid w p.clean

pub plain_inline : (w : List ℕ) → Plain w → run (apart is_end) w ≡ length w
plain_inline w p = all_from (apart is_end) word_byte word_inline w p.clean

-- it is one word of one line
pub plain_word : (w : List ℕ) → Plain w → (words w ≡ w ∷ []) × (lines w ≡ w ∷ [])
plain_word w p = (
  ap words (sym (append-nil w)) ∙ words_word w [] (plain_solid w p) (run_nil (apart is_gap)) p.some ∙ ap (λ (l : List (List ℕ)). w ∷ l) words_nil,
  go w p.some (plain_inline w p),
)
  where
    go : (v : List ℕ) → 0 < length v → run (apart is_end) v ≡ length v → lines v ≡ v ∷ []
    go [] h e = absurd (omega arith)
    go (b ∷ v) h e = unfold lines in (split_last is_end b v e)

-- ---- words with spaces between them

space_gap : is_gap 32 ≡ true
unfolding is_gap class_of
space_gap = refl

space_inline : apart is_end 32 ≡ true
unfolding is_end class_of
space_inline = refl

space_calm : calm 32 ≡ true
unfolding calm is_refused is_return class_of
space_calm = refl

feed_end : is_end 10 ≡ true
unfolding is_end class_of
feed_end = refl

feed_calm : calm 10 ≡ true
unfolding calm is_refused is_return class_of
feed_calm = refl

after_stops : (ws : List (List ℕ)) → run (apart is_gap) (after ws) ≡ 0
unfolding after
after_stops [] = run_nil (apart is_gap)
after_stops (w ∷ ws) = run_cons_off (apart is_gap) 32 (w ++ after ws) (ap not space_gap)

pub words_after : (ws : List (List ℕ)) → AllPlain ws → words (after ws) ≡ ws
unfolding after
words_after [] p = words_nil
words_after (w ∷ ws) (p, q) =
    words_gap 32 (w ++ after ws) space_gap ∙ words_word w (after ws) (plain_solid w p) (after_stops ws) p.some
    ∙ ap (λ (l : List (List ℕ)). w ∷ l) (words_after ws q)

pub words_spaced : (ws : List (List ℕ)) → AllPlain ws → words (spaced ws) ≡ ws
unfolding spaced
words_spaced [] p = words_nil
words_spaced (w ∷ ws) (p, q) =
    words_word w (after ws) (plain_solid w p) (after_stops ws) p.some ∙ ap (λ (l : List (List ℕ)). w ∷ l) (words_after ws q)

-- a space before a line changes no word
pub words_space : (l : List ℕ) → words (32 ∷ l) ≡ words l
words_space l = words_gap 32 l space_gap

-- a test that spaces and the bytes of words pass
module _ (t : ℕ → Bool) (space : t 32 ≡ true) (f : (b : ℕ) → word_byte b ≡ true → t b ≡ true) where
  all_after : (ws : List (List ℕ)) → AllPlain ws → run t (after ws) ≡ length (after ws)
  unfolding after
  all_after [] p = run_nil t
  all_after (w ∷ ws) (p, q) =
      all_cons t 32 (w ++ after ws) space (all_append t w (after ws) (all_from t word_byte f w p.clean) (all_after ws q))

  pub all_spaced : (ws : List (List ℕ)) → AllPlain ws → run t (spaced ws) ≡ length (spaced ws)
  unfolding spaced
  all_spaced [] p = run_nil t
  all_spaced (w ∷ ws) (p, q) = all_append t w (after ws) (all_from t word_byte f w p.clean) (all_after ws q)

pub inline_spaced : (ws : List (List ℕ)) → AllPlain ws → run (apart is_end) (spaced ws) ≡ length (spaced ws)
inline_spaced = all_spaced (apart is_end) space_inline word_inline

pub calm_spaced : (ws : List (List ℕ)) → AllPlain ws → run calm (spaced ws) ≡ length (spaced ws)
calm_spaced = all_spaced calm space_calm word_calm

pub calm_space : (l : List ℕ) → run calm l ≡ length l → run calm (32 ∷ l) ≡ suc (length l)
calm_space l h = all_cons calm 32 l space_calm h

pub inline_space : (l : List ℕ) → run (apart is_end) l ≡ length l → run (apart is_end) (32 ∷ l) ≡ suc (length l)
inline_space l h = all_cons (apart is_end) 32 l space_inline h

-- ---- lines

pub lines_none : word_lines [] ≡ []
unfolding word_lines lines
lines_none = ap (map words) (split_nil is_end)

-- a line, LF, and more
pub line_read : (l s : List ℕ) → run (apart is_end) l ≡ length l → word_lines (l ++ 10 ∷ s) ≡ words l ∷ word_lines s
unfolding word_lines lines
line_read l s h = ap (map words) (split_join is_end l 10 s h feed_end)

pub line_calm : (l s : List ℕ) → run calm l ≡ length l → run calm s ≡ length s → run calm (l ++ 10 ∷ s) ≡ length (l ++ 10 ∷ s)
line_calm l s h k = all_append calm l (10 ∷ s) h (all_cons calm 10 s feed_calm k)

-- lines, LF behind each, are read as their words, and rules 31 and 32 accept them
pub ended_read : (ls : List (List ℕ)) → Each (All (apart is_end)) ls → word_lines (ended ls) ≡ map words ls
unfolding ended
ended_read [] h = lines_none
ended_read (l ∷ ls) (p, h) = line_read l (ended ls) p ∙ ap (λ (r : List (List (List ℕ))). words l ∷ r) (ended_read ls h)

ended_calm : (ls : List (List ℕ)) → Each (All calm) ls → All calm (ended ls)
unfolding ended
ended_calm [] h = run_nil calm
ended_calm (l ∷ ls) (p, h) = line_calm l (ended ls) p (ended_calm ls h)

pub ended_sound : (ls : List (List ℕ)) → Each (All calm) ls → length (ended ls) ≤ 65536 → rules31to32 (ended ls) ≡ accepted
ended_sound ls p h = calm_sound (ended ls) (ended_calm ls p) h

pub ended_append : (a b : List (List ℕ)) → ended (a ++ b) ≡ ended a ++ ended b
unfolding ended
ended_append [] b = refl
ended_append (l ∷ a) b = rw (ended_append a b) (sym (append_assoc l (10 ∷ ended a) (ended b)))

pub ended_long : (l : List ℕ) (ls : List (List ℕ)) → length (ended (l ∷ ls)) ≡ suc (length l + length (ended ls))
unfolding ended
ended_long l ls = length-append l (10 ∷ ended ls) ∙ omega arith

pub ended_one : (l : List ℕ) → length (ended (l ∷ [])) ≡ suc (length l)
unfolding ended
ended_one l = ended_long l [] ∙ omega arith

-- ---- lines of words

words_again : (ls : List (List (List ℕ))) → AllLines ls → map words (map spaced ls) ≡ ls
words_again [] p = refl
words_again (l ∷ ls) (p, q) = rw (words_spaced l p, words_again ls q)

-- the law: what is written is read as it was
pub written_read : (ls : List (List (List ℕ))) → AllLines ls → word_lines (written ls) ≡ ls
written_read ls p = ended_read (map spaced ls) (each_map AllPlain (All (apart is_end)) spaced inline_spaced ls p) ∙ words_again ls p

-- and rules 31 and 32 accept it
pub written_sound : (ls : List (List (List ℕ))) → AllLines ls → length (written ls) ≤ 65536 → rules31to32 (written ls) ≡ accepted
written_sound ls p h = ended_sound (map spaced ls) (each_map AllPlain (All calm) spaced calm_spaced ls p) h

pub written_append : (a b : List (List (List ℕ))) → written (a ++ b) ≡ written a ++ written b
written_append a b = ap ended (map-append spaced a b) ∙ ended_append (map spaced a) (map spaced b)
