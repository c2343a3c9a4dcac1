-- What rules 31 and 32 give to those that read words: no byte but those of words stands in one, and a CR stands only at a line's end, so
-- that it may count as a gap. Assumes nothing.
use mathlib.Core.Path.{◌≡◌, refl, sym, ap, ◌∙◌}
use mathlib.Core.Bool.{Bool, true, false, not, or-true}
use mathlib.Core.List.{List, [], ◌∷◌, ◌++◌, map}
use mathlib.Core.Logic.{◌⊎◌, inl, inr}
use Prim.Native.Nat.{ℕ, zero, suc, ◌+◌, ◌<◌}
use native.Mathlib.Nat.{suc-add}
use native.Mathlib.Omega.{arith}
use lib.Dec.{eqb}
use lib.ListN.{length, get_or}
use borrow.Author.Tests.{not-true}
use Rattle.verdict.proofs.Bools.{clash, test}
use Rattle.verdict.proofs.Each.{Each, each_or}
use Rattle.letters.specs.Class.{class_of, is_refused, is_blank, is_gap, is_end, word_byte, is_return}
use Rattle.text.specs.Scan.{apart, grow, split, keep, nonempty, words, lines}
use Rattle.text.specs.Written.{word_lines}
use Rattle.text.specs.Sound.{bare, rules31to32}
use Rattle.letters.proofs.ClassLaws.{word_byte_lem, nought_no_end}
use Rattle.text.proofs.RunLaws.{All, run_nil, run_at, run_of, all_cons, all_first}
use Rattle.text.proofs.SplitLaws.{split_on, split_off, split_nil, words_nil}
use Rattle.text.proofs.SoundLaws.{sound_known, sound_return}
use Rattle.text.proofs.WrittenLaws.{AllPlain, AllLines}

-- ---- a thing that holds of each piece

grow_each : (q : ℕ → Bool) (b : ℕ) (ws : List (List ℕ)) → q b ≡ true → Each (All q) ws → Each (All q) (grow b ws)
unfolding grow
grow_each q b [] e h = (all_cons q b [] e (run_nil q), tt)
grow_each q b (w ∷ ws) e (p, h) = (all_cons q b w e p, h)

-- bytes of the text pass it, so those of a piece do
split_each : (p q : ℕ → Bool) (s : List ℕ) → All q s → Each (All q) (split p s)
split_each p q [] h = rw (split_nil p) tt
split_each p q (b ∷ s) h =
    let k = all_first q b s h in
    let r = split_each p q s k.1 in
    test (p b) (λ e. rw (split_on p b s e) (run_nil q, r)) (λ e. rw (split_off p b s e) (grow_each q b (split p s) k.0 r))

-- no byte of a piece is a separator
split_apart : (p : ℕ → Bool) (s : List ℕ) → Each (All (apart p)) (split p s)
split_apart p [] = rw (split_nil p) tt
split_apart p (b ∷ s) =
    let r = split_apart p s in
    test (p b) (λ e. rw (split_on p b s e) (run_nil (apart p), r)) (λ e. rw (split_off p b s e) (grow_each (apart p) b (split p s) (ap not e) r))

-- ---- the words of a text

-- bytes that are not refused, of no gap and of no line's end may stand in a word
solid : (ws : List (List ℕ)) → Each (All (apart is_refused)) ws → Each (All (apart is_end)) ws → Each (All (apart is_gap)) ws → Each (All word_byte) ws
solid [] a b c = tt
solid (w ∷ ws) (a, ma) (b, mb) (c, mc) = (
  run_of word_byte w (λ i l. word_byte_lem (get_or w i 0) (not-true _ (run_at (apart is_refused) w i (omega arith))) (not-true _ (run_at (apart is_gap) w i (omega arith)))
      (not-true _ (run_at (apart is_end) w i (omega arith)))),
  solid ws ma mb mc,
)

-- the pieces that have a byte are words that can be written
nonempty_plain : (ws : List (List ℕ)) → Each (All word_byte) ws → AllPlain (nonempty ws)
unfolding nonempty keep
nonempty_plain [] e = tt
nonempty_plain ([] ∷ ws) (p, e) = nonempty_plain ws e
nonempty_plain ((b ∷ w) ∷ ws) (p, e) = (record { some = omega arith; clean = p }, nonempty_plain ws e)

words_plain : (l : List ℕ) → All (apart is_refused) l → All (apart is_end) l → AllPlain (words l)
unfolding words
words_plain l a b =
    nonempty_plain (split is_gap l) (solid (split is_gap l) (split_each is_gap (apart is_refused) l a) (split_each is_gap (apart is_end) l b) (split_apart is_gap l))

lines_plain : (ls : List (List ℕ)) → Each (All (apart is_refused)) ls → Each (All (apart is_end)) ls → AllLines (map words ls)
lines_plain [] a b = tt
lines_plain (l ∷ ls) (a, ma) (b, mb) = (words_plain l a b, lines_plain ls ma mb)

-- once rules 31 and 32 accept, each word of the text can be written
pub sound_plain : (s : List ℕ) → (rules31to32 s).number ≡ 0 → AllLines (word_lines s)
unfolding word_lines lines
sound_plain s z = lines_plain (split is_end s) (split_each is_end (apart is_refused) s (run_of (apart is_refused) s (sound_known s z))) (split_apart is_end s)

plain_at : (ws : List (List ℕ)) → AllPlain ws → (j : ℕ) → All word_byte (get_or ws j [])
plain_at [] p j = run_nil word_byte
plain_at (w ∷ ws) (p, q) zero = p.clean
plain_at (w ∷ ws) (p, q) (suc j) = plain_at ws q j

line_plain : (ls : List (List ℕ)) → AllLines (map words ls) → (i : ℕ) → AllPlain (words (get_or ls i []))
line_plain [] p i = rw words_nil tt
line_plain (l ∷ ls) (p, q) zero = p
line_plain (l ∷ ls) (p, q) (suc i) = line_plain ls q i

-- word j of line i
abbrev pub word_in : List ℕ → ℕ → ℕ → List ℕ
word_in s i j = get_or (words (get_or (lines s) i [])) j []

-- so each byte of a word is a letter, a digit, an underscore, a minus or a point
pub word_clean : (s : List ℕ) → (rules31to32 s).number ≡ 0 → (i j k : ℕ) → k < length (word_in s i j) → word_byte (get_or (word_in s i j) k 0) ≡ true
unfolding word_lines
word_clean s z i j k l =
    let a = plain_at (words (get_or (lines s) i [])) (line_plain (lines s) (sound_plain s z) i) j in
    run_at word_byte (word_in s i j) k (omega arith)

-- ---- a CR ends a line

-- each CR of a text stands before LF; each CR of a line is its last byte
abbrev Before : List ℕ → Type 0
Before [] = Unit
Before (b ∷ s) = (is_return b ≡ true → is_end (get_or s 0 0) ≡ true) × Before s

abbrev Last : List ℕ → Type 0
Last [] = Unit
Last (b ∷ l) = (is_return b ≡ true → l ≡ []) × Last l

before_of : (s : List ℕ) → ((i : ℕ) → i < length s → is_return (get_or s i 0) ≡ true → is_end (get_or s (i + 1) 0) ≡ true) → Before s
before_of [] f = tt
before_of (b ∷ s) f = (f 0 (omega arith), before_of s (λ i l e. rw (suc-add i 1) at (f (suc i) (omega arith) e)))

-- a byte before the first line
grow_last : (b : ℕ) (ws : List (List ℕ)) → (is_return b ≡ true → get_or ws 0 [] ≡ []) → Each Last ws → Each Last (grow b ws)
unfolding grow
grow_last b [] f e = (((λ r. refl), tt), tt)
grow_last b (w ∷ ws) f (p, e) = ((f, p), e)

-- before LF the first line is empty
first_empty : (s : List ℕ) → is_end (get_or s 0 0) ≡ true → get_or (lines s) 0 [] ≡ []
unfolding lines
first_empty [] e = clash e nought_no_end
first_empty (c ∷ s) e = rw (split_on is_end c s e)

lines_last : (s : List ℕ) → Before s → Each Last (lines s)
unfolding lines
lines_last [] p = rw (split_nil is_end) tt
lines_last (b ∷ s) (f, p) =
    let r = lines_last s p in
    test (is_end b) (λ e. rw (split_on is_end b s e) (tt, r)) (λ e. rw (split_off is_end b s e) (grow_last b (split is_end s) (λ q. first_empty s (f q)) r))

last_at : (l : List ℕ) → Last l → (k : ℕ) → k < length l → is_return (get_or l k 0) ≡ true → k + 1 ≡ length l
last_at [] p k h e = absurd (omega arith)
last_at (b ∷ l) (f, p) zero h e = rw (f e)
last_at (b ∷ l) (f, p) (suc k) h e = let z = last_at l p k (omega arith) e in omega arith

line_last : (s : List ℕ) → (rules31to32 s).number ≡ 0 → (i : ℕ) → Last (get_or (lines s) i [])
line_last s z i = each_or Last [] tt (lines s) (lines_last s (before_of s (sound_return s z))) i

-- once rules 31 and 32 accept, a CR in a line is its last byte
pub return_last : (s : List ℕ) → (rules31to32 s).number ≡ 0 → (i k : ℕ) → k < length (get_or (lines s) i []) → is_return (get_or (get_or (lines s) i []) k 0) ≡ true → k + 1 ≡ length (get_or (lines s) i [])
return_last s z i k h e = last_at (get_or (lines s) i []) (line_last s z i) k h e

-- ---- so it may count as a gap

-- the same pieces, or one empty piece more
abbrev Alike : List (List ℕ) → List (List ℕ) → Type 0
Alike ps qs = (ps ≡ qs) ⊎ (ps ≡ qs ++ ([] ∷ []))

alike_cons : (ps qs : List (List ℕ)) → Alike ps qs → Alike ([] ∷ ps) ([] ∷ qs)
alike_cons ps qs (inl e) = inl (ap (λ (x : List (List ℕ)). [] ∷ x) e)
alike_cons ps qs (inr e) = inr (ap (λ (x : List (List ℕ)). [] ∷ x) e)

alike_grow : (b : ℕ) (ps qs : List (List ℕ)) → Alike ps qs → Alike (grow b ps) (grow b qs)
unfolding grow
alike_grow b ps qs (inl e) = inl (ap (grow b) e)
alike_grow b ps [] (inr e) = inl (ap (grow b) e)
alike_grow b ps (q ∷ qs) (inr e) = inr (ap (grow b) e)

nonempty_more : (ws : List (List ℕ)) → nonempty (ws ++ ([] ∷ [])) ≡ nonempty ws
unfolding nonempty keep
nonempty_more [] = refl
nonempty_more (w ∷ ws) = ap (keep w) (nonempty_more ws)

alike_nonempty : (ps qs : List (List ℕ)) → Alike ps qs → nonempty ps ≡ nonempty qs
alike_nonempty ps qs (inl e) = ap nonempty e
alike_nonempty ps qs (inr e) = ap nonempty e ∙ nonempty_more qs

-- a byte that is no CR is a gap where it is a blank
gap_blank : (b : ℕ) (t : Bool) → is_return b ≡ false → is_blank b ≡ t → is_gap b ≡ t
unfolding is_return is_blank is_gap
gap_blank b true r e = rw e
gap_blank b false r e = rw (e, r)

return_gap : (b : ℕ) → is_return b ≡ true → is_gap b ≡ true
unfolding is_return is_gap
return_gap b e = rw e (or-true (eqb (class_of b) 6))

bare_alike : (l : List ℕ) → Last l → Alike (split is_gap l) (split is_blank (bare l))
unfolding bare
bare_alike [] p = inl (split_nil is_gap ∙ sym (split_nil is_blank))
bare_alike (b ∷ l) (f, p) =
    let r = bare_alike l p in
    test (is_return b) (λ e. inr (rw (e, f e) (split_on is_gap b [] (return_gap b e) ∙ rw (split_nil is_gap, split_nil is_blank))))
    (λ e. rw e (test (is_blank b) (λ q. rw (split_on is_gap b l (gap_blank b true e q), split_on is_blank b (bare l) q) (alike_cons (split is_gap l) (split is_blank (bare l)) r))
    (λ q. rw (split_off is_gap b l (gap_blank b false e q), split_off is_blank b (bare l) q) (alike_grow b (split is_gap l) (split is_blank (bare l)) r))))

-- once rules 31 and 32 accept, the words of a line are those between the blanks of the line without its CR
pub words_bare : (s : List ℕ) → (rules31to32 s).number ≡ 0 → (i : ℕ) → words (get_or (lines s) i []) ≡ nonempty (split is_blank (bare (get_or (lines s) i [])))
unfolding words
words_bare s z i = alike_nonempty _ _ (bare_alike (get_or (lines s) i []) (line_last s z i))
