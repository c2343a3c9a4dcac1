-- Laws of pieces and words: for a printer, that puts a list together, and for a cursor, that takes it apart. Assumes nothing.
use mathlib.Core.Path.{◌≡◌, refl, sym, ap, ◌∙◌}
use mathlib.Core.Bool.{Bool, true, false, not}
use mathlib.Core.List.{List, [], ◌∷◌, ◌++◌, append-nil}
use Prim.Native.Nat.{ℕ, zero, suc, ◌+◌, ◌-◌, ◌≤◌, ◌<◌}
use native.Mathlib.Omega.{arith}
use native.Mathlib.Decide.{dec_lt}
use lib.ListN.{length, get_or, take, drop, take-append-drop, length-drop, drop_of_length-le}
use lib.Seq.{length-take-le, drop-drop}
use Rattle.verdict.proofs.Bools.{decided}
use Rattle.letters.specs.Class.{is_gap, is_end}
use Rattle.text.specs.Scan.{run, apart, grow, split, keep, nonempty, words, lines, line_at}
use Rattle.text.proofs.RunLaws.{run_nil, run_cons_on, run_cons_off, run_take, run_drop, run_le}

module _ (p : ℕ → Bool) where
  pub split_on : (b : ℕ) (s : List ℕ) → p b ≡ true → split p (b ∷ s) ≡ [] ∷ split p s
  unfolding split
  split_on b s e = simp e

  pub split_off : (b : ℕ) (s : List ℕ) → p b ≡ false → split p (b ∷ s) ≡ grow b (split p s)
  unfolding split
  split_off b s e = simp e

  -- a list that passes whole, by its first
  first_off : (b : ℕ) (w : List ℕ) → run (apart p) (b ∷ w) ≡ suc (length w) → (p b ≡ false) × (run (apart p) w ≡ length w)
  first_off b w e = go (p b) refl
    where
      go : (t : Bool) → p b ≡ t → (p b ≡ false) × (run (apart p) w ≡ length w)
      go true q =
          let z : 0 ≡ suc (length w) = sym (run_cons_off (apart p) b w (ap not q)) ∙ e in
          absurd (omega arith)
      go false q =
          let z : suc (run (apart p) w) ≡ suc (length w) = sym (run_cons_on (apart p) b w (ap not q)) ∙ e in
          (q, omega arith)

  -- for a printer
  pub split_join : (w : List ℕ) (c : ℕ) (s : List ℕ) → run (apart p) w ≡ length w → p c ≡ true → split p (w ++ c ∷ s) ≡ w ∷ split p s
  unfolding grow
  split_join [] c s e q = split_on c s q
  split_join (b ∷ w) c s e q =
      let (o, r) = first_off b w e in
      split_off b (w ++ c ∷ s) o ∙ ap (grow b) (split_join w c s r q)

  pub split_nil : split p [] ≡ []
  unfolding split
  split_nil = refl

  pub split_last : (b : ℕ) (w : List ℕ) → run (apart p) (b ∷ w) ≡ suc (length w) → split p (b ∷ w) ≡ (b ∷ w) ∷ []
  unfolding grow
  split_last b [] e =
      let (o, r) = first_off b [] e in
      split_off b [] o ∙ ap (grow b) split_nil
  split_last b (c ∷ w) e =
      let (o, r) = first_off b (c ∷ w) e in
      split_off b (c ∷ w) o ∙ ap (grow b) (split_last c w r)

  -- for a cursor: the first piece is the run, and the others are those behind the byte that ends it
  abbrev Cut : List ℕ → Type 0
  Cut s = split p s ≡ take (run (apart p) s) s ∷ split p (drop (suc (run (apart p) s)) s)

  pub split_cut : (s : List ℕ) → 0 < length s → Cut s
  split_cut [] h = absurd (omega arith)
  split_cut (b ∷ s) h = go (p b) refl (split_cut s)
    where
      more : (s : List ℕ) → (0 < length s → Cut s) → grow b (split p s) ≡ (b ∷ take (run (apart p) s) s) ∷ split p (drop (suc (run (apart p) s)) s)
      more [] k = rw (run_nil (apart p), split_nil) (unfold grow in refl)
      more (c ∷ s) k = rw (k (omega arith)) (unfold grow in refl)

      go : (t : Bool) → p b ≡ t → (0 < length s → Cut s) → Cut (b ∷ s)
      go true e k = rw (run_cons_off (apart p) b s (ap not e)) (split_on b s e)
      go false e k = rw (run_cons_on (apart p) b s (ap not e)) (split_off b s e ∙ more s k)

-- the words of a line
abbrev in_word : ℕ → Bool
in_word = apart is_gap

pub words_nil : words [] ≡ []
unfolding words split nonempty keep
words_nil = refl

pub words_gap : (b : ℕ) (s : List ℕ) → is_gap b ≡ true → words (b ∷ s) ≡ words s
unfolding words nonempty keep
words_gap b s e = ap nonempty (split_on is_gap b s e)

-- a byte that ends a run is a gap
gap_of : (g : ℕ) (s : List ℕ) → run in_word (g ∷ s) ≡ 0 → is_gap g ≡ true
gap_of g s z = go (is_gap g) refl
  where
    go : (t : Bool) → is_gap g ≡ t → is_gap g ≡ true
    go true e = e
    go false e =
        let k : suc (run in_word s) ≡ 0 = sym (run_cons_on in_word g s (ap not e)) ∙ z in
        absurd (omega arith)

-- a word, and then the line's end or a gap
pub words_word : (w s : List ℕ) → run in_word w ≡ length w → run in_word s ≡ 0 → 0 < length w → words (w ++ s) ≡ w ∷ words s
unfolding words nonempty keep
words_word [] s e z h = absurd (omega arith)
words_word (b ∷ w) [] e z h = rw (append-nil w) (ap nonempty (split_last is_gap b w e) ∙ ap (λ (l : List (List ℕ)). (b ∷ w) ∷ l) (sym words_nil))
words_word (b ∷ w) (g ∷ s) e z h =
    let q = gap_of g s z in
    ap nonempty (split_join is_gap (b ∷ w) g s e q) ∙ ap (λ (l : List (List ℕ)). (b ∷ w) ∷ l) (sym (words_gap g s q))

-- for a cursor: the gap before a word is skipped
pub words_skip : (s : List ℕ) → words s ≡ words (drop (run is_gap s) s)
words_skip [] = rw (run_nil is_gap)
words_skip (b ∷ s) = go (is_gap b) refl (words_skip s)
  where
    go : (t : Bool) → is_gap b ≡ t → words s ≡ words (drop (run is_gap s) s) → words (b ∷ s) ≡ words (drop (run is_gap (b ∷ s)) (b ∷ s))
    go true e k = rw (run_cons_on is_gap b s e) (words_gap b s e ∙ k)
    go false e k = rw (run_cons_off is_gap b s e)

-- what is left of a list of words after the first
abbrev pub others : List (List ℕ) → List (List ℕ)
others [] = []
others (w ∷ ws) = ws

-- behind the gap: the first word is the run, and the others are the words behind it, also where there is none
module _ (s : List ℕ) (g : run is_gap s ≡ 0) where
  abbrev n : ℕ
  n = run in_word s

  cut : s ≡ take n s ++ drop n s
  cut = sym (take-append-drop n s)

  -- nothing but a gap stops a word, so an empty run is the end
  pub word_none : n ≡ 0 → s ≡ []
  word_none z = go s g z
    where
      go : (l : List ℕ) → run is_gap l ≡ 0 → run in_word l ≡ 0 → l ≡ []
      go [] a b = refl
      go (c ∷ l) a b =
          let k : suc (run is_gap l) ≡ 0 = sym (run_cons_on is_gap c l (gap_of c l b)) ∙ a in
          absurd (omega arith)

  pub word_some : 0 < n → words s ≡ take n s ∷ words (drop n s)
  word_some h =
      let l : length (take n s) ≡ n = length-take-le n s (run_le in_word s) in
      ap words cut ∙ words_word (take n s) (drop n s) (run_take in_word s) (run_drop in_word s) (omega arith)

  pub word_first : get_or (words s) 0 [] ≡ take n s
  word_first = go n refl
    where
      go : (k : ℕ) → n ≡ k → get_or (words s) 0 [] ≡ take n s
      go zero z = rw (word_none z, words_nil, run_nil in_word)
      go (suc k) z = rw (word_some (omega arith))

  pub word_others : words (drop n s) ≡ others (words s)
  word_others = go n refl
    where
      go : (k : ℕ) → n ≡ k → words (drop n s) ≡ others (words s)
      go zero z = rw (word_none z, run_nil in_word, words_nil)
      go (suc k) z = rw (word_some (omega arith))

pub get_d_others : (ws : List (List ℕ)) (j : ℕ) → get_or (others ws) j [] ≡ get_or ws (suc j) []
get_d_others [] j = refl
get_d_others (w ∷ ws) j = refl

-- a word's two ends, behind a cursor and within n
abbrev pub Inside : ℕ → ℕ → ℕ → ℕ → Type 0
Inside from a e n = (from ≤ a) × (a ≤ e) × (e ≤ n)

-- the same at a cursor of a line: a word runs from a to e
module _ (l : List ℕ) (from a e : ℕ) (ha : a ≡ from + run is_gap (drop from l)) (he : e ≡ a + run in_word (drop a l)) where
  at_a : drop a l ≡ drop (run is_gap (drop from l)) (drop from l)
  at_a = rw ha (sym (drop-drop (run is_gap (drop from l)) from l))

  no_gap : run is_gap (drop a l) ≡ 0
  no_gap = rw at_a (run_drop is_gap (drop from l))

  same : words (drop from l) ≡ words (drop a l)
  same = words_skip (drop from l) ∙ ap words (sym at_a)

  at_e : drop e l ≡ drop (run in_word (drop a l)) (drop a l)
  at_e = rw he (sym (drop-drop (run in_word (drop a l)) a l))

  pub cursor_first : take (e - a) (drop a l) ≡ get_or (words (drop from l)) 0 []
  cursor_first =
      let k : e - a ≡ run in_word (drop a l) = omega arith in
      rw (k, same) (sym (word_first (drop a l) no_gap))

  pub cursor_others : words (drop e l) ≡ others (words (drop from l))
  cursor_others = rw (at_e, same) (word_others (drop a l) no_gap)

  pub cursor_within : from ≤ length l → Inside from a e (length l)
  cursor_within h =
      omega (arith, run_le is_gap (drop from l), length-drop from l, run_le in_word (drop a l), length-drop a l)

-- the same at a cursor of a text: a piece runs from `from` to e
module _ (p : ℕ → Bool) (s : List ℕ) (from e : ℕ) (he : e ≡ from + run (apart p) (drop from s)) where
  pub piece_within : from ≤ length s → (from ≤ e) × (e ≤ length s)
  piece_within h = omega (arith, run_le (apart p) (drop from s), length-drop from s)

  pub piece_cut : from < length s → split p (drop from s) ≡ take (e - from) (drop from s) ∷ split p (drop (e + 1) s)
  piece_cut h =
      let k : e - from ≡ run (apart p) (drop from s) = omega arith in
      let j : from + suc (run (apart p) (drop from s)) ≡ e + 1 = omega arith in
      rw (k, ← j, ← drop-drop (suc (run (apart p) (drop from s))) from s) (split_cut p (drop from s) (omega (arith, length-drop from s)))

pub piece_none : (p : ℕ → Bool) (s : List ℕ) (from : ℕ) → length s ≤ from → split p (drop from s) ≡ []
piece_none p s from h = rw (drop_of_length-le s h) (split_nil p)

-- for the lines of a text
pub line_none : (s : List ℕ) (from : ℕ) → length s ≤ from → lines (drop from s) ≡ []
unfolding lines
line_none s from h = piece_none is_end s from h

pub line_cut : (s : List ℕ) (from e : ℕ) → e ≡ from + run (apart is_end) (drop from s) → from < length s → lines (drop from s) ≡ take (e - from) (drop from s) ∷ lines (drop (e + 1) s)
unfolding lines
line_cut s from e he h = piece_cut is_end s from e he h

-- the lines from a place on: the one that starts there, and those behind its end
pub line_step : (s : List ℕ) (from e : ℕ) → e ≡ from + run (apart is_end) (drop from s) → from < length s → lines (drop from s) ≡ line_at s from ∷ lines (drop (e + 1) s)
unfolding line_at
line_step s from e he h =
    let k : e - from ≡ run (apart is_end) (drop from s) = omega arith in
    rw (← k) (line_cut s from e he h)

pub line_long : (s : List ℕ) (at : ℕ) → length (line_at s at) ≡ run (apart is_end) (drop at s)
unfolding line_at
line_long s at = length-take-le (run (apart is_end) (drop at s)) (drop at s) (run_le (apart is_end) (drop at s))

-- past the end no line starts
pub line_past : (s : List ℕ) (from : ℕ) → length s ≤ from → line_at s from ≡ []
unfolding line_at
line_past s from h = rw (drop_of_length-le s h, run_nil (apart is_end))

-- the first line from a place on starts there
pub line_first : (s : List ℕ) (from : ℕ) → line_at s from ≡ get_or (lines (drop from s)) 0 []
line_first s from =
    decided (dec_lt from (length s))
    (λ h. rw (line_step s from _ refl h))
    (λ h. let l : length s ≤ from = omega arith in rw (line_none s from l, line_past s from l))

-- a cursor behind the gap from a place on: it stands at no gap, and the words are the same
module _ (l : List ℕ) (from a : ℕ) (ha : a ≡ from + run is_gap (drop from l)) where
  pub behind_within : from ≤ length l → (from ≤ a) × (a ≤ length l)
  behind_within h = let i = cursor_within l from a _ ha refl h in omega arith

  pub behind_gap : run is_gap (drop a l) ≡ 0
  behind_gap = no_gap l from a _ ha refl

  pub behind_words : words (drop from l) ≡ words (drop a l)
  behind_words = same l from a _ ha refl

-- past the end are no words
pub words_past : (l : List ℕ) (from : ℕ) → length l ≤ from → words (drop from l) ≡ []
words_past l from h = rw (drop_of_length-le l h) words_nil

-- where it stands in the line it stands at a word, which ends at e
module _ (l : List ℕ) (at e : ℕ) (g : run is_gap (drop at l) ≡ 0) (he : e ≡ at + run in_word (drop at l)) (h : at < length l) where
  some : 0 < run in_word (drop at l)
  some =
      decided (dec_lt 0 (run in_word (drop at l))) (λ k. k)
      (λ k.
      let z : run in_word (drop at l) ≡ 0 = omega arith in
      let n : length (drop at l) ≡ 0 = ap length (word_none (drop at l) g z) in
      absurd (omega (arith, length-drop at l)))

  pub word_within : (at < e) × (e ≤ length l)
  word_within = let k = some in omega (arith, run_le in_word (drop at l), length-drop at l)

  pub word_passed : length (words (drop at l)) ≡ suc (length (words (drop e l)))
  word_passed =
      let d : drop e l ≡ drop (run in_word (drop at l)) (drop at l) = rw he (sym (drop-drop (run in_word (drop at l)) at l)) in
      rw (word_some (drop at l) g some, d)
