-- The laws of runs of words: each by its place, there and back, and after a number was written. Assumes nothing.
use mathlib.Core.Path.{◌≡◌, refl, sym, ap, ◌∙◌}
use mathlib.Core.Logic.{◌⊎◌, inl, inr}
use mathlib.Core.List.{List, [], ◌∷◌, ◌++◌, append_assoc, append-nil}
use Prim.Native.Nat.{ℕ, zero, suc, ◌+◌, ◌*◌, ◌≤◌, ◌<◌}
use native.Mathlib.Nat.{le_of_suc-le-suc, not-suc-le-zero}
use native.Mathlib.Numerals.{add-one}
use native.Mathlib.Omega.{arith}
use native.Mathlib.Decide.{dec_lt, ℕ_discrete}
use lib.ListN.{length, get_or, set, take, drop, length-set, length-append, take-append-drop}
use lib.Seq.{get_or-set_same, get_or-set_other, ext_get_or, drop-cons, take-suc, take-take}
use Rattle.wire.specs.Bytes.{u32_at, u32_bytes, put_u32, Bytes}
use Rattle.wire.specs.Words.{words_at, bytes_of, joined, Words}
use Rattle.wire.proofs.Numbers.{u32_past, u32_small, spelled, unspelled, length_u32, u32_other, u32_here}

-- ---- reading

pub length_words : (b : List ℕ) (at n : ℕ) → length (words_at b at n) ≡ n
unfolding words_at
length_words b at zero = refl
length_words b at (suc n) = ap suc (length_words b (at + 4) n)

pub word_at : (b : List ℕ) (at n i : ℕ) → i < n → get_or (words_at b at n) i 0 ≡ u32_at b (at + 4 * i)
unfolding words_at
word_at b at zero i h = absurd (omega arith)
word_at b at (suc n) zero h = ap (u32_at b) (omega arith)
word_at b at (suc n) (suc i) h = word_at b (at + 4) n i (le_of_suc-le-suc h) ∙ ap (u32_at b) (omega arith)

-- two runs are equal where each word is
pub words_same : (b d : List ℕ) (at from n : ℕ) → ((i : ℕ) → i < n → u32_at b (at + 4 * i) ≡ u32_at d (from + 4 * i)) → words_at b at n ≡ words_at d from n
words_same b d at from n h =
    ext_get_or 0 _ _ (length_words b at n ∙ sym (length_words d from n))
    (λ i l. let m : i < n = omega (arith, length_words b at n) in word_at b at n i m ∙ h i m ∙ sym (word_at d from n i m))

-- ---- words that are 32 bits wide

pub words_nil : Words []
words_nil = record { word = λ i. omega arith }

pub words_cons : {w : ℕ} {ws : List ℕ} → w < 4294967296 → Words ws → Words (w ∷ ws)
words_cons {w} {ws} l h = record { word = by }
  where
    by : (i : ℕ) → get_or (w ∷ ws) i 0 < 4294967296
    by zero = l
    by (suc i) = h.word i

words_tail : (w : ℕ) (ws : List ℕ) → Words (w ∷ ws) → Words ws
words_tail w ws h = record { word = λ i. h.word (suc i) }

pub words_read : (b : List ℕ) → Bytes b → (at n : ℕ) → Words (words_at b at n)
unfolding words_at
words_read b h at zero = words_nil
words_read b h at (suc n) = words_cons (u32_small b h at) (words_read b h (at + 4) n)

-- ---- there and back

pub length_bytes : (ws : List ℕ) → length (bytes_of ws) ≡ 4 * length ws
unfolding bytes_of
length_bytes [] = refl
length_bytes (w ∷ ws) = omega (arith, length-append (u32_bytes w) (bytes_of ws), length_u32 w, length_bytes ws)

pub bytes_append : (a c : List ℕ) → bytes_of (a ++ c) ≡ bytes_of a ++ bytes_of c
unfolding bytes_of
bytes_append [] c = refl
bytes_append (w ∷ ws) c = rw (bytes_append ws c, append_assoc (u32_bytes w) (bytes_of ws) (bytes_of c))

first : (w : ℕ) (rest : List ℕ) → w < 4294967296 → u32_at (u32_bytes w ++ rest) 0 ≡ w
unfolding u32_at u32_bytes
first w rest k = spelled w k

-- word i of the bytes of words
pub spelled_at : (ws tail : List ℕ) → Words ws → (i : ℕ) → i < length ws → u32_at (bytes_of ws ++ tail) (4 * i) ≡ get_or ws i 0
unfolding bytes_of
spelled_at [] tail h i l = absurd (omega arith)
spelled_at (w ∷ ws) tail h zero l = rw (append_assoc (u32_bytes w) (bytes_of ws) tail) (first w (bytes_of ws ++ tail) (h.word 0))
spelled_at (w ∷ ws) tail h (suc i) l =
    let e : 4 * suc i ≡ length (u32_bytes w) + 4 * i = omega (arith, length_u32 w) in
    rw (append_assoc (u32_bytes w) (bytes_of ws) tail, e)
    (u32_past (u32_bytes w) (bytes_of ws ++ tail) (4 * i) ∙ spelled_at ws tail (words_tail w ws h) i (le_of_suc-le-suc l))

-- the words of the bytes of words
pub spelled_words : (pre ws tail : List ℕ) (at n : ℕ) → Words ws → length pre ≡ at → length ws ≡ n → words_at (pre ++ (bytes_of ws ++ tail)) at n ≡ ws
spelled_words pre ws tail at n h e f =
    ext_get_or 0 _ _ (length_words (pre ++ (bytes_of ws ++ tail)) at n ∙ sym f)
    (λ i l.
    let m : i < n = omega (arith, length_words (pre ++ (bytes_of ws ++ tail)) at n) in
    word_at (pre ++ (bytes_of ws ++ tail)) at n i m ∙ rw (← e) (u32_past pre (bytes_of ws ++ tail) (4 * i) ∙ spelled_at ws tail h i (omega arith)))

next : (b : List ℕ) (i j : ℕ) → j ≡ suc i → i < length b → drop i b ≡ get_or b i 0 ∷ drop j b
next b i j e h = rw e (drop-cons b i 0 h)

-- the bytes of the words of bytes
pub read_spelled : (b : List ℕ) → Bytes b → (n at : ℕ) → at + 4 * n ≤ length b → bytes_of (words_at b at n) ≡ take (4 * n) (drop at b)
unfolding bytes_of words_at u32_at
read_spelled b h zero at l = refl
read_spelled b h (suc n) at l =
    let four : 4 * suc n ≡ suc (suc (suc (suc (4 * n)))) = omega arith in
    rw (
      four,
      next b at (at + 1) (omega arith) (omega arith),
      next b (at + 1) (at + 2) (omega arith) (omega arith),
      next b (at + 2) (at + 3) (omega arith) (omega arith),
      next b (at + 3) (at + 4) (omega arith) (omega arith),
      unspelled (get_or b at 0) (get_or b (at + 1) 0) (get_or b (at + 2) 0) (get_or b (at + 3) 0) (h.byte at) (h.byte (at + 1)) (h.byte (at + 2)) (h.byte (at + 3)),
      read_spelled b h n (at + 4) (omega arith),
    )
    refl

-- ---- after a number was written: a run that it misses, and one that it hits

pub words_other : (b : List ℕ) (at w from n : ℕ) → ((i : ℕ) → i < n → (from + 4 * i + 4 ≤ at) ⊎ (at + 4 ≤ from + 4 * i)) → words_at (put_u32 b at w) from n ≡ words_at b from n
words_other b at w from n h = words_same (put_u32 b at w) b from from n (λ i l. u32_other b at w (from + 4 * i) (h i l))

pub words_here : (b : List ℕ) (from n i w : ℕ) → i < n → from + 4 * n ≤ length b → w < 4294967296
    → words_at (put_u32 b (from + 4 * i) w) from n ≡ set (words_at b from n) i w
words_here b from n i w l m k =
    ext_get_or 0 _ _ (length_words (put_u32 b (from + 4 * i) w) from n ∙ sym (length_words b from n) ∙ sym (length-set (words_at b from n) i w))
    (λ j q. by j (omega (arith, length_words (put_u32 b (from + 4 * i) w) from n)) (ℕ_discrete j i) (dec_lt j i))
  where
    elsewhere : (j : ℕ) → j < n → (j ≡ i → ⊥) → (from + 4 * j + 4 ≤ from + 4 * i) ⊎ (from + 4 * i + 4 ≤ from + 4 * j)
        → get_or (words_at (put_u32 b (from + 4 * i) w) from n) j 0 ≡ get_or (set (words_at b from n) i w) j 0
    elsewhere j q e r =
        word_at (put_u32 b (from + 4 * i) w) from n j q ∙ u32_other b (from + 4 * i) w (from + 4 * j) r ∙ sym (word_at b from n j q)
        ∙ sym (get_or-set_other (words_at b from n) i j w 0 e)

    by : (j : ℕ) → j < n → Dec (j ≡ i) → Dec (j < i) → get_or (words_at (put_u32 b (from + 4 * i) w) from n) j 0 ≡ get_or (set (words_at b from n) i w) j 0
    by j q (yes e) d =
        rw e (word_at (put_u32 b (from + 4 * i) w) from n i l ∙ u32_here b (from + 4 * i) w (omega arith) k
        ∙ sym (get_or-set_same (words_at b from n) i w 0 (omega (arith, length_words b from n))))
    by j q (no e) (yes r) = elsewhere j q e (inl (omega arith))
    by j q (no e) (no r) = elsewhere j q e (inr (omega arith))

-- ---- lists one after another, taken apart at list k

pub joined_append : (a c : List (List ℕ)) → joined (a ++ c) ≡ joined a ++ joined c
unfolding joined
joined_append [] c = refl
joined_append (l ∷ a) c = rw (joined_append a c, append_assoc)

pub joined_at : (ts : List (List ℕ)) (k : ℕ) → k < length ts → joined ts ≡ joined (take k ts) ++ (get_or ts k [] ++ joined (drop (suc k) ts))
unfolding joined
joined_at [] k h = absurd (not-suc-le-zero h)
joined_at (t ∷ ts) zero h = refl
joined_at (t ∷ ts) (suc k) h = rw append_assoc (ap (λ (l : List ℕ). t ++ l) (joined_at ts k (le_of_suc-le-suc h)))

pub joined_more : (ts : List (List ℕ)) (k : ℕ) → k < length ts → length (joined (take (k + 1) ts)) ≡ length (joined (take k ts)) + length (get_or ts k [])
unfolding joined
joined_more ts k h =
    rw (add-one k, take-suc ts k [] h, joined_append (take k ts) (get_or ts k [] ∷ []), length-append)
    (ap (λ (n : ℕ). length (joined (take k ts)) + n) (rw (append-nil (get_or ts k []))))

pub joined_within : (ts : List (List ℕ)) (k : ℕ) → length (joined (take k ts)) ≤ length (joined ts)
joined_within ts k =
    let e : joined (take k ts) ++ joined (drop k ts) ≡ joined ts = sym (joined_append (take k ts) (drop k ts)) ∙ ap joined (take-append-drop k ts) in
    omega (arith, simp length-append at (ap length e))

pub joined_mono : (ts : List (List ℕ)) (j k : ℕ) → j ≤ k → length (joined (take j ts)) ≤ length (joined (take k ts))
joined_mono ts j k l = rw (take-take j k ts l) at (joined_within (take k ts) j)
