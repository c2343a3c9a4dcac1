-- Lists made number by number and pair by pair: how long they are and what stands where. Assumes nothing.
use Prim.Native.Nat.{ℕ, zero, suc, ◌+◌, ◌*◌, ◌<◌}
use native.Mathlib.Omega.{arith}
use native.Mathlib.Numerals.{add-one}
use native.Mathlib.Decide.{dec_lt, ℕ_discrete}
use mathlib.Core.Path.{◌≡◌, refl, sym, ap, ◌∙◌}
use mathlib.Core.List.{List, [], ◌∷◌, ◌++◌, map, append_assoc, append-nil}
use lib.ListN.{length, get_or, length-append, get_or-append, get_or-eq_default}
use lib.Seq.{get_or-append_seam}
use Rattle.verdict.proofs.Bools.{decided}
use Rattle.wire.specs.Words.{joined, Words}
use Rattle.seams.specs.Mended.{each}
use Rattle.seams.specs.Plain.{PartOf}

-- ---- number by number

module _ (f : ℕ → List ℕ) where
  pub each_none : each 0 f ≡ []
  unfolding each
  each_none = refl

  -- one number more
  pub each_more : (n : ℕ) → each (n + 1) f ≡ each n f ++ f n
  unfolding each
  each_more n = rw add-one

  -- nothing is listed for any number
  pub each_empty : (n : ℕ) → ((i : ℕ) → i < n → f i ≡ []) → each n f ≡ []
  unfolding each
  each_empty zero h = refl
  each_empty (suc n) h = rw (each_empty n (λ i l. h i (omega arith)), h n (omega arith))

  -- what is listed for number i is a part of the list
  pub each_part : (n i : ℕ) → i < n → PartOf (f i) (each n f)
  unfolding each
  each_part zero i l = absurd (omega arith)
  each_part (suc n) i l =
      decided (ℕ_discrete i n)
      (λ e. rw e (record { before = each n f; behind = []; is = ap (λ (x : List ℕ). each n f ++ x) (sym (append-nil (f n))) }))
      (λ ne.
      let k = each_part n i (omega arith) in
      record {
        before = k.before;
        behind = k.behind ++ f n;
        is = ap (λ (x : List ℕ). x ++ f n) k.is ∙ append_assoc k.before (f i ++ k.behind) (f n) ∙ ap (λ (x : List ℕ). k.before ++ x) (append_assoc (f i) k.behind (f n));
      })

-- one word for each number
module _ (g : ℕ → ℕ) where
  abbrev ones : ℕ → List ℕ
  ones n = each n (λ h. g h ∷ [])

  pub ones_length : (n : ℕ) → length (ones n) ≡ n
  unfolding each
  ones_length zero = refl
  ones_length (suc n) = length-append (ones n) (g n ∷ []) ∙ omega (arith, ones_length n)

  pub ones_at : (n i : ℕ) → i < n → get_or (ones n) i 0 ≡ g i
  unfolding each
  ones_at zero i l = absurd (omega arith)
  ones_at (suc n) i l =
      decided (ℕ_discrete i n)
      (λ e. let z : i ≡ length (ones n) = e ∙ sym (ones_length n) in ap (λ (j : ℕ). get_or (ones n ++ (g n ∷ [])) j 0) z ∙ get_or-append_seam (ones n) (g n) [] 0 ∙ ap g (sym e))
      (λ ne. get_or-append (ones n) (g n ∷ []) 0 i (omega (arith, ones_length n)) ∙ ones_at n i (omega arith))

  pub ones_words : (n : ℕ) → ((i : ℕ) → i < n → g i < 4294967296) → Words (ones n)
  ones_words n h = record {
    word = λ i. decided (dec_lt i n) (λ l. omega (arith, ones_at n i l, h i l)) (λ l. omega (arith, get_or-eq_default (ones n) 0 {n = i} (omega (arith, ones_length n))));
  }

-- two words for each of a list
module _ (k : ℕ → ℕ) where
  abbrev pub twos : List ℕ → List ℕ
  twos l = joined (map (λ h. h ∷ k h ∷ []) l)

  pub twos_length : (l : List ℕ) → length (twos l) ≡ length l * 2
  unfolding joined
  twos_length [] = refl
  twos_length (x ∷ l) = omega (arith, twos_length l)

  pub twos_first : (l : List ℕ) (i : ℕ) → i < length l → get_or (twos l) (i * 2 + 0) 0 ≡ get_or l i 0
  unfolding joined
  twos_first [] i b = absurd (omega arith)
  twos_first (x ∷ l) zero b = refl
  twos_first (x ∷ l) (suc i) b = let e : suc i * 2 + 0 ≡ suc (suc (i * 2 + 0)) = omega arith in rw e (twos_first l i (omega arith))

  pub twos_second : (l : List ℕ) (i : ℕ) → i < length l → get_or (twos l) (i * 2 + 1) 0 ≡ k (get_or l i 0)
  unfolding joined
  twos_second [] i b = absurd (omega arith)
  twos_second (x ∷ l) zero b = refl
  twos_second (x ∷ l) (suc i) b = let e : suc i * 2 + 1 ≡ suc (suc (i * 2 + 1)) = omega arith in rw e (twos_second l i (omega arith))
