-- Laws of a leading run: what the code counts, and the run of a list that is put together. Assumes nothing.
use mathlib.Core.Path.{◌≡◌, refl, sym, ap, ◌∙◌}
use mathlib.Core.Bool.{Bool, true, false}
use mathlib.Core.List.{List, [], ◌∷◌, ◌++◌}
use Prim.Native.Nat.{ℕ, zero, suc, ◌+◌, ◌≤◌, ◌<◌, zero-le, suc-le-suc}
use Prim.Native.Nat.compare
use native.Mathlib.Nat.{le_of_suc-le-suc, not-suc-le-zero, zero-add}
use native.Mathlib.Omega.{arith}
use lib.Dec.{eqb}
use borrow.Author.Tests.{ne_eqb}
use lib.ListN.{length, get_or, take, drop, length-append}
use lib.Seq.{length-take-le}
use Rattle.std.specs.List.{prefix_len, take_while, list_all}
use Rattle.verdict.proofs.Bools.{test}
use Rattle.text.specs.Scan.{run}

-- all bytes pass a test
abbrev pub All : (ℕ → Bool) → List ℕ → Type 0
All p w = run p w ≡ length w

module _ (p : ℕ → Bool) where
  pub run_nil : run p [] ≡ 0
  unfolding run
  run_nil = refl

  pub run_cons_on : (b : ℕ) (s : List ℕ) → p b ≡ true → run p (b ∷ s) ≡ suc (run p s)
  unfolding run
  run_cons_on b s e = simp e

  pub run_cons_off : (b : ℕ) (s : List ℕ) → p b ≡ false → run p (b ∷ s) ≡ 0
  unfolding run
  run_cons_off b s e = simp e

  pub run_le : (s : List ℕ) → run p s ≤ length s
  run_le [] = unfold run in zero-le
  run_le (b ∷ s) = go (p b) refl (run_le s)
    where
      go : (t : Bool) → p b ≡ t → run p s ≤ length s → run p (b ∷ s) ≤ suc (length s)
      go true e h = rw (run_cons_on b s e) (suc-le-suc h)
      go false e h = rw (run_cons_off b s e) zero-le

  pub run_is_prefix : (s : List ℕ) → prefix_len p s ≡ run p s
  unfolding run
  run_is_prefix [] = refl
  run_is_prefix (b ∷ s) = test (p b) (λ e. rw e (omega (arith, run_is_prefix s))) (λ e. rw e refl)

  -- what `take_while(..).count()` answers
  pub run_is_front : (s : List ℕ) → length (take_while p s) ≡ run p s
  run_is_front s = rw (run_is_prefix s) (length-take-le (run p s) s (run_le s))

  -- each byte of the run passes
  pub run_at : (s : List ℕ) (i : ℕ) → i < run p s → p (get_or s i 0) ≡ true
  run_at [] i h = absurd (not-suc-le-zero (rw run_nil at h))
  run_at (b ∷ s) zero h = go (p b) refl
    where
      go : (t : Bool) → p b ≡ t → p b ≡ true
      go true e = e
      go false e = absurd (not-suc-le-zero (rw (run_cons_off b s e) at h))
  run_at (b ∷ s) (suc i) h = go (p b) refl (run_at s i)
    where
      go : (t : Bool) → p b ≡ t → (i < run p s → p (get_or s i 0) ≡ true) → p (get_or s i 0) ≡ true
      go true e k = k (le_of_suc-le-suc (rw (run_cons_on b s e) at h))
      go false e k = absurd (not-suc-le-zero (rw (run_cons_off b s e) at h))

  -- what `all` answers
  pub all_is_whole : (s : List ℕ) → list_all p s ≡ eqb (run p s) (length s)
  unfolding run
  all_is_whole [] = refl
  all_is_whole (b ∷ s) = test (p b) (λ e. rw e (rw compare.suc-suc (all_is_whole s))) (λ e. rw e (sym (ne_eqb 0 (suc (length s)) (λ z. omega arith))))

  -- a list that passes whole, and then another
  pub run_all : (xs ys : List ℕ) → run p xs ≡ length xs → run p (xs ++ ys) ≡ length xs + run p ys
  run_all [] ys e = sym (zero-add (run p ys))
  run_all (b ∷ xs) ys e = go (p b) refl (run_all xs ys)
    where
      go : (t : Bool) → p b ≡ t → (run p xs ≡ length xs → run p (xs ++ ys) ≡ length xs + run p ys) → run p (b ∷ (xs ++ ys)) ≡ suc (length xs) + run p ys
      go true q k =
          let s : suc (run p xs) ≡ suc (length xs) = sym (run_cons_on b xs q) ∙ e in
          rw (run_cons_on b (xs ++ ys) q) (omega (arith, k (omega arith)))
      go false q k =
          let s : 0 ≡ suc (length xs) = sym (run_cons_off b xs q) ∙ e in
          absurd (omega arith)

  -- a list is its run and what the run stops at
  pub run_take : (s : List ℕ) → run p (take (run p s) s) ≡ length (take (run p s) s)
  run_take [] = rw run_nil (run_nil)
  run_take (b ∷ s) = go (p b) refl (run_take s)
    where
      go : (t : Bool) → p b ≡ t → run p (take (run p s) s) ≡ length (take (run p s) s) → run p (take (run p (b ∷ s)) (b ∷ s)) ≡ length (take (run p (b ∷ s)) (b ∷ s))
      go true e h = rw (run_cons_on b s e) (run_cons_on b _ e ∙ ap suc h)
      go false e h = rw (run_cons_off b s e) (run_nil)

  pub run_drop : (s : List ℕ) → run p (drop (run p s) s) ≡ 0
  run_drop [] = rw run_nil (run_nil)
  run_drop (b ∷ s) = go (p b) refl (run_drop s)
    where
      go : (t : Bool) → p b ≡ t → run p (drop (run p s) s) ≡ 0 → run p (drop (run p (b ∷ s)) (b ∷ s)) ≡ 0
      go true e h = rw (run_cons_on b s e) h
      go false e h = rw (run_cons_off b s e) (run_cons_off b s e)

  -- all bytes pass where each does
  pub run_of : (w : List ℕ) → ((i : ℕ) → i < length w → p (get_or w i 0) ≡ true) → run p w ≡ length w
  run_of [] h = run_nil
  run_of (b ∷ w) h = run_cons_on b w (h 0 (omega arith)) ∙ ap suc (run_of w (λ i l. h (suc i) (omega arith)))

  pub all_cons : (b : ℕ) (w : List ℕ) → p b ≡ true → run p w ≡ length w → run p (b ∷ w) ≡ suc (length w)
  all_cons b w e h = run_cons_on b w e ∙ ap suc h

  -- the first passes, and the others do
  pub all_first : (b : ℕ) (w : List ℕ) → run p (b ∷ w) ≡ suc (length w) → (p b ≡ true) × (run p w ≡ length w)
  all_first b w e = test (p b) (λ q. (q, let z = run_cons_on b w q in omega arith)) (λ q. let z = run_cons_off b w q in absurd (omega arith))

  pub all_append : (v w : List ℕ) → run p v ≡ length v → run p w ≡ length w → run p (v ++ w) ≡ length (v ++ w)
  all_append v w h k = run_all v w h ∙ omega (arith, length-append v w)

-- bytes that pass one test pass another that is weaker there
pub all_from : (p q : ℕ → Bool) → ((b : ℕ) → q b ≡ true → p b ≡ true) → (w : List ℕ) → run q w ≡ length w → run p w ≡ length w
all_from p q f w h = run_of p w (λ i l. f (get_or w i 0) (run_at q w i (omega arith)))
