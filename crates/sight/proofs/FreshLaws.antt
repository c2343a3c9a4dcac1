-- Marks set one after the other, each for the first time: then the numbers stand once, and the marks are those. Assumes nothing.
use mathlib.Core.Path.{◌≡◌, refl, sym, ◌∙◌}
use mathlib.Core.Logic.{◌⊎◌, inl, inr, ◌↔◌}
use mathlib.Core.Bool.{true, false}
use mathlib.Core.List.{List, [], ◌∷◌}
use Prim.Native.Nat.{ℕ}
use native.Mathlib.Decide.{ℕ_discrete}
use Rattle.verdict.proofs.Bools.{clash, test, decided}
use Rattle.sight.specs.Rows.{sees, with_mark}
use Rattle.sight.specs.Plain.{StandsIn, Once}
use Rattle.sight.proofs.MarkLaws.{mark_set, mark_other}

-- no mark is set before its turn
abbrev pub Fresh : ℕ → List ℕ → Type 0
Fresh row [] = Unit
Fresh row (r ∷ rs) = (sees row r ≡ false) × Fresh (with_mark row r) rs

-- the row with these marks too
unfoldable pub marks_of : ℕ → List ℕ → ℕ
marks_of row [] = row
marks_of row (r ∷ rs) = marks_of (with_mark row r) rs

-- one mark more
pub mark_either : (row r k : ℕ) → sees row r ≡ false → sees (with_mark row r) k ≡ true ↔ ((sees row k ≡ true) ⊎ (k ≡ r))
mark_either row r k f = (to, from)
  where
    to : sees (with_mark row r) k ≡ true → (sees row k ≡ true) ⊎ (k ≡ r)
    to e = decided (ℕ_discrete r k) (λ (z : r ≡ k). inr (sym z)) (λ (z : r ≡ k → ⊥). inl (sym (mark_other row r k f z) ∙ e))

    from : (sees row k ≡ true) ⊎ (k ≡ r) → sees (with_mark row r) k ≡ true
    from (inl e) = decided (ℕ_discrete r k) (λ (z : r ≡ k). rw (← z) (mark_set row r f)) (λ (z : r ≡ k → ⊥). mark_other row r k f z ∙ e)
    from (inr z) = rw z (mark_set row r f)

pub fresh_unmarked : (rs : List ℕ) (row k : ℕ) → Fresh row rs → StandsIn k rs → sees row k ≡ false
fresh_unmarked [] row k f i = absurd i
fresh_unmarked (r ∷ rs) row k (f, fs) (inl e) = rw e f
fresh_unmarked (r ∷ rs) row k (f, fs) (inr i) =
    test (sees row k) (λ (e : sees row k ≡ true). clash ((mark_either row r k f).1 (inl e)) (fresh_unmarked rs (with_mark row r) k fs i)) (λ (e : sees row k ≡ false). e)

pub fresh_once : (rs : List ℕ) (row : ℕ) → Fresh row rs → Once rs
fresh_once [] row f = tt
fresh_once (r ∷ rs) row (f, fs) =
    (λ i. clash (mark_set row r f) (fresh_unmarked rs (with_mark row r) r fs i), fresh_once rs (with_mark row r) fs)

pub once_fresh : (rs : List ℕ) (row : ℕ) → Once rs → ((k : ℕ) → StandsIn k rs → sees row k ≡ false) → Fresh row rs
once_fresh [] row o n = tt
once_fresh (r ∷ rs) row (o, os) n = (n r (inl refl), once_fresh rs (with_mark row r) os still)
  where
    still : (k : ℕ) → StandsIn k rs → sees (with_mark row r) k ≡ false
    still k i =
        decided (ℕ_discrete r k) (λ (z : r ≡ k). absurd (o (rw (sym z) at i)))
        (λ (z : r ≡ k → ⊥). mark_other row r k (n r (inl refl)) z ∙ n k (inr i))

pub marks_are : (rs : List ℕ) (row k : ℕ) → Fresh row rs → sees (marks_of row rs) k ≡ true ↔ ((sees row k ≡ true) ⊎ StandsIn k rs)
unfolding marks_of
marks_are [] row k f = (λ e. inl e, only)
  where
    only : (sees row k ≡ true) ⊎ ⊥ → sees row k ≡ true
    only (inl e) = e
    only (inr i) = absurd i
marks_are (r ∷ rs) row k (f, fs) = (λ e. to ((marks_are rs (with_mark row r) k fs).0 e), λ e. (marks_are rs (with_mark row r) k fs).1 (from e))
  where
    to : (sees (with_mark row r) k ≡ true) ⊎ StandsIn k rs → (sees row k ≡ true) ⊎ ((k ≡ r) ⊎ StandsIn k rs)
    to (inl e) = joined ((mark_either row r k f).0 e)
      where
        joined : (sees row k ≡ true) ⊎ (k ≡ r) → (sees row k ≡ true) ⊎ ((k ≡ r) ⊎ StandsIn k rs)
        joined (inl h) = inl h
        joined (inr h) = inr (inl h)
    to (inr i) = inr (inr i)

    from : (sees row k ≡ true) ⊎ ((k ≡ r) ⊎ StandsIn k rs) → (sees (with_mark row r) k ≡ true) ⊎ StandsIn k rs
    from (inl e) = inl ((mark_either row r k f).1 (inl e))
    from (inr (inl e)) = inl ((mark_either row r k f).1 (inr e))
    from (inr (inr i)) = inr i
