-- Laws of `fresh` and `marked`: what marking a list in order finds and leaves. Assumes nothing.
use Prim.Native.Nat.{ℕ}
use mathlib.Core.Path.{◌≡◌, refl, ◌∙◌}
use mathlib.Core.Bool.{Bool, true, false, cond}
use mathlib.Core.List.{List, [], ◌∷◌, ◌++◌}
use lib.ListN.{length, get_or, set, length-set}
use borrow.Author.Tests.{eq-eqb, ne_eqb, eqb-true, not-false}
use Rattle.verdict.specs.Memory.{is_marked, fresh, marked}
use Rattle.verdict.proofs.Bools.{clash}

-- ---- a byte

pub is_marked_lem : (w : List ℕ) (k : ℕ) → (get_or w k 0 ≡ 0 → ⊥) → is_marked w k ≡ true
unfolding is_marked
is_marked_lem w k h = rw (ne_eqb (get_or w k 0) 0 h)

pub not_marked : (w : List ℕ) (k : ℕ) → get_or w k 0 ≡ 0 → is_marked w k ≡ false
unfolding is_marked
not_marked w k h = rw (eq-eqb (get_or w k 0) 0 h)

pub marked_byte : (w : List ℕ) (k : ℕ) → is_marked w k ≡ true → get_or w k 0 ≡ 0 → ⊥
marked_byte w k e h = clash e (not_marked w k h)

pub unmarked_byte : (w : List ℕ) (k : ℕ) → is_marked w k ≡ false → get_or w k 0 ≡ 0
unfolding is_marked
unmarked_byte w k e = eqb-true (get_or w k 0) 0 (not-false _ e)

-- ---- the next number of a list

pub fresh_hit : (k : ℕ) (ks w : List ℕ) → is_marked w k ≡ true → fresh (k ∷ ks) w ≡ false
unfolding fresh
fresh_hit k ks w h = rw h

pub fresh_new : (k : ℕ) (ks w : List ℕ) → is_marked w k ≡ false → fresh (k ∷ ks) w ≡ fresh ks (set w k 1)
unfolding fresh
fresh_new k ks w h = rw h

pub marked_hit : (k : ℕ) (ks w : List ℕ) → is_marked w k ≡ true → marked (k ∷ ks) w ≡ w
unfolding marked
marked_hit k ks w h = rw h

pub marked_new : (k : ℕ) (ks w : List ℕ) → is_marked w k ≡ false → marked (k ∷ ks) w ≡ marked ks (set w k 1)
unfolding marked
marked_new k ks w h = rw h

pub length_marked : (l w : List ℕ) → length (marked l w) ≡ length w
unfolding marked
length_marked [] w = refl
length_marked (k ∷ ks) w = go (is_marked w k) (length_marked ks (set w k 1))
  where
    go : (x : Bool) → length (marked ks (set w k 1)) ≡ length (set w k 1) → length (cond x w (marked ks (set w k 1))) ≡ length w
    go true h = refl
    go false h = h ∙ length-set w k 1

-- ---- a list in two parts: the second is marked if the first could be

module _ (b : List ℕ) where
  pub fresh_append : (a w : List ℕ) → fresh a w ≡ true → fresh (a ++ b) w ≡ fresh b (marked a w)
  unfolding fresh marked
  fresh_append [] w h = refl
  fresh_append (k ∷ ks) w h = go (is_marked w k) h (fresh_append ks (set w k 1))
    where
      go : (x : Bool) → cond x false (fresh ks (set w k 1)) ≡ true
          → (fresh ks (set w k 1) ≡ true → fresh (ks ++ b) (set w k 1) ≡ fresh b (marked ks (set w k 1)))
          → cond x false (fresh (ks ++ b) (set w k 1)) ≡ fresh b (cond x w (marked ks (set w k 1)))
      go true e ih = clash e refl
      go false e ih = ih e

  pub marked_append : (a w : List ℕ) → fresh a w ≡ true → marked (a ++ b) w ≡ marked b (marked a w)
  unfolding fresh marked
  marked_append [] w h = refl
  marked_append (k ∷ ks) w h = go (is_marked w k) h (marked_append ks (set w k 1))
    where
      go : (x : Bool) → cond x false (fresh ks (set w k 1)) ≡ true
          → (fresh ks (set w k 1) ≡ true → marked (ks ++ b) (set w k 1) ≡ marked b (marked ks (set w k 1)))
          → cond x w (marked (ks ++ b) (set w k 1)) ≡ marked b (cond x w (marked ks (set w k 1)))
      go true e ih = clash e refl
      go false e ih = ih e

  pub fresh_append_stop : (a w : List ℕ) → fresh a w ≡ false → fresh (a ++ b) w ≡ false
  unfolding fresh
  fresh_append_stop [] w h = clash refl h
  fresh_append_stop (k ∷ ks) w h = go (is_marked w k) h (fresh_append_stop ks (set w k 1))
    where
      go : (x : Bool) → cond x false (fresh ks (set w k 1)) ≡ false
          → (fresh ks (set w k 1) ≡ false → fresh (ks ++ b) (set w k 1) ≡ false)
          → cond x false (fresh (ks ++ b) (set w k 1)) ≡ false
      go true e ih = refl
      go false e ih = ih e

  pub marked_append_stop : (a w : List ℕ) → fresh a w ≡ false → marked (a ++ b) w ≡ marked a w
  unfolding fresh marked
  marked_append_stop [] w h = clash refl h
  marked_append_stop (k ∷ ks) w h = go (is_marked w k) h (marked_append_stop ks (set w k 1))
    where
      go : (x : Bool) → cond x false (fresh ks (set w k 1)) ≡ false
          → (fresh ks (set w k 1) ≡ false → marked (ks ++ b) (set w k 1) ≡ marked ks (set w k 1))
          → cond x w (marked (ks ++ b) (set w k 1)) ≡ cond x w (marked ks (set w k 1))
      go true e ih = refl
      go false e ih = ih e
