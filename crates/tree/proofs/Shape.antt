-- The walk's trail: its laws, and what each way through the walk at a node answers and leaves. Assumes nothing.
use Prim.Native.Nat.{ℕ, zero, suc, ◌-◌, ◌<◌}
use native.Mathlib.Omega.{arith}
use native.Mathlib.Numerals.{sub-one}
use mathlib.Core.Path.{◌≡◌, refl, sym, ap, ◌∙◌}
use mathlib.Core.Bool.{Bool, true, false}
use mathlib.Core.List.{List, [], ◌∷◌, ◌++◌}
use lib.ListN.{length, get_or, set}
use lib.Seq.{get_or-set_same}
use Rattle.verdict.specs.Memory.{is_marked, fresh, marked}
use Rattle.verdict.proofs.Marks.{is_marked_lem, not_marked, fresh_hit, fresh_new, marked_hit, marked_new, fresh_append, marked_append, fresh_append_stop, marked_append_stop}
use Rattle.nodes.specs.Nodes.{Nodes}
use Rattle.tree.specs.Trail.{trail}

module _ (t : Nodes) where
  pub trail_leaf : (d n : ℕ) → t.inner n ≡ false → trail t d n ≡ n ∷ []
  unfolding trail
  trail_leaf zero n e = simp e
  trail_leaf (suc d) n e = simp e

  pub trail_end : (n : ℕ) → t.inner n ≡ true → trail t 0 n ≡ n ∷ n ∷ []
  unfolding trail
  trail_end n e = simp e

  pub trail_more : (d n : ℕ) → t.inner n ≡ true → trail t (suc d) n ≡ n ∷ (trail t d (t.left n) ++ trail t d (t.right n))
  unfolding trail
  trail_more d n e = simp e

  pub trail_inner : (d n : ℕ) → (d ≡ 0 → ⊥) → t.inner n ≡ true → trail t d n ≡ n ∷ (trail t (d - 1) (t.left n) ++ trail t (d - 1) (t.right n))
  trail_inner zero n f e = absurd (f refl)
  trail_inner (suc d) n f e = simp (sub-one) (trail_more d n e)

  trail_head : (d n : ℕ) → (l : List ℕ) × (trail t d n ≡ n ∷ l)
  unfolding trail
  trail_head zero n = (_, refl)
  trail_head (suc d) n = (_, refl)

-- what each way through the walk at n answers and leaves
module _ (t : Nodes) (d n : ℕ) (w : List ℕ) where
  abbrev pub Answers : Bool → List ℕ → Type 0
  Answers b w' = (b ≡ fresh (trail t d n) w) × (w' ≡ marked (trail t d n) w)

  -- the node is marked already
  pub hit : (get_or w n 0 ≡ 0 → ⊥) → Answers false w
  hit h =
      let (l, e) = trail_head t d n in
      let m = is_marked_lem w n h in
      (sym (ap (λ (k : List ℕ). fresh k w) e ∙ fresh_hit n l w m), sym (ap (λ (k : List ℕ). marked k w) e ∙ marked_hit n l w m))

  -- it is a leaf
  pub leaf : get_or w n 0 ≡ 0 → t.inner n ≡ false → Answers true (set w n 1)
  unfolding fresh marked
  leaf h e = let m = not_marked w n h in rw (trail_leaf t d n e) (simp m (refl, refl))

  -- it is inner, and the depth is used up
  pub last : get_or w n 0 ≡ 0 → n < length w → t.inner n ≡ true → d ≡ 0 → Answers false (set w n 1)
  last h lt e z =
      let m = not_marked w n h in
      rw z (rw (trail_end t n e)
      (sym (fresh_new n (n ∷ []) w m ∙ fresh_hit n [] (set w n 1) again), sym (marked_new n (n ∷ []) w m ∙ marked_hit n [] (set w n 1) again)))
    where
      again : is_marked (set w n 1) n ≡ true
      again = is_marked_lem (set w n 1) n (λ (q : get_or (set w n 1) n 0 ≡ 0). omega (arith, get_or-set_same w n 1 0 lt))

  module _ (h : get_or w n 0 ≡ 0) (e : t.inner n ≡ true) (z : d ≡ 0 → ⊥) (l : ℕ) (el : l ≡ t.left n) (w₁ : List ℕ)
      (m : w₁ ≡ marked (trail t (d - 1) l) (set w n 1)) where
    new : is_marked w n ≡ false
    new = not_marked w n h

    -- it is inner, and the walk stops below its left child
    pub stop : false ≡ fresh (trail t (d - 1) l) (set w n 1) → Answers false w₁
    stop f =
        rw (trail_inner t d n z e, ← el) (
          sym (fresh_new n _ w new ∙ fresh_append_stop (trail t (d - 1) (t.right n)) (trail t (d - 1) l) (set w n 1) (sym f)),
          m ∙ sym (marked_new n _ w new ∙ marked_append_stop (trail t (d - 1) (t.right n)) (trail t (d - 1) l) (set w n 1) (sym f)),
        )

    -- it is inner, and the walk goes on below its right child
    pub go : true ≡ fresh (trail t (d - 1) l) (set w n 1) → (r : ℕ) → r ≡ t.right n → (b : Bool) (w₂ : List ℕ)
        → b ≡ fresh (trail t (d - 1) r) w₁ → w₂ ≡ marked (trail t (d - 1) r) w₁ → Answers b w₂
    go f r er b w₂ fr mr =
        rw (trail_inner t d n z e, ← el, ← er) (
          fr ∙ sym (fresh_new n _ w new ∙ fresh_append (trail t (d - 1) r) (trail t (d - 1) l) (set w n 1) (sym f) ∙ ap (fresh (trail t (d - 1) r)) (sym m)),
          mr ∙ sym (marked_new n _ w new ∙ marked_append (trail t (d - 1) r) (trail t (d - 1) l) (set w n 1) (sym f) ∙ ap (marked (trail t (d - 1) r)) (sym m)),
        )
