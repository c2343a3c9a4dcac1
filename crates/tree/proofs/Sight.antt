-- What each way through a walk that counts and looks for the least sees at a node, by the remaining depth. Assumes nothing.
use Prim.Native.Nat.{ℕ, zero, suc, ◌+◌, ◌-◌, min, ◌≤◌}
use native.Mathlib.Omega.{arith}
use native.Mathlib.Numerals.{sub-one}
use mathlib.Core.Path.{◌≡◌, refl}
use mathlib.Core.Bool.{Bool, true, false}
use mathlib.Core.List.{List, [], ◌∷◌, ◌++◌}
use lib.ListN.{length, length-append}
use Rattle.verdict.proofs.Bools.{test}
use Rattle.nodes.specs.Nodes.{Nodes}
use Rattle.tree.specs.Tree.{ends}
use Rattle.tree.specs.Visits.{cut, score, least}
use Rattle.tree.proofs.Deep.{ends_leaf, ends_inner}

pub least_top : (top : ℕ) (v : ℕ → ℕ) (l : List ℕ) → least top v l ≤ top
unfolding least
least_top top v [] = omega arith
least_top top v (x ∷ l) = let ih = least_top top v l in omega arith

pub least_append : (top : ℕ) (v : ℕ → ℕ) (a b : List ℕ) → least top v (a ++ b) ≡ min (least top v a) (least top v b)
unfolding least
least_append top v [] b = let h = least_top top v b in omega arith
least_append top v (x ∷ a) b = let ih = least_append top v a b in omega arith

-- ---- `ends` by the remaining depth, as code counts it

module _ (t : Nodes) where
  pub ends_stop : (d n : ℕ) → t.inner n ≡ false → ends t d n ≡ n ∷ []
  unfolding ends
  ends_stop zero n e = refl
  ends_stop (suc d) n e = ends_leaf t d n e

  pub ends_zero : (d n : ℕ) → d ≡ 0 → ends t d n ≡ n ∷ []
  unfolding ends
  ends_zero d n e = rw e

  pub ends_go : (d n : ℕ) → (d ≡ 0 → ⊥) → t.inner n ≡ true → ends t d n ≡ n ∷ (ends t (d - 1) (t.left n) ++ ends t (d - 1) (t.right n))
  ends_go zero n f e = absurd (f refl)
  ends_go (suc d) n f e = rw sub-one (ends_inner t d n e)

  length_inner : (d n : ℕ) → t.inner n ≡ true → length (ends t (suc d) n) ≡ 1 + (length (ends t d (t.left n)) + length (ends t d (t.right n)))
  length_inner d n e = rw (ends_inner t d n e) (omega (arith, length-append (ends t d (t.left n)) (ends t d (t.right n))))

  pub length_go : (d n : ℕ) → (d ≡ 0 → ⊥) → t.inner n ≡ true
      → length (ends t d n) ≡ 1 + (length (ends t (d - 1) (t.left n)) + length (ends t (d - 1) (t.right n)))
  length_go d n f e = rw (ends_go d n f e) (omega (arith, length-append (ends t (d - 1) (t.left n)) (ends t (d - 1) (t.right n))))

  some_end : (d n : ℕ) → 1 ≤ length (ends t d n)
  unfolding ends
  some_end zero n = omega arith
  some_end (suc d) n = omega arith

  -- no fewer paths where more steps are allowed
  pub ends_more : (d e n : ℕ) → d ≤ e → length (ends t d n) ≤ length (ends t e n)
  ends_more zero e n h = rw (ends_zero 0 n refl) (some_end e n)
  ends_more (suc d) zero n h = absurd (omega arith)
  ends_more (suc d) (suc e) n h =
      let l = ends_more d e (t.left n) (omega arith) in
      let r = ends_more d e (t.right n) (omega arith) in
      test (t.inner n) (λ y. omega (arith, length_inner d n y, length_inner e n y)) (λ y. rw (ends_leaf t d n y) (some_end (suc e) n))

-- ---- the shape as the walk sees it

module _ (t : Nodes) (h : ℕ → Bool) where
  pub cut_leaf : (n : ℕ) → t.inner n ≡ false → (cut t h).inner n ≡ false
  unfolding cut
  cut_leaf n e = rw e

  pub cut_shut : (n : ℕ) → h n ≡ false → (cut t h).inner n ≡ false
  unfolding cut
  cut_shut n e = rw e (test (t.inner n) (λ y. rw y) (λ y. rw y))

  pub cut_go : (n : ℕ) → t.inner n ≡ true → h n ≡ true → (cut t h).inner n ≡ true
  unfolding cut
  cut_go n e f = rw (e, f)

  pub length_cut : (d n : ℕ) → length (ends (cut t h) d n) ≤ length (ends t d n)
  unfolding cut
  length_cut zero n = rw (ends_zero (cut t h) 0 n refl, ends_zero t 0 n refl) (omega arith)
  length_cut (suc d) n =
      let l = length_cut d (t.left n) in
      let r = length_cut d (t.right n) in
      test (t.inner n)
      (λ y. test (h n)
      (λ z. omega (arith, length_inner (cut t h) d n (cut_go n y z), length_inner t d n y))
      (λ z. rw (ends_stop (cut t h) (suc d) n (cut_shut n z)) (omega (arith, length_inner t d n y))))
      (λ y. rw (ends_stop (cut t h) (suc d) n (cut_leaf n y), ends_stop t (suc d) n y) (omega arith))

-- ---- what the walk at n answers: a count c and a value f

module _ (t : Nodes) (h : ℕ → Bool) (top : ℕ) (v : ℕ → ℕ) (d n : ℕ) where
  abbrev pub Sees : ℕ → ℕ → Type 0
  Sees c f = (c ≡ length (ends (cut t h) d n)) × (f ≡ least top v (ends (cut t h) d n))

  one : (f : ℕ) → f ≡ v n → v n ≤ top → ends (cut t h) d n ≡ n ∷ [] → Sees 1 f
  unfolding least
  one f e b q = rw q (refl, omega arith)

  -- where the depth is used up, at a leaf, at a node that does not pass
  pub at_depth : (f : ℕ) → f ≡ v n → v n ≤ top → d ≡ 0 → Sees 1 f
  at_depth f e b z = one f e b (ends_zero (cut t h) d n z)

  pub at_leaf : (f : ℕ) → f ≡ v n → v n ≤ top → t.inner n ≡ false → Sees 1 f
  at_leaf f e b z = one f e b (ends_stop (cut t h) d n (cut_leaf t h n z))

  pub at_shut : (f : ℕ) → f ≡ v n → v n ≤ top → h n ≡ false → Sees 1 f
  at_shut f e b z = one f e b (ends_stop (cut t h) d n (cut_shut t h n z))

  -- at an inner node that passes, over what was seen below its children
  pub at_inner : (d ≡ 0 → ⊥) → t.inner n ≡ true → h n ≡ true → v n ≡ top → (l r : ℕ) → l ≡ t.left n → r ≡ t.right n → (c₁ f₁ c₂ f₂ c f : ℕ)
      → c₁ ≡ length (ends (cut t h) (d - 1) l) → f₁ ≡ least top v (ends (cut t h) (d - 1) l)
      → c₂ ≡ length (ends (cut t h) (d - 1) r) → f₂ ≡ least top v (ends (cut t h) (d - 1) r)
      → c ≡ 1 + (c₁ + c₂) → f ≡ min f₁ f₂ → Sees c f
  unfolding least cut
  at_inner z i y e l r el er c₁ f₁ c₂ f₂ c f a₁ b₁ a₂ b₂ ec ef =
      let A = ends (cut t h) (d - 1) l in
      let B = ends (cut t h) (d - 1) r in
      rw (ends_go (cut t h) d n z (cut_go t h n i y), ← el, ← er)
      (omega (arith, length-append A B), omega (arith, least_append top v A B, least_top top v (A ++ B)))

-- ---- what a node gives by itself

module _ (top : ℕ) (t : Nodes) (face : ℕ → ℕ) (has : ℕ → Bool) (n : ℕ) where
  pub score_inner : t.inner n ≡ true → score top t face has n ≡ top
  unfolding score
  score_inner e = rw e

  pub score_miss : has (face n) ≡ false → score top t face has n ≡ top
  unfolding score
  score_miss e = test (t.inner n) (λ y. rw y) (λ y. rw (y, e))

  pub score_hit : t.inner n ≡ false → has (face n) ≡ true → score top t face has n ≡ face n
  unfolding score
  score_hit e f = rw (e, f)

  pub score_top : (t.inner n ≡ false → face n ≤ top) → score top t face has n ≤ top
  score_top small =
      test (t.inner n) (λ y. omega (arith, score_inner y))
      (λ y. test (has (face n)) (λ z. omega (arith, score_hit y z, small y)) (λ z. omega (arith, score_miss z)))
