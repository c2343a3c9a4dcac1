-- Laws of `leaf_faces`, as the loop over the nodes marks them. Assumes nothing.
use Prim.Native.Nat.{ℕ, zero, suc, ◌+◌, ◌<◌, ◌≤◌}
use native.Mathlib.Omega.{arith}
use native.Mathlib.Numerals.{add-one}
use native.Mathlib.Nat.{eq-or-lt_of_le}
use mathlib.Core.Path.{◌≡◌, refl, sym, ap, ◌∙◌}
use mathlib.Core.Logic.{⊎_elim}
use mathlib.Core.Bool.{true, false, cond}
use mathlib.Core.List.{List, [], ◌∷◌, ◌++◌, append_assoc, append-nil}
use lib.ListN.{get_or, set}
use Rattle.verdict.specs.Memory.{fresh, marked}
use Rattle.verdict.proofs.Bools.{test}
use Rattle.verdict.proofs.Lists.{NoneFrom, none_nil, none_cons, none_append}
use Rattle.verdict.proofs.Marks.{is_marked_lem, not_marked, fresh_hit, fresh_new, marked_hit, marked_new, fresh_append, marked_append, fresh_append_stop, marked_append_stop}
use Rattle.nodes.specs.Nodes.{Nodes}
use Rattle.tree.specs.Tree.{leaf_faces}

module _ (t : Nodes) (f : ℕ → ℕ) where
  pub faces_inner : (n : ℕ) → t.inner n ≡ true → leaf_faces t f (n + 1) ≡ leaf_faces t f n
  unfolding leaf_faces
  faces_inner n e = rw (add-one, e) (append-nil (leaf_faces t f n))

  pub faces_leaf : (n : ℕ) → t.inner n ≡ false → leaf_faces t f (n + 1) ≡ leaf_faces t f n ++ (f n ∷ [])
  unfolding leaf_faces
  faces_leaf n e = rw (add-one, e)

  -- what the loop has marked is the front of what it marks in all
  faces_front : (n m : ℕ) → n ≤ m → (l : List ℕ) × (leaf_faces t f m ≡ leaf_faces t f n ++ l)
  unfolding leaf_faces
  faces_front zero zero h = ([], refl)
  faces_front (suc n) zero h = absurd (omega arith)
  faces_front n (suc m) h =
      ⊎_elim
      (λ (e : n ≡ suc m). ([], ap (leaf_faces t f) (sym e) ∙ sym (append-nil (leaf_faces t f n))))
      (λ (lt : n < suc m). let (l, e) = faces_front n m (omega arith) in (l ++ cond (t.inner m) [] (f m ∷ []), ap (λ (k : List ℕ). k ++ cond (t.inner m) [] (f m ∷ [])) e ∙ append_assoc (leaf_faces t f n) l _))
      (eq-or-lt_of_le h)

  pub faces_within : (N F : ℕ) → ((n : ℕ) → n < N → t.inner n ≡ false → f n < F) → (n : ℕ) → n ≤ N → NoneFrom F (leaf_faces t f n)
  unfolding leaf_faces
  faces_within N F h zero le = none_nil F
  faces_within N F h (suc n) le =
      none_append F (leaf_faces t f n) _ (faces_within N F h n (omega arith))
      (test (t.inner n) (λ y. rw y (none_nil F)) (λ y. rw y (none_cons F (f n) [] (h n (omega arith) y) (none_nil F))))

  -- a turn at a leaf: its face is new, or it is marked already
  module _ (w₀ w : List ℕ) (n : ℕ) (free : fresh (leaf_faces t f n) w₀ ≡ true) (m : w ≡ marked (leaf_faces t f n) w₀) (e : t.inner n ≡ false) where
    pub face_new : get_or w (f n) 0 ≡ 0 → (fresh (leaf_faces t f (n + 1)) w₀ ≡ true) × (set w (f n) 1 ≡ marked (leaf_faces t f (n + 1)) w₀)
    unfolding fresh marked
    face_new z =
        let new = not_marked w (f n) z in
        rw (faces_leaf n e, fresh_append (f n ∷ []) (leaf_faces t f n) w₀ free, marked_append (f n ∷ []) (leaf_faces t f n) w₀ free, ← m, fresh_new (f n) [] w new, marked_new (f n) [] w new)
        (refl, refl)

    pub face_hit : (N : ℕ) → n < N → (get_or w (f n) 0 ≡ 0 → ⊥) → (false ≡ fresh (leaf_faces t f N) w₀) × (w ≡ marked (leaf_faces t f N) w₀)
    face_hit N lt z =
        let A = leaf_faces t f n in
        let B = f n ∷ [] in
        let (l, q) = faces_front (n + 1) N (omega arith) in
        let old = is_marked_lem w (f n) z in
        let stopped : fresh (A ++ B) w₀ ≡ false = fresh_append B A w₀ free ∙ (ap (fresh B) (sym m) ∙ fresh_hit (f n) [] w old) in
        let left : w ≡ marked (A ++ B) w₀ = sym (marked_append B A w₀ free ∙ (ap (marked B) (sym m) ∙ marked_hit (f n) [] w old)) in
        rw (q, faces_leaf n e) (sym (fresh_append_stop l (A ++ B) w₀ stopped), left ∙ sym (marked_append_stop l (A ++ B) w₀ stopped))
