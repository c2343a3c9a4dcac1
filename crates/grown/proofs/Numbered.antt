-- The tree over a range of faces is one tree: its nodes are the numbers in order, each reached by one path, none by more steps than
-- there are halvings, and its leaves name the faces in order. Assumes nothing.
use Prim.Native.Nat.{ℕ, zero, suc, ◌+◌, ◌*◌, ◌-◌, ◌/◌, ◌<◌, ◌≤◌}
use native.Mathlib.Omega.{arith}
use mathlib.Core.Path.{◌≡◌, refl, sym, ap, ap₂, subst, ◌∙◌}
use mathlib.Core.Logic.{◌⊎◌, inl, inr}
use mathlib.Core.Bool.{Bool, true, false, cond, ◌&&◌}
use mathlib.Core.List.{List, [], ◌∷◌, ◌++◌, append_assoc, append-nil}
use lib.Dec.{leb, eqb}
use lib.Ieee.{le}
use borrow.Author.Tests.{leb-true, leb-false, ne_eqb, eqb-true, eqb-false}
use Rattle.verdict.specs.Lists.{times}
use Rattle.verdict.proofs.Bools.{test}
use Rattle.tables.specs.Parts.{Parts}
use Rattle.nodes.specs.Nodes.{Nodes, nodes_of, face_of, left_of, right_of}
use Rattle.nodes.specs.Plain.{Plane, Leaf, Inner}
use Rattle.nodes.proofs.Rule12.{leaf_is, inner_is}
use Rattle.boxes.specs.declared.Box.{Box}
use Rattle.tree.specs.Tree.{ends, deep, leaf_faces}
use Rattle.tree.proofs.Deep.{ends_leaf, ends_inner, deep_leaf, deep_inner}
use Rattle.planting.specs.Boxes.{range_box, longest, plane_for}
use Rattle.planting.specs.Planting.{node_words, leaf_words, inner_words}
use Rattle.grown.specs.Plain.{Halved, uncut, cut}
use Rattle.planting.proofs.Ranges.{none_most, half_some}
use Rattle.grown.proofs.Spots.{Spot, one_words, two_words, left_spot, right_spot}

-- ---- n numbers from a on

unfoldable pub up_from : ℕ → ℕ → List ℕ
up_from a zero = []
up_from a (suc n) = a ∷ up_from (suc a) n

up_join : (m a b n k : ℕ) → b ≡ a + m → k ≡ m + n → up_from a m ++ up_from b n ≡ up_from a k
unfolding up_from
up_join zero a b n k e f =
    let x : b ≡ a = omega arith in
    let y : n ≡ k = omega arith in
    ap₂ up_from x y
up_join (suc m) a b n k e f =
    let y : suc (m + n) ≡ k = omega arith in
    ap (λ (l : List ℕ). a ∷ l) (up_join m (suc a) b n (m + n) (omega arith) refl) ∙ ap (up_from a) y

up_more : (k m j : ℕ) → j ≡ suc m → k ∷ up_from (k + 1) m ≡ up_from k j
unfolding up_from
up_more k m j e =
    let x : k + 1 ≡ suc k = omega arith in
    ap (λ (i : ℕ). k ∷ up_from i m) x ∙ ap (up_from k) (sym e)

up_one : (k j : ℕ) → j ≡ 1 → k ∷ [] ≡ up_from k j
unfolding up_from
up_one k j e = ap (up_from k) (sym e)

up_under : (n a k : ℕ) → k < a → times k (up_from a n) ≡ 0
unfolding up_from times
up_under zero a k l = refl
up_under (suc n) a k l =
    let ih = up_under n (suc a) k (omega arith) in
    rw (ne_eqb a k (λ (e : a ≡ k). omega arith)) (omega arith)

pub up_once : (n a k : ℕ) → a ≤ k → k < a + n → times k (up_from a n) ≡ 1
unfolding up_from times
up_once zero a k l m = absurd (omega arith)
up_once (suc n) a k l m =
    let under = up_under n (suc a) k in
    let ih = up_once n (suc a) k in
    test (eqb a k)
    (λ y. let z = under (omega (arith, eqb-true a k y)) in rw y (omega arith))
    (λ y. let z = ih (omega (arith, ne_lt a k (eqb-false a k y) l)) (omega arith) in rw y (omega arith))
  where
    ne_lt : (a k : ℕ) → (a ≡ k → ⊥) → a ≤ k → a < k
    ne_lt a k h l = omega arith

-- ---- the words of a node

-- the longest side has a number
plane_is : (b : Box) → Plane (plane_for b)
unfolding plane_for longest
plane_is b = one_of (le _ _ && le _ _) (le _ _)
  where
    one_of : (s t : Bool) → Plane (cond s 1 (cond t 2 3))
    one_of true t = inl refl
    one_of false true = inr (inl refl)
    one_of false false = inr (inr (inl refl))

pub plane_small : (b : Box) → plane_for b ≤ 3
unfolding plane_for longest
plane_small b = one_of (le _ _ && le _ _) (le _ _)
  where
    one_of : (s t : Bool) → cond s 1 (cond t 2 3) ≤ 3
    one_of true t = omega arith
    one_of false true = omega arith
    one_of false false = omega arith

module _ (p q : Parts) (small : q.faces ≤ 4096) where
  module _ (d k from n : ℕ) (s : Spot p q d k from n) (one : n ≤ 1) where
    pub leaf_face : face_of q k ≡ from
    unfolding leaf_words node_words
    leaf_face = one_words p q d k from n s one 6 (omega arith)

    pub leaf_at : Leaf q k
    unfolding leaf_words node_words
    leaf_at = record {
      face = omega (arith, leaf_face, s.faces, s.some);
      plane = one_words p q d k from n s one 8 (omega arith);
      left = one_words p q d k from n s one 9 (omega arith);
      right = one_words p q d k from n s one 10 (omega arith);
    }

    leaf_out : (nodes_of q).inner k ≡ false
    leaf_out = leaf_is q k small leaf_at

  module _ (d k from n : ℕ) (s : Spot p q (suc d) k from n) (two : 2 ≤ n) where
    pub left_is : left_of q k ≡ k + 1
    unfolding inner_words node_words
    left_is = two_words p q d k from n s two 9 (omega arith)

    pub right_is : right_of q k ≡ k + 2 * (n / 2)
    unfolding inner_words node_words
    right_is = two_words p q d k from n s two 10 (omega arith)

    pub inner_at : Inner q k
    unfolding inner_words node_words
    inner_at = record {
      face = two_words p q d k from n s two 6 (omega arith);
      plane = subst Plane (sym (two_words p q d k from n s two 8 (omega arith))) (plane_is (range_box p (suc d) from n));
      left = omega (arith, left_is, s.nodes);
      right = omega (arith, right_is, s.nodes);
    }

    pub inner_in : (nodes_of q).inner k ≡ true
    inner_in = inner_is q k inner_at

  -- every node is a leaf or inner
  pub kind : (d k from n : ℕ) → Spot p q d k from n → Leaf q k ⊎ Inner q k
  kind zero k from n s = inl (leaf_at 0 k from n s (none_most n s.few))
  kind (suc d) k from n s =
      test (leb n 1) (λ y. inl (leaf_at (suc d) k from n s (leb-true n 1 y))) (λ y. inr (inner_at d k from n s (leb-false n 1 y)))

  -- in plain words
  pub halved_range : (d k from n : ℕ) → Spot p q d k from n → Halved q k from n
  halved_range zero k from n s =
      let l = none_most n s.few in
      let e : n ≡ 1 = omega (arith, s.some) in
      uncut e (leaf_at 0 k from n s l) (leaf_face 0 k from n s l)
  halved_range (suc d) k from n s =
      let left = halved_range d (k + 1) from (n / 2) in
      let right = halved_range d (k + 2 * (n / 2)) (from + n / 2) (n - n / 2) in
      test (leb n 1)
      (λ y.
      let l = leb-true n 1 y in
      let e : n ≡ 1 = omega (arith, s.some) in
      uncut e (leaf_at (suc d) k from n s l) (leaf_face (suc d) k from n s l))
      (λ y.
      let l = leb-false n 1 y in
      cut l (inner_at d k from n s l) (left_is d k from n s l) (right_is d k from n s l) (left (left_spot p q d k from n s l)) (right (right_spot p q d k from n s l)))

  -- ---- paths, depth, leaves

  abbrev t : Nodes
  t = nodes_of q

  leaf_ends : (D k : ℕ) → t.inner k ≡ false → ends t D k ≡ k ∷ []
  unfolding ends
  leaf_ends zero k y = refl
  leaf_ends (suc D) k y = ends_leaf t D k y

  leaf_deep : (D k : ℕ) → t.inner k ≡ false → deep t D k ≡ false
  unfolding deep
  leaf_deep zero k y = y
  leaf_deep (suc D) k y = deep_leaf t D k y

  inner_ends : (D k l r : ℕ) → t.inner k ≡ true → left_of q k ≡ l → right_of q k ≡ r → ends t (suc D) k ≡ k ∷ (ends t D l ++ ends t D r)
  unfolding nodes_of
  inner_ends D k l r y e f = ends_inner t D k y ∙ ap₂ (λ (a b : ℕ). k ∷ (ends t D a ++ ends t D b)) e f

  inner_deep : (D k l r : ℕ) → t.inner k ≡ true → left_of q k ≡ l → right_of q k ≡ r → deep t D l ≡ false → deep t D r ≡ false → deep t (suc D) k ≡ false
  unfolding nodes_of
  inner_deep D k l r y e f a b = deep_inner t D k y ∙ rw (e, f, a, b)

  -- the ends of the paths are the numbers in order
  pub ends_range : (d D k from n : ℕ) → Spot p q d k from n → d ≤ D → ends t D k ≡ up_from k (2 * n - 1)
  ends_range zero D k from n s l =
      let one = none_most n s.few in
      leaf_ends D k (leaf_out 0 k from n s one) ∙ up_one k (2 * n - 1) (omega (arith, s.some))
  ends_range (suc d) zero k from n s l = absurd (omega arith)
  ends_range (suc d) (suc D) k from n s l =
      let left = ends_range d D (k + 1) from (n / 2) in
      let right = ends_range d D (k + 2 * (n / 2)) (from + n / 2) (n - n / 2) in
      test (leb n 1)
      (λ y. leaf_ends (suc D) k (leaf_out (suc d) k from n s (leb-true n 1 y)) ∙ up_one k (2 * n - 1) (omega (arith, s.some, leb-true n 1 y)))
      (λ y.
      let two = leb-false n 1 y in
      inner_ends D k (k + 1) (k + 2 * (n / 2)) (inner_in d k from n s two) (left_is d k from n s two) (right_is d k from n s two)
      ∙ (ap₂ (λ (a b : List ℕ). k ∷ (a ++ b)) (left (left_spot p q d k from n s two) (omega arith)) (right (right_spot p q d k from n s two) (omega arith))
      ∙ (ap (λ (a : List ℕ). k ∷ a)
      (up_join (2 * (n / 2) - 1) (k + 1) (k + 2 * (n / 2)) (2 * (n - n / 2) - 1) (2 * n - 2) (omega (arith, half_some n two)) (omega (arith, half_some n two)))
      ∙ up_more k (2 * n - 2) (2 * n - 1) (omega arith))))

  -- no path has more steps than there are halvings
  pub deep_range : (d D k from n : ℕ) → Spot p q d k from n → d ≤ D → deep t D k ≡ false
  deep_range zero D k from n s l = leaf_deep D k (leaf_out 0 k from n s (none_most n s.few))
  deep_range (suc d) zero k from n s l = absurd (omega arith)
  deep_range (suc d) (suc D) k from n s l =
      let left = deep_range d D (k + 1) from (n / 2) in
      let right = deep_range d D (k + 2 * (n / 2)) (from + n / 2) (n - n / 2) in
      test (leb n 1)
      (λ y. leaf_deep (suc D) k (leaf_out (suc d) k from n s (leb-true n 1 y)))
      (λ y.
      let two = leb-false n 1 y in
      inner_deep D k (k + 1) (k + 2 * (n / 2)) (inner_in d k from n s two) (left_is d k from n s two) (right_is d k from n s two)
      (left (left_spot p q d k from n s two) (omega arith)) (right (right_spot p q d k from n s two) (omega arith)))

  -- the leaves name the faces in order
  abbrev leaves : ℕ → List ℕ
  leaves k = leaf_faces t (face_of q) k

  leaf_leaves : (k j : ℕ) → j ≡ suc k → t.inner k ≡ false → leaves j ≡ leaves k ++ (face_of q k ∷ [])
  unfolding leaf_faces
  leaf_leaves k j e y = ap leaves e ∙ rw y

  inner_leaves : (k j : ℕ) → j ≡ suc k → t.inner k ≡ true → leaves j ≡ leaves k
  unfolding leaf_faces
  inner_leaves k j e y = ap leaves e ∙ rw y (append-nil (leaves k))

  one_leaf : (d k from n : ℕ) → Spot p q d k from n → n ≤ 1 → leaves (k + (2 * n - 1)) ≡ leaves k ++ up_from from n
  one_leaf d k from n s one =
      leaf_leaves k (k + (2 * n - 1)) (omega (arith, s.some)) (leaf_out d k from n s one)
      ∙ ap (λ (l : List ℕ). leaves k ++ l) (ap (λ (f : ℕ). f ∷ []) (leaf_face d k from n s one) ∙ up_one from n (omega (arith, s.some)))

  pub leaves_range : (d k from n : ℕ) → Spot p q d k from n → leaves (k + (2 * n - 1)) ≡ leaves k ++ up_from from n
  leaves_range zero k from n s = one_leaf 0 k from n s (none_most n s.few)
  leaves_range (suc d) k from n s =
      let left = leaves_range d (k + 1) from (n / 2) in
      let right = leaves_range d (k + 2 * (n / 2)) (from + n / 2) (n - n / 2) in
      test (leb n 1)
      (λ y. one_leaf (suc d) k from n s (leb-true n 1 y))
      (λ y.
      let two = leb-false n 1 y in
      let a : k + (2 * n - 1) ≡ k + 2 * (n / 2) + (2 * (n - n / 2) - 1) = omega (arith, half_some n two) in
      let b : k + 2 * (n / 2) ≡ k + 1 + (2 * (n / 2) - 1) = omega (arith, half_some n two) in
      ap leaves a
      ∙ (right (right_spot p q d k from n s two)
      ∙ (ap (λ (l : List ℕ). l ++ up_from (from + n / 2) (n - n / 2))
      (ap leaves b ∙ (left (left_spot p q d k from n s two) ∙ ap (λ (l : List ℕ). l ++ up_from from (n / 2)) (inner_leaves k (k + 1) (omega arith) (inner_in d k from n s two))))
      ∙ (append_assoc (leaves k) (up_from from (n / 2)) (up_from (from + n / 2) (n - n / 2))
      ∙ ap (λ (l : List ℕ). leaves k ++ l) (up_join (n / 2) from (from + n / 2) (n - n / 2) n refl (omega arith))))))
