-- "Boxes as tight as possible": a node's box holds every corner of the faces below it, and every box that does so holds it.
-- Assumes nothing.
use Prim.Native.Nat.{ℕ, zero, suc, ◌+◌, ◌*◌, ◌-◌, ◌/◌, ◌<◌, ◌≤◌}
use native.Mathlib.Omega.{arith}
use native.Mathlib.Decide.{dec_lt}
use mathlib.Core.Path.{◌≡◌, refl, sym, subst, ◌∙◌}
use mathlib.Core.Bool.{Bool, true, false}
use mathlib.Core.Logic.{⊎_elim}
use mathlib.Core.List.{List, [], ◌∷◌}
use mathlib.Core.Option.{some}
use lib.Dec.{leb}
use lib.Ieee.{Float, le}
use borrow.Author.Tests.{leb-true, leb-false}
use Rattle.verdict.proofs.Bools.{test, decided, clash}
use Rattle.tables.specs.Parts.{Parts, corner, vertex_word, word_of}
use Rattle.grid.specs.Grid.{finite}
use Rattle.grid.proofs.Order.{le_trans}
use Rattle.boxes.specs.declared.Box.{Box}
use Rattle.boxes.specs.Plain.{HoldsBox}
use Rattle.mesh.specs.Mesh.{IsFinite}
use Rattle.mesh.proofs.Plain.{finite_test}
use Rattle.nodes.specs.Nodes.{nodes_of, face_of, left_of, right_of}
use Rattle.nodes.specs.Plain.{Leaf, Inner}
use Rattle.nodes.proofs.Rule12.{leaf_is}
use Rattle.tree.specs.Boxes.{box_of, vertex_float}
use Rattle.tree.specs.Plain.{follow}
use Rattle.tree.proofs.Paths.{some_same, kid, step, unstep}
use Rattle.planting.specs.Planting.{planted}
use Rattle.planting.proofs.Tight.{Coordinate, Tight}
use Rattle.planting.specs.Sides.{Sides, HoldsCorner}
use Rattle.grown.specs.Plain.{Below, OfCorner, Tightest}
use Rattle.planting.proofs.Ranges.{none_most}
use Rattle.grown.proofs.Spots.{Spot, left_spot, right_spot}
use Rattle.grown.proofs.Numbered.{leaf_face, leaf_at, inner_in, left_is, right_is}
use Rattle.planting.proofs.Order.{plain_same, plain_under, plain_over}
use Rattle.planting.proofs.Tight.{sides_map, wider, range_tight}
use Rattle.grown.proofs.Grown.{faces_are, few_planted, each_node, kinds_planted}
use Rattle.grown.proofs.Held.{box_is, boxes_planted}

-- ---- the faces of a range hang below its node

module _ (p q : Parts) (small : q.faces ≤ 4096) where
  one_below : (d k from n f : ℕ) → Spot p q d k from n → n ≤ 1 → from ≤ f → f < from + n → Below q k f
  unfolding follow
  one_below d k from n f s l a b = record {
    node = k;
    steps = [];
    leads = refl;
    leaf = leaf_at p q small d k from n s l;
    here = leaf_face p q small d k from n s l ∙ omega arith;
  }

  step_below : (side : Bool) (k j f : ℕ) → (nodes_of q).inner k ≡ true → kid (nodes_of q) side k ≡ j → Below q j f → Below q k f
  step_below side k j f y e b = record {
    node = b.node;
    steps = side ∷ b.steps;
    leads = unstep (nodes_of q) side b.steps k b.node y (subst (λ (i : ℕ). follow (nodes_of q) b.steps i ≡ some b.node) (sym e) b.leads);
    leaf = b.leaf;
    here = b.here;
  }

  left_kid : (k l : ℕ) → left_of q k ≡ l → kid (nodes_of q) true k ≡ l
  unfolding nodes_of
  left_kid k l e = e

  right_kid : (k r : ℕ) → right_of q k ≡ r → kid (nodes_of q) false k ≡ r
  unfolding nodes_of
  right_kid k r e = e

  range_below : (d k from n f : ℕ) → Spot p q d k from n → from ≤ f → f < from + n → Below q k f
  range_below zero k from n f s a b = one_below 0 k from n f s (none_most n s.few) a b
  range_below (suc d) k from n f s a b =
      let left = range_below d (k + 1) from (n / 2) f in
      let right = range_below d (k + 2 * (n / 2)) (from + n / 2) (n - n / 2) f in
      test (leb n 1)
      (λ y. one_below (suc d) k from n f s (leb-true n 1 y) a b)
      (λ y.
      let two = leb-false n 1 y in
      let inner = inner_in p q small d k from n s two in
      decided (dec_lt f (from + n / 2))
      (λ z. step_below true k (k + 1) f inner (left_kid k (k + 1) (left_is p q small d k from n s two)) (left (left_spot p q d k from n s two) a z))
      (λ z. step_below false k (k + 2 * (n / 2)) f inner (right_kid k (k + 2 * (n / 2)) (right_is p q small d k from n s two)) (right (right_spot p q d k from n s two) (omega arith) (omega arith))))

-- ---- a box that holds the corners holds a tight box

module _ (p : Parts) (vertices : (v e : ℕ) → v < p.vertices → e < 3 → IsFinite (vertex_word p v e))
    (corners : (f e : ℕ) → f < p.faces → e < 3 → corner p f e < p.vertices)
    (from n : ℕ) (inside : from + n ≤ p.faces) where
  fine : (c : ℕ) → c < 3 → (f e : ℕ) → f < from + n → e < 3 → finite (vertex_float p (corner p f e) c) ≡ true
  fine c k f e l m = finite_test _ (vertices (corner p f e) c (corners f e (omega arith) m) k)

  under : (c : ℕ) → c < 3 → (lo x : Float) → Coordinate p from n c x → ((f e : ℕ) → from ≤ f → f < from + n → e < 3 → le lo (vertex_float p (corner p f e) c) ≡ true) → le lo x ≡ true
  under c k lo x h b =
      subst (λ (y : Float). le lo y ≡ true) (sym h.here)
      (le_trans lo _ _ (b h.face h.end h.from_on h.under h.three) (plain_over _ (fine c k h.face h.end h.under h.three)))

  over : (c : ℕ) → c < 3 → (hi x : Float) → Coordinate p from n c x → ((f e : ℕ) → from ≤ f → f < from + n → e < 3 → le (vertex_float p (corner p f e) c) hi ≡ true) → le x hi ≡ true
  over c k hi x h b =
      subst (λ (y : Float). le y hi ≡ true) (sym h.here)
      (le_trans _ _ hi (plain_under _ (fine c k h.face h.end h.under h.three)) (b h.face h.end h.from_on h.under h.three))

  tight_least : (a b : Box) → Tight p from n b → ((f e : ℕ) → from ≤ f → f < from + n → e < 3 → HoldsCorner p a f e) → HoldsBox a b
  tight_least a b t h = record {
    least_x = under 0 (omega arith) _ _ t.least_x (λ f e x y z. (h f e x y z).least_x);
    least_y = under 1 (omega arith) _ _ t.least_y (λ f e x y z. (h f e x y z).least_y);
    least_z = under 2 (omega arith) _ _ t.least_z (λ f e x y z. (h f e x y z).least_z);
    greatest_x = over 0 (omega arith) _ _ t.greatest_x (λ f e x y z. (h f e x y z).greatest_x);
    greatest_y = over 1 (omega arith) _ _ t.greatest_y (λ f e x y z. (h f e x y z).greatest_y);
    greatest_z = over 2 (omega arith) _ _ t.greatest_z (λ f e x y z. (h f e x y z).greatest_z);
  }

-- ---- of the planted floor

module _ (p : Parts) (few : p.faces ≤ 4096)
    (vertices : (v e : ℕ) → v < p.vertices → e < 3 → IsFinite (vertex_word p v e))
    (corners : (f e : ℕ) → f < p.faces → e < 3 → corner p f e < p.vertices) where
  same_corner : (b : Box) (f e : ℕ) → HoldsCorner (planted p) b f e → HoldsCorner p b f e
  unfolding planted word_of
  same_corner b f e h = h

  inner_of : (k : ℕ) → k < (planted p).nodes → (nodes_of (planted p)).inner k ≡ true → Inner (planted p) k
  inner_of k l y = ⊎_elim (λ (f : Leaf (planted p) k). clash y (leaf_is (planted p) k (few_planted p few) f)) (λ (i : Inner (planted p) k). i) (kinds_planted p few k l)

  path_holds : (steps : List Bool) (k m e : ℕ) → k < (planted p).nodes → follow (nodes_of (planted p)) steps k ≡ some m → Leaf (planted p) m → e < 3
      → HoldsCorner (planted p) (box_of (planted p) k) (face_of (planted p) m) e
  unfolding follow
  path_holds [] k m e l g f x =
      subst (λ (i : ℕ). HoldsCorner (planted p) (box_of (planted p) i) (face_of (planted p) m) e) (sym (some_same k m g))
      ((boxes_planted p few vertices corners).corners m e (subst (λ (i : ℕ). i < (planted p).nodes) (some_same k m g) l) f x)
  path_holds (true ∷ steps) k m e l g f x =
      let (y, on) = step (nodes_of (planted p)) true steps k m g in
      let i = inner_of k l y in
      let on' = subst (λ (j : ℕ). follow (nodes_of (planted p)) steps j ≡ some m) (left_kid p (planted p) (few_planted p few) k (left_of (planted p) k) refl) on in
      wider _ _ _ _ _ ((boxes_planted p few vertices corners).left k l i) (path_holds steps (left_of (planted p) k) m e i.left on' f x)
  path_holds (false ∷ steps) k m e l g f x =
      let (y, on) = step (nodes_of (planted p)) false steps k m g in
      let i = inner_of k l y in
      let on' = subst (λ (j : ℕ). follow (nodes_of (planted p)) steps j ≡ some m) (right_kid p (planted p) (few_planted p few) k (right_of (planted p) k) refl) on in
      wider _ _ _ _ _ ((boxes_planted p few vertices corners).right k l i) (path_holds steps (right_of (planted p) k) m e i.right on' f x)

  -- a coordinate of a range is that of a corner of a face below its node
  of_corner : (k d from n c : ℕ) (x : Float) → c < 3 → Spot p (planted p) d k from n → Coordinate p from n c x → OfCorner (planted p) k c x
  of_corner k d from n c x m s h = record {
    face = h.face;
    below = range_below p (planted p) (few_planted p few) d k from n h.face s h.from_on h.under;
    end = h.end;
    three = h.three;
    here = unfold planted word_of in rw h.here (plain_same _ (fine p vertices corners from n (omega (arith, s.faces, faces_are p few)) c m h.face h.end h.under h.three));
  }

  pub tightest_planted : (k : ℕ) → k < (planted p).nodes → Tightest (planted p) k
  tightest_planted k l =
      let r = each_node p few k l in
      let s = r.spot in
      record {
        holds = λ f e b x. subst (λ (g : ℕ). HoldsCorner (planted p) (box_of (planted p) k) g e) b.here (path_holds b.steps k b.node e l b.leads b.leaf x);
        least = λ a h.
            subst (HoldsBox a) (sym (box_is p few vertices corners r.depth k r.from r.count s))
            (tight_least p vertices corners r.from r.count (omega (arith, s.faces, faces_are p few)) a _ (range_tight p r.depth r.from r.count s.some s.few)
            (λ f e x y z. same_corner a f e (h f e (range_below p (planted p) (few_planted p few) r.depth k r.from r.count f s x y) z)));
        ends =
            subst (Sides (OfCorner (planted p) k)) (sym (box_is p few vertices corners r.depth k r.from r.count s))
            (sides_map (Coordinate p r.from r.count) (OfCorner (planted p) k) _ (λ c x m h. of_corner k r.depth r.from r.count c x m s h) (range_tight p r.depth r.from r.count s.some s.few));
      }
