-- The planted floor's boxes: node by node they are the boxes of the ranges, so they are finite, tight, and hold what rule 14 asks.
-- Assumes nothing.
use Prim.Native.Nat.{ℕ, zero, suc, ◌+◌, ◌*◌, ◌-◌, ◌/◌, ◌<◌, ◌≤◌}
use native.Mathlib.Omega.{arith}
use mathlib.Core.Path.{◌≡◌, sym, ap, subst, ◌∙◌}
use lib.Dec.{leb}
use lib.ListN.{get_or}
use lib.Ieee.{Float, binary32, to_bits}
use lib.Ieee.Bits.{of_bits-to_bits}
use borrow.Author.Tests.{leb-true, leb-false}
use Rattle.verdict.proofs.Bools.{test}
use Rattle.tables.specs.Parts.{none32, Parts, corner, word_of, vertex_word, node_word}
use Rattle.grid.specs.Grid.{finite}
use Rattle.boxes.specs.declared.Box.{Box}
use Rattle.boxes.specs.Box.{box_of_bits}
use Rattle.boxes.specs.Plain.{HoldsBox}
use Rattle.mesh.specs.Mesh.{IsFinite}
use Rattle.mesh.proofs.Plain.{test_finite}
use Rattle.nodes.specs.Nodes.{face_of, left_of, right_of}
use Rattle.nodes.specs.Plain.{Leaf, Inner}
use Rattle.nodes.proofs.Rule12.{not_both}
use Rattle.tree.specs.Boxes.{box_of}
use Rattle.tree.specs.Plain.{BoxesHold}
use Rattle.planting.specs.Boxes.{face_box, range_box, plane_for}
use Rattle.planting.specs.Planting.{node_words, leaf_words, inner_words, planted}
use Rattle.planting.specs.Sides.{Sides, Good, HoldsCorner}
use Rattle.planting.proofs.Ranges.{none_most, box_one}
use Rattle.grown.proofs.Spots.{Spot, one_words, two_words, left_spot, right_spot}
use Rattle.grown.proofs.Numbered.{leaf_face, leaf_at, inner_at, left_is, right_is}
use Rattle.planting.proofs.Tight.{range_good, face_holds, range_lower, range_upper}
use Rattle.grown.proofs.Grown.{faces_are, few_planted, each_node}

-- ---- words there and back

module _ (b : Box) (s : Sides Good b) (f pl l r : ℕ) where
  -- the first six words are the box
  words_box : box_of_bits (get_or (node_words b f pl l r) 0 0) (get_or (node_words b f pl l r) 1 0) (get_or (node_words b f pl l r) 2 0)
      (get_or (node_words b f pl l r) 3 0) (get_or (node_words b f pl l r) 4 0) (get_or (node_words b f pl l r) 5 0) ≡ b
  unfolding box_of_bits node_words
  words_box = λ i. record {
    least_x = of_bits-to_bits binary32 _ s.least_x.fits i;
    least_y = of_bits-to_bits binary32 _ s.least_y.fits i;
    least_z = of_bits-to_bits binary32 _ s.least_z.fits i;
    greatest_x = of_bits-to_bits binary32 _ s.greatest_x.fits i;
    greatest_y = of_bits-to_bits binary32 _ s.greatest_y.fits i;
    greatest_z = of_bits-to_bits binary32 _ s.greatest_z.fits i;
  }

  back : (c : ℕ) (x : Float) → Good c x → IsFinite (to_bits binary32 x)
  back c x g = test_finite _ (ap finite (of_bits-to_bits binary32 x g.fits) ∙ g.finite)

  words_finite : (e : ℕ) → e < 6 → IsFinite (get_or (node_words b f pl l r) e 0)
  unfolding node_words
  words_finite zero m = back 0 _ s.least_x
  words_finite (suc zero) m = back 1 _ s.least_y
  words_finite (suc (suc zero)) m = back 2 _ s.least_z
  words_finite (suc (suc (suc zero))) m = back 0 _ s.greatest_x
  words_finite (suc (suc (suc (suc zero)))) m = back 1 _ s.greatest_y
  words_finite (suc (suc (suc (suc (suc zero))))) m = back 2 _ s.greatest_z
  words_finite (suc (suc (suc (suc (suc (suc e)))))) m = absurd (omega arith)

-- ---- node by node

module _ (p : Parts) (few : p.faces ≤ 4096)
    (vertices : (v e : ℕ) → v < p.vertices → e < 3 → IsFinite (vertex_word p v e))
    (corners : (f e : ℕ) → f < p.faces → e < 3 → corner p f e < p.vertices) where
  good : (d k from n : ℕ) → Spot p (planted p) d k from n → Sides Good (range_box p d from n)
  good d k from n s = range_good p vertices corners d from n s.some s.few (omega (arith, s.faces, faces_are p few))

  -- a node's words: those of its range's box, and more
  pub record Words_of (k : ℕ) (b : Box) : Type 0 where
    pub face : ℕ
    pub plane : ℕ
    pub left : ℕ
    pub right : ℕ
    pub words : (e : ℕ) → e < 11 → node_word (planted p) k e ≡ get_or (node_words b face plane left right) e 0

  one_of : (d k from n : ℕ) → Spot p (planted p) d k from n → n ≤ 1 → Words_of k (range_box p d from n)
  unfolding leaf_words
  one_of d k from n s l = record {
    face = from;
    plane = 0;
    left = none32;
    right = none32;
    words = λ e m.
        one_words p (planted p) d k from n s l e m ∙ ap (λ (b : Box). get_or (leaf_words b from) e 0) (sym (box_one p d from n l));
  }

  two_of : (d k from n : ℕ) → Spot p (planted p) (suc d) k from n → 2 ≤ n → Words_of k (range_box p (suc d) from n)
  unfolding inner_words
  two_of d k from n s l = record {
    face = none32;
    plane = plane_for (range_box p (suc d) from n);
    left = k + 1;
    right = k + 2 * (n / 2);
    words = two_words p (planted p) d k from n s l;
  }

  pub words_of : (d k from n : ℕ) → Spot p (planted p) d k from n → Words_of k (range_box p d from n)
  words_of zero k from n s = one_of 0 k from n s (none_most n s.few)
  words_of (suc d) k from n s = test (leb n 1) (λ y. one_of (suc d) k from n s (leb-true n 1 y)) (λ y. two_of d k from n s (leb-false n 1 y))

  -- a node's box is its range's
  pub box_is : (d k from n : ℕ) → Spot p (planted p) d k from n → box_of (planted p) k ≡ range_box p d from n
  unfolding box_of
  box_is d k from n s =
      let w = words_of d k from n s in
      rw (w.words 0 (omega arith), w.words 1 (omega arith), w.words 2 (omega arith), w.words 3 (omega arith), w.words 4 (omega arith), w.words 5 (omega arith))
      (words_box (range_box p d from n) (good d k from n s) w.face w.plane w.left w.right)

  -- 7, of the boxes
  pub finite_planted : (k e : ℕ) → k < (planted p).nodes → e < 6 → IsFinite (node_word (planted p) k e)
  finite_planted k e l m =
      let r = each_node p few k l in
      let w = words_of r.depth k r.from r.count r.spot in
      subst IsFinite (sym (w.words e (omega arith))) (words_finite _ (good _ k _ _ r.spot) w.face w.plane w.left w.right e m)

  -- ---- 14

  leaf_holds : (f e : ℕ) → f < p.faces → e < 3 → HoldsCorner (planted p) (face_box p f) f e
  unfolding planted word_of
  leaf_holds f e l m = face_holds p vertices corners f e l m

  one_holds : (d k from n e : ℕ) → Spot p (planted p) d k from n → n ≤ 1 → e < 3 → HoldsCorner (planted p) (box_of (planted p) k) (face_of (planted p) k) e
  one_holds d k from n e s l m =
      subst (λ (f : ℕ). HoldsCorner (planted p) (box_of (planted p) k) f e) (sym (leaf_face p (planted p) (few_planted p few) d k from n s l))
      (subst (λ (b : Box). HoldsCorner (planted p) b from e) (sym (box_is d k from n s ∙ box_one p d from n l)) (leaf_holds from e (omega (arith, s.faces, s.some, faces_are p few)) m))

  corners_at : (d k from n e : ℕ) → Spot p (planted p) d k from n → Leaf (planted p) k → e < 3 → HoldsCorner (planted p) (box_of (planted p) k) (face_of (planted p) k) e
  corners_at zero k from n e s f m = one_holds 0 k from n e s (none_most n s.few) m
  corners_at (suc d) k from n e s f m =
      test (leb n 1) (λ y. one_holds (suc d) k from n e s (leb-true n 1 y) m)
      (λ y. absurd (not_both (planted p) k (few_planted p few) f (inner_at p (planted p) (few_planted p few) d k from n s (leb-false n 1 y))))

  abbrev Children : ℕ → Type 0
  Children k = HoldsBox (box_of (planted p) k) (box_of (planted p) (left_of (planted p) k)) × HoldsBox (box_of (planted p) k) (box_of (planted p) (right_of (planted p) k))

  children_at : (d k from n : ℕ) → Spot p (planted p) d k from n → Inner (planted p) k → Children k
  children_at zero k from n s i = absurd (not_both (planted p) k (few_planted p few) (leaf_at p (planted p) (few_planted p few) 0 k from n s (none_most n s.few)) i)
  children_at (suc d) k from n s i =
      test (leb n 1) (λ y. absurd (not_both (planted p) k (few_planted p few) (leaf_at p (planted p) (few_planted p few) (suc d) k from n s (leb-true n 1 y)) i))
      (λ y.
      let two = leb-false n 1 y in
      let own = box_is (suc d) k from n s in
      let l = ap (box_of (planted p)) (left_is p (planted p) (few_planted p few) d k from n s two) ∙ box_is d (k + 1) from (n / 2) (left_spot p (planted p) d k from n s two) in
      let r = ap (box_of (planted p)) (right_is p (planted p) (few_planted p few) d k from n s two) ∙ box_is d (k + 2 * (n / 2)) (from + n / 2) (n - n / 2) (right_spot p (planted p) d k from n s two) in
      let inside : from + n ≤ p.faces = omega (arith, s.faces, faces_are p few) in
      (rw (own, l) (range_lower p vertices corners d from n two s.few inside), rw (own, r) (range_upper p vertices corners d from n two s.few inside)))

  pub boxes_planted : BoxesHold (planted p)
  boxes_planted = record {
    corners = λ n e l f m. let r = each_node p few n l in corners_at r.depth n r.from r.count e r.spot f m;
    left = λ n l i. let r = each_node p few n l in (children_at r.depth n r.from r.count r.spot i).0;
    right = λ n l i. let r = each_node p few n l in (children_at r.depth n r.from r.count r.spot i).1;
  }
