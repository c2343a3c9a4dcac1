-- Laws of rule 14: the floats that it reads are finite, its test by cases, and its plain statement both ways. Assumes nothing.
use mathlib.Core.Path.{◌≡◌, sym}
use mathlib.Core.Logic.{◌⊎◌, inl, inr}
use mathlib.Core.Bool.{Bool, true, false, not, cond}
use Prim.Native.Nat.{ℕ, ◌≤◌, ◌<◌}
use lib.Ieee.{binary32, of_bits}
use borrow.Author.Tests.{not-false}
use Rattle.verdict.specs.Verdict.{accepted}
use Rattle.verdict.proofs.Bools.{and_true, true_and}
use Rattle.verdict.proofs.Lowest.{all_true, true_all}
use Rattle.verdict.proofs.Verdict.{each_met, each_passes}
use Rattle.grid.specs.Grid.{finite}
use Rattle.boxes.specs.Box.{holds_box}
use Rattle.boxes.specs.Plain.{HoldsBox, HoldsPoint}
use Rattle.boxes.proofs.Boxes.{point_held, held_point, inner, inner_back}
use Rattle.tables.specs.Parts.{Parts, vertex_word, corner, node_word}
use Rattle.mesh.specs.Mesh.{Finite}
use Rattle.mesh.proofs.Plain.{finite_test}
use Rattle.nodes.specs.Nodes.{nodes_of, face_of, left_of, right_of}
use Rattle.nodes.specs.Plain.{Leaf, Inner}
use Rattle.nodes.proofs.Rule12.{leaf_is, inner_is}
use Rattle.tree.specs.Boxes.{box_of, vertex_float, holds_corner, holds_face, holds_children, too_small, rule14}
use Rattle.tree.specs.Plain.{BoxesHold}

-- ---- what rule 7 gives

pub node_finite : (p : Parts) (n e w : ℕ) → Finite p → n < p.nodes → e < 6 → w ≡ node_word p n e → finite (of_bits binary32 w) ≡ true
node_finite p n e w f l m q = rw q (finite_test _ (f.box n e l m))

pub vertex_finite : (p : Parts) (v e w : ℕ) → Finite p → v < p.vertices → e < 3 → w ≡ vertex_word p v e → finite (of_bits binary32 w) ≡ true
vertex_finite p v e w f l m q = rw q (finite_test _ (f.vertex v e l m))

-- ---- the test, by cases

module _ (p : Parts) (n : ℕ) where
  pub small_inner : (b : Bool) → (nodes_of p).inner n ≡ true → b ≡ holds_children p n → not b ≡ too_small p n
  unfolding too_small
  small_inner b y e = rw (e, y)

  pub small_leaf : (b : Bool) → (nodes_of p).inner n ≡ false → b ≡ holds_face p n → not b ≡ too_small p n
  unfolding too_small
  small_leaf b y e = rw (e, y)

  pub no_left : holds_box (box_of p n) (box_of p (left_of p n)) ≡ false → false ≡ holds_children p n
  unfolding holds_children
  no_left e = rw e

  pub by_right : holds_box (box_of p n) (box_of p (left_of p n)) ≡ true → holds_box (box_of p n) (box_of p (right_of p n)) ≡ holds_children p n
  unfolding holds_children
  by_right e = rw e

-- ---- the plain statement

module _ (p : Parts) (few : p.faces ≤ 4096) where
  leaf_right : (n : ℕ) → Leaf p n → too_small p n ≡ false → (e : ℕ) → e < 3 → holds_corner p n (face_of p n) e ≡ true
  unfolding too_small holds_face
  leaf_right n l t = all_true (holds_corner p n (face_of p n)) 3 (rw (leaf_is p n few l) at (not-false (cond ((nodes_of p).inner n) (holds_children p n) (holds_face p n)) t))

  inner_right : (n : ℕ) → Inner p n → too_small p n ≡ false → holds_children p n ≡ true
  unfolding too_small
  inner_right n i t = rw (inner_is p n i) at (not-false (cond ((nodes_of p).inner n) (holds_children p n) (holds_face p n)) t)

  both : (n : ℕ) → Inner p n → too_small p n ≡ false → HoldsBox (box_of p n) (box_of p (left_of p n)) × HoldsBox (box_of p n) (box_of p (right_of p n))
  unfolding holds_children
  both n i t =
      let h = and_true _ _ (inner_right n i t) in
      (inner (box_of p n) (box_of p (left_of p n)) h.0, inner (box_of p n) (box_of p (right_of p n)) h.1)

  corner_right : (n e : ℕ) → holds_corner p n (face_of p n) e ≡ true
      → HoldsPoint (box_of p n) (vertex_float p (corner p (face_of p n) e) 0) (vertex_float p (corner p (face_of p n) e) 1) (vertex_float p (corner p (face_of p n) e) 2)
  unfolding holds_corner
  corner_right n e h = point_held (box_of p n) _ _ _ h

  right_corner : (n e : ℕ)
      → HoldsPoint (box_of p n) (vertex_float p (corner p (face_of p n) e) 0) (vertex_float p (corner p (face_of p n) e) 1) (vertex_float p (corner p (face_of p n) e) 2)
      → holds_corner p n (face_of p n) e ≡ true
  unfolding holds_corner
  right_corner n e h = held_point (box_of p n) _ _ _ h

  small : (rule14 p).number ≡ 0 → (n : ℕ) → n < p.nodes → too_small p n ≡ false
  unfolding rule14
  small z = each_met 13 p.nodes (too_small p) (λ n. n) z

  pub boxes_met : (rule14 p).number ≡ 0 → BoxesHold p
  boxes_met z = record {
    corners = λ n e l f m. corner_right n e (leaf_right n f (small z n l) e m);
    left = λ n l i. (both n i (small z n l)).0;
    right = λ n l i. (both n i (small z n l)).1;
  }

  right_leaf : (n : ℕ) → Leaf p n → ((e : ℕ) → e < 3 → holds_corner p n (face_of p n) e ≡ true) → too_small p n ≡ false
  unfolding holds_face
  right_leaf n l h = sym (small_leaf p n true (leaf_is p n few l) (sym (true_all (holds_corner p n (face_of p n)) 3 h)))

  right_inner : (n : ℕ) → Inner p n → HoldsBox (box_of p n) (box_of p (left_of p n)) → HoldsBox (box_of p n) (box_of p (right_of p n)) → too_small p n ≡ false
  unfolding holds_children
  right_inner n i h k =
      sym (small_inner p n true (inner_is p n i)
      (sym (true_and _ _ (inner_back (box_of p n) (box_of p (left_of p n)) h) (inner_back (box_of p n) (box_of p (right_of p n)) k))))

  pub met_boxes : ((n : ℕ) → n < p.nodes → Leaf p n ⊎ Inner p n) → BoxesHold p → rule14 p ≡ accepted
  unfolding rule14
  met_boxes kinds h = each_passes 14 p.nodes (too_small p) (λ n. n) (λ n l. by n l (kinds n l))
    where
      by : (n : ℕ) → n < p.nodes → Leaf p n ⊎ Inner p n → too_small p n ≡ false
      by n l (inl f) = right_leaf n f (λ e m. right_corner n e (h.corners n e l f m))
      by n l (inr i) = right_inner n i (h.left n l i) (h.right n l i)
