-- The planted floor has the tree that was asked for. Asked of the floor: at most 4,096 faces (4), finite vertices (7), words of 32 bits,
-- corners that name vertices (8). Assumes nothing.
use Prim.Native.Nat.{ℕ, zero, suc, ◌+◌, ◌<◌, ◌≤◌}
use native.Mathlib.Omega.{arith}
use mathlib.Core.Path.{◌≡◌, refl, sym, ap, ◌∙◌}
use lib.Dec.{leb}
use lib.ListN.{get_or}
use lib.Ieee.{Float, binary32, to_bits}
use borrow.Author.Tests.{leb-true, leb-false}
use Rattle.verdict.proofs.Bools.{test}
use Rattle.tables.specs.Parts.{Parts, corner, vertex_word, node_word}
use Rattle.boxes.specs.declared.Box.{Box}
use Rattle.mesh.specs.Mesh.{IsFinite}
use Rattle.mesh.proofs.Plain.{finite_test}
use Rattle.nodes.specs.Nodes.{plane_of}
use Rattle.nodes.specs.Plain.{Inner}
use Rattle.nodes.proofs.Rule12.{not_both}
use Rattle.tree.specs.Boxes.{box_of}
use Rattle.planting.specs.Boxes.{range_box, plane_for}
use Rattle.planting.specs.Planting.{node_words, inner_words, planted}
use Rattle.planting.proofs.Tight.{Coordinate, Tight}
use Rattle.grown.specs.Plain.{Longest, GoodTree}
use Rattle.planting.proofs.Ranges.{none_most}
use Rattle.grown.proofs.Spots.{Spot, two_words}
use Rattle.grown.proofs.Numbered.{leaf_at}
use Rattle.planting.proofs.Order.{plain_bits}
use Rattle.planting.proofs.Tight.{range_tight, range_good}
use Rattle.grown.proofs.Grown.{faces_are, few_planted, each_node, nodes_planted, tree_planted, halved_planted, twelve_planted}
use Rattle.grown.proofs.Held.{words_of, box_is, finite_planted, boxes_planted}
use Rattle.grown.proofs.Tightest.{tightest_planted}
use Rattle.grown.proofs.Longest.{plane_longest}

-- ---- the words of a tight box

module _ (p : Parts)
    (vertices : (v e : ℕ) → v < p.vertices → e < 3 → IsFinite (vertex_word p v e))
    (corners : (f e : ℕ) → f < p.faces → e < 3 → corner p f e < p.vertices)
    (words : (v e : ℕ) → vertex_word p v e < 4294967296)
    (from n : ℕ) (inside : from + n ≤ p.faces) (b : Box) (t : Tight p from n b) (f pl l r : ℕ) where
  end_bits : (c : ℕ) (x : Float) → c < 3 → Coordinate p from n c x → to_bits binary32 x ≡ 0x8000_0000 → ⊥
  end_bits c x m h e =
      let v = corner p h.face h.end in
      plain_bits (vertex_word p v c) (finite_test _ (vertices v c (corners h.face h.end (omega (arith, h.under)) h.three) m)) (words v c) (ap (to_bits binary32) (sym h.here) ∙ e)

  box_zeros : (e : ℕ) → e < 6 → get_or (node_words b f pl l r) e 0 ≡ 0x8000_0000 → ⊥
  unfolding node_words
  box_zeros zero m q = end_bits 0 _ (omega arith) t.least_x q
  box_zeros (suc zero) m q = end_bits 1 _ (omega arith) t.least_y q
  box_zeros (suc (suc zero)) m q = end_bits 2 _ (omega arith) t.least_z q
  box_zeros (suc (suc (suc zero))) m q = end_bits 0 _ (omega arith) t.greatest_x q
  box_zeros (suc (suc (suc (suc zero)))) m q = end_bits 1 _ (omega arith) t.greatest_y q
  box_zeros (suc (suc (suc (suc (suc zero))))) m q = end_bits 2 _ (omega arith) t.greatest_z q
  box_zeros (suc (suc (suc (suc (suc (suc e)))))) m q = absurd (omega arith)

four_there : (b : Box) (f pl l r : ℕ) → get_or (node_words b f pl l r) 7 0 ≡ 4
unfolding node_words
four_there b f pl l r = refl

module _ (p : Parts) (few : p.faces ≤ 4096)
    (vertices : (v e : ℕ) → v < p.vertices → e < 3 → IsFinite (vertex_word p v e))
    (corners : (f e : ℕ) → f < p.faces → e < 3 → corner p f e < p.vertices)
    (words : (v e : ℕ) → vertex_word p v e < 4294967296) where
  zeros_planted : (k e : ℕ) → k < (planted p).nodes → e < 6 → node_word (planted p) k e ≡ 0x8000_0000 → ⊥
  zeros_planted k e l m q =
      let r = each_node p few k l in
      let s = r.spot in
      let w = words_of p few vertices corners r.depth k r.from r.count s in
      box_zeros p vertices corners words r.from r.count (omega (arith, s.faces, faces_are p few)) _ (range_tight p r.depth r.from r.count s.some s.few) w.face w.plane w.left w.right e m (sym (w.words e (omega arith)) ∙ q)

  unknown_planted : (k : ℕ) → k < (planted p).nodes → node_word (planted p) k 7 ≡ 4
  unknown_planted k l =
      let r = each_node p few k l in
      let w = words_of p few vertices corners r.depth k r.from r.count r.spot in
      w.words 7 (omega arith) ∙ four_there _ w.face w.plane w.left w.right

  plane_at : (d k from n : ℕ) → Spot p (planted p) d k from n → Inner (planted p) k → Longest (box_of (planted p) k) (plane_of (planted p) k)
  unfolding inner_words node_words
  plane_at zero k from n s i = absurd (not_both (planted p) k (few_planted p few) (leaf_at p (planted p) (few_planted p few) 0 k from n s (none_most n s.few)) i)
  plane_at (suc d) k from n s i =
      test (leb n 1)
      (λ y. absurd (not_both (planted p) k (few_planted p few) (leaf_at p (planted p) (few_planted p few) (suc d) k from n s (leb-true n 1 y)) i))
      (λ y.
      let box = box_is p few vertices corners (suc d) k from n s in
      let word : plane_of (planted p) k ≡ plane_for (range_box p (suc d) from n) = two_words p (planted p) d k from n s (leb-false n 1 y) 8 (omega arith) in
      rw (box, word) (plane_longest (range_box p (suc d) from n) (range_good p vertices corners (suc d) from n s.some s.few (omega (arith, s.faces, faces_are p few)))))

  pub good_tree : GoodTree (planted p)
  good_tree = record {
    nodes = nodes_planted p few;
    root = unfold planted in refl;
    tree = tree_planted p few;
    halved = halved_planted p few;
    twelve = twelve_planted p few;
    boxes = boxes_planted p few vertices corners;
    finite = finite_planted p few vertices corners;
    tightest = tightest_planted p few vertices corners;
    zeros = zeros_planted;
    unknown = unknown_planted;
    planes = λ k l i. let r = each_node p few k l in plane_at r.depth k r.from r.count r.spot i;
  }
