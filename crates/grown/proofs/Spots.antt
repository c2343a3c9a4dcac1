-- Where a range's nodes stand in a table: each node of the tree is the first of the tree of its own range. Assumes nothing.
use Prim.Native.Nat.{ℕ, zero, suc, ◌+◌, ◌*◌, ◌-◌, ◌/◌, ◌<◌, ◌≤◌}
use native.Mathlib.Omega.{arith}
use native.Mathlib.Decide.{dec_lt}
use mathlib.Core.Path.{◌≡◌, ap, subst, ◌∙◌}
use mathlib.Core.List.{List, ◌++◌}
use lib.Dec.{leb}
use lib.ListN.{length, get_or, length-append, get_or-append}
use lib.Seq.{get_or-append-add}
use borrow.Author.Tests.{leb-true, leb-false}
use Rattle.verdict.proofs.Bools.{test, decided}
use Rattle.tables.specs.Parts.{Parts, table_of, word_of, node_word}
use Rattle.planting.specs.Boxes.{face_box, range_box}
use Rattle.planting.specs.Planting.{leaf_words, inner_words, range_words}
use Rattle.planting.proofs.Ranges.{most, words_one, words_two, half_some, rest_some, half_most, rest_most, none_most, length_leaf, length_inner, length_range}

-- from node `at` on a table has these words
pub record Here (t : List ℕ) (at : ℕ) (l : List ℕ) : Type 0 where
  pub word : (j : ℕ) → j < length l → get_or t (at * 11 + j) 0 ≡ get_or l j 0

module _ (t : List ℕ) (at : ℕ) (a b : List ℕ) (h : Here t at (a ++ b)) where
  here_first : Here t at a
  here_first = record { word = λ j l. h.word j (omega (arith, length-append a b)) ∙ get_or-append a b 0 j l }

  here_rest : (k : ℕ) → length a ≡ 11 * k → Here t (at + k) b
  here_rest k e = record {
    word = λ j l.
        ap (λ (i : ℕ). get_or t i 0) (omega (arith, e)) ∙ (h.word (length a + j) (omega (arith, length-append a b)) ∙ get_or-append-add a b j 0);
  }

-- node k of q is the root of the tree over n faces of p, from face `from` on; d halvings are enough, the faces are under F and the
-- nodes under N
pub record Spot (p q : Parts) (d k from n : ℕ) : Type 0 where
  pub here : Here (table_of q 5) k (range_words p d from n k)
  pub some : 1 ≤ n
  pub few : n ≤ most d
  pub faces : from + n ≤ q.faces
  pub nodes : k + (2 * n - 1) ≤ q.nodes

module _ (p q : Parts) where
  -- a leaf
  pub one_words : (d k from n : ℕ) → Spot p q d k from n → n ≤ 1 → (e : ℕ) → e < 11 → node_word q k e ≡ get_or (leaf_words (face_box p from) from) e 0
  unfolding word_of
  one_words d k from n s l e m =
      let h = subst (Here (table_of q 5) k) (words_one p d from n k l) s.here in
      h.word e (omega (arith, length_leaf (face_box p from) from))

  -- the words of an inner node, of its left subtree, of its right subtree
  abbrev own : ℕ → ℕ → ℕ → ℕ → List ℕ
  own d k from n = inner_words (range_box p (suc d) from n) k (n / 2)

  abbrev lower : ℕ → ℕ → ℕ → ℕ → List ℕ
  lower d k from n = range_words p d from (n / 2) (k + 1)

  abbrev upper : ℕ → ℕ → ℕ → ℕ → List ℕ
  upper d k from n = range_words p d (from + n / 2) (n - n / 2) (k + 2 * (n / 2))

  module _ (d k from n : ℕ) (s : Spot p q (suc d) k from n) (two : 2 ≤ n) where
    all : Here (table_of q 5) k (own d k from n ++ (lower d k from n ++ upper d k from n))
    all = subst (Here (table_of q 5) k) (words_two p d from n k two) s.here

    -- an inner node
    pub two_words : (e : ℕ) → e < 11 → node_word q k e ≡ get_or (inner_words (range_box p (suc d) from n) k (n / 2)) e 0
    unfolding word_of
    two_words e m = (here_first (table_of q 5) k (own d k from n) (lower d k from n ++ upper d k from n) all).word e (omega (arith, length_inner (range_box p (suc d) from n) k (n / 2)))

    below : Here (table_of q 5) (k + 1) (lower d k from n ++ upper d k from n)
    below = here_rest (table_of q 5) k (own d k from n) (lower d k from n ++ upper d k from n) all 1 (length_inner (range_box p (suc d) from n) k (n / 2))

    -- its children
    pub left_spot : Spot p q d (k + 1) from (n / 2)
    left_spot = record {
      here = here_first (table_of q 5) (k + 1) (lower d k from n) (upper d k from n) below;
      some = half_some n two;
      few = half_most d n s.few;
      faces = omega (arith, s.faces);
      nodes = omega (arith, s.nodes);
    }

    pub right_spot : Spot p q d (k + 2 * (n / 2)) (from + n / 2) (n - n / 2)
    right_spot = record {
      here =
          subst (λ (i : ℕ). Here (table_of q 5) i (range_words p d (from + n / 2) (n - n / 2) (k + 2 * (n / 2)))) (omega (arith, half_some n two))
          (here_rest (table_of q 5) (k + 1) (lower d k from n) (upper d k from n) below (2 * (n / 2) - 1) (length_range p d from (n / 2) (k + 1) (half_some n two) (half_most d n s.few)));
      some = rest_some n two;
      few = rest_most d n s.few;
      faces = omega (arith, s.faces);
      nodes = omega (arith, s.nodes);
    }

  -- every node of the tree is the root of one
  pub record Rooted (k : ℕ) : Type 0 where
    pub depth : ℕ
    pub from : ℕ
    pub count : ℕ
    pub spot : Spot p q depth k from count

  pub rooted : (d at from n : ℕ) → Spot p q d at from n → (k : ℕ) → at ≤ k → k < at + (2 * n - 1) → Rooted k
  rooted zero at from n s k l m =
      record { depth = 0; from = from; count = n; spot = subst (λ (i : ℕ). Spot p q 0 i from n) (omega (arith, none_most n s.few)) s }
  rooted (suc d) at from n s k l m =
      let left = rooted d (at + 1) from (n / 2) in
      let right = rooted d (at + 2 * (n / 2)) (from + n / 2) (n - n / 2) in
      decided (dec_lt at k)
      (λ a. test (leb n 1) (λ y. absurd (omega (arith, leb-true n 1 y)))
      (λ y.
      let two = leb-false n 1 y in
      decided (dec_lt k (at + 2 * (n / 2)))
      (λ z. left (left_spot d at from n s two) k (omega arith) (omega (arith, half_some n two)))
      (λ z. right (right_spot d at from n s two) k (omega arith) (omega arith))))
      (λ a. record { depth = suc d; from = from; count = n; spot = subst (λ (i : ℕ). Spot p q (suc d) i from n) (omega arith) s })
