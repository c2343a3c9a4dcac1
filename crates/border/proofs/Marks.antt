-- Laws of the marks in the work memory: after n edge entries a byte is marked exactly if its half-edge stands in one of them.
-- Assumes nothing.
use mathlib.Core.Path.{◌≡◌, refl, sym, ap, subst, ◌∙◌}
use mathlib.Core.Bool.{Bool, false}
use mathlib.Core.List.{List}
use Prim.Native.Nat.{ℕ, zero, suc, ◌+◌, ◌<◌, ◌≤◌}
use native.Mathlib.Omega.{arith}
use native.Mathlib.Numerals.{add-one}
use lib.Dec.{eqb}
use lib.ListN.{length, get_or, set, drop, length-set}
use lib.Seq.{drop-set-lt, get_or-set_same, get_or-set_other}
use borrow.Author.Tests.{eqb-true, eqb-false}
use Rattle.verdict.specs.Lowest.{lowest}
use Rattle.verdict.specs.Memory.{cleared_to, is_marked}
use Rattle.verdict.proofs.Bools.{clash, test}
use Rattle.verdict.proofs.Lowest.{lowest_is, some_under, under_none, any_more}
use Rattle.verdict.proofs.Marks.{is_marked_lem, not_marked}
use Rattle.verdict.proofs.Memory.{length_cleared, get_d_cleared}
use Rattle.tables.specs.Parts.{Parts, edge_of}
use Rattle.pairs.specs.Halves.{halves, border}
use Rattle.pairs.proofs.Halves.{border_in}
use Rattle.border.specs.Loops.{stands_in, wrong_edge, missing}
use Rattle.border.specs.Memory.{marks_of, wrong_by, unmarked}

mark_same : (u v : List ℕ) (k : ℕ) → get_or u k 0 ≡ get_or v k 0 → is_marked u k ≡ is_marked v k
unfolding is_marked
mark_same u v k e = rw e

module _ (p : Parts) where
  pub marks_none : (w : List ℕ) → w ≡ marks_of p 0 w
  unfolding marks_of
  marks_none w = refl

  pub marks_more : (n : ℕ) (w : List ℕ) → set (marks_of p n w) (edge_of p n) 1 ≡ marks_of p (n + 1) w
  unfolding marks_of
  marks_more n w = rw add-one

  pub length_marks : (n : ℕ) (w : List ℕ) → length (marks_of p n w) ≡ length w
  unfolding marks_of
  length_marks zero w = refl
  length_marks (suc n) w = simp length-set (length_marks n w)

  pub drop_marks : (k n : ℕ) (w : List ℕ) → ((j : ℕ) → j < n → edge_of p j < k) → drop k (marks_of p n w) ≡ drop k w
  unfolding marks_of
  drop_marks k zero w f = refl
  drop_marks k (suc n) w f =
      drop-set-lt k (marks_of p n w) (edge_of p n) 1 (f n (omega arith)) ∙ drop_marks k n w (λ j l. f j (omega arith))

  -- the entries before the first wrong one are half-edges
  pub edge_in : (i : ℕ) → wrong_edge p i ≡ false → edge_of p i < halves p
  unfolding wrong_edge
  edge_in i e = test (border p (edge_of p i)) (λ y. border_in p (edge_of p i) y) (λ y. clash (rw y refl) e)

  pub edges_before : (n i : ℕ) → i < lowest n (wrong_edge p) → edge_of p i < halves p
  edges_before n i l = edge_in i ((lowest_is (wrong_edge p) n).before i l)

  module _ (w x : List ℕ) (long : halves p ≤ length w) (z : x ≡ cleared_to (halves p) w) where
    long_still : halves p ≤ length x
    long_still = omega (arith, ap (λ (v : List ℕ). length v) z, length_cleared (halves p) w long)

    zero_byte : (h : ℕ) → h < halves p → get_or x h 0 ≡ 0
    zero_byte h l = ap (λ (v : List ℕ). get_or v h 0) z ∙ get_d_cleared (halves p) w h l

    -- a byte is marked exactly if its number stands in the first n entries
    pub marks_at : (n h : ℕ) → h < halves p → is_marked (marks_of p n x) h ≡ stands_in p n h
    unfolding marks_of stands_in
    marks_at zero h b = not_marked x h (zero_byte h b) ∙ sym (under_none (λ i. eqb (edge_of p i) h) 0 (λ j l. absurd (omega arith)))
    marks_at (suc n) h b =
        let t : ℕ → Bool = λ i. eqb (edge_of p i) h in
        let v : List ℕ = marks_of p n x in
        test (eqb (edge_of p n) h)
        (λ y.
        let q = eqb-true (edge_of p n) h y in
        let one : get_or (set v (edge_of p n) 1) h 0 ≡ 1 =
        subst (λ (k : ℕ). get_or (set v (edge_of p n) 1) k 0 ≡ 1) q (get_or-set_same v (edge_of p n) 1 0 (omega (arith, long_still, length_marks n x))) in
        is_marked_lem (set v (edge_of p n) 1) h (λ (k : get_or (set v (edge_of p n) 1) h 0 ≡ 0). omega arith)
        ∙ sym (some_under t (suc n) n (omega arith) y))
        (λ y.
        let other = get_or-set_other v (edge_of p n) h 1 0 (λ (k : h ≡ edge_of p n). eqb-false (edge_of p n) h y (sym k)) in
        mark_same (set v (edge_of p n) 1) v h other ∙ marks_at n h b ∙ sym (any_more t n y))

    -- the marks tell of an entry what rule 17 asks
    wrong_by_marks : (i : ℕ) → wrong_by p (marks_of p i x) i ≡ wrong_edge p i
    unfolding wrong_by wrong_edge
    wrong_by_marks i =
        test (border p (edge_of p i)) (λ y. rw (y, marks_at i (edge_of p i) (border_in p (edge_of p i) y))) (λ y. rw y)

    -- a turn of the loop that marks: what it is told of entry i
    pub told_by : (i : ℕ) (v : List ℕ) (b : Bool) → v ≡ marks_of p i x → b ≡ wrong_by p v i → wrong_edge p i ≡ b
    told_by i v b e f = sym (f ∙ ap (λ (u : List ℕ). wrong_by p u i) e ∙ wrong_by_marks i)

    -- and of a border
    pub unmarked_missing : (h : ℕ) → h < halves p → unmarked p (marks_of p p.edges x) h ≡ missing p h
    unfolding unmarked missing
    unmarked_missing h b = rw (marks_at p.edges h b)
