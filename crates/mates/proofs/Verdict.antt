-- Rules 8 and 15 of the floor with the changed corners: pinched faces by their three corners, and the two rules joined. Assumes nothing.
use Prim.Native.Nat.{ℕ, ◌+◌, ◌%◌, ◌<◌}
use native.Mathlib.Omega.{arith}
use mathlib.Core.Path.{◌≡◌, sym, ap, subst, ◌∙◌}
use mathlib.Core.Bool.{true}
use lib.Dec.{eqb}
use borrow.Author.Tests.{eq-eqb, ne_eqb}
use Rattle.std.specs.declared.option.Option.{Option}
use Rattle.verdict.specs.Lowest.{lowest, first}
use Rattle.verdict.specs.Refusals.{rule_at}
use Rattle.verdict.proofs.Results.{each_by_first}
use Rattle.verdict.proofs.Bools.{test}
use Rattle.verdict.proofs.Lowest.{lowest_none, lowest_more, any_hit, any_none, some_under}
use Rattle.tables.specs.Parts.{Parts, corner}
use Rattle.tables.specs.Fixed.{Sized}
use Rattle.mesh.specs.Faces.{wrong_corner, wrong_corners, rule8}
use Rattle.mesh.specs.Mesh.{Finite, Cornered}
use Rattle.mesh.proofs.Corners.{by_next}
use Rattle.pairs.specs.Halves.{halves, repeats, rule15}
use Rattle.pairs.specs.Plain.{Apart}
use Rattle.pairs.proofs.Group.{repeat_none}
use Rattle.corners.specs.Corners.{relinked, recornered}
use Rattle.corners.proofs.Corners.{mended_corner, lowest_vertex}

module _ (p : Parts) (s : Sized p) (f : Finite p) (c : Cornered p) (face : ℕ) (l : face < p.faces) where
  -- no mended corner is too large
  corner_in : (e : ℕ) → e < 3 → corner (recornered p) face e < (recornered p).vertices
  unfolding recornered relinked
  corner_in e m =
      let q = c.under face e l m in
      subst (λ (x : ℕ). x < p.vertices) (sym (unfold recornered relinked in mended_corner p s face e l m)) (lowest_vertex p f (corner p face e) q)

  wrong_is : (e : ℕ) → e < 3 → eqb (corner (recornered p) face e) (corner (recornered p) face ((e + 1) % 3)) ≡ wrong_corner (recornered p) face e
  wrong_is e m = by_next (recornered p) face e (corner_in e m)

  -- a corner is the next too; or the first two are not, and the third tells
  pub pinched_at : (e : ℕ) → e < 3 → corner (recornered p) face e ≡ corner (recornered p) face ((e + 1) % 3) → true ≡ wrong_corners (recornered p) face
  unfolding wrong_corners
  pinched_at e m q = sym (some_under (wrong_corner (recornered p) face) 3 e m (sym (wrong_is e m) ∙ eq-eqb _ _ q))

  pub pinched_last : (corner (recornered p) face 0 ≡ corner (recornered p) face 1 → ⊥) → (corner (recornered p) face 1 ≡ corner (recornered p) face 2 → ⊥)
      → eqb (corner (recornered p) face 2) (corner (recornered p) face 0) ≡ wrong_corners (recornered p) face
  unfolding wrong_corners
  pinched_last x y =
      let t = wrong_corner (recornered p) face in
      let a = lowest_more t 0 (lowest_none t) (sym (wrong_is 0 (omega arith)) ∙ ne_eqb _ _ x) in
      let b = lowest_more t 1 a (sym (wrong_is 1 (omega arith)) ∙ ne_eqb _ _ y) in
      wrong_is 2 (omega arith) ∙ test (t 2) (λ z. z ∙ any_hit t 2 3 b z (omega arith)) (λ z. z ∙ any_none t 3 3 (lowest_more t 2 b z) (omega arith))

-- 8 and 15 of a floor, by the first that breaks them
module _ (q : Parts) where
  pub rule8_by : (n : ℕ) (o : Option ℕ) → n ≡ q.faces → o ≡ first n (wrong_corners q) → rule_at 8 o ≡ rule8 q
  unfolding rule8
  rule8_by n o m e = ap (rule_at 8) (e ∙ ap (λ (k : ℕ). first k (wrong_corners q)) m) ∙ each_by_first 8 q.faces (wrong_corners q)

  pub rule15_by : (n : ℕ) (o : Option ℕ) → n ≡ halves q → o ≡ first n (repeats q) → rule_at 15 o ≡ rule15 q
  unfolding rule15
  rule15_by n o m e = ap (rule_at 15) (e ∙ ap (λ (k : ℕ). first k (repeats q)) m) ∙ each_by_first 15 (halves q) (repeats q)

  pub repeat_apart : (n : ℕ) → n ≡ halves q → lowest n (repeats q) ≡ n → Apart q
  repeat_apart n m e = repeat_none q n (sym e ∙ ap (λ (k : ℕ). lowest k (repeats q)) m) (omega (arith, m))
