-- The call in the paper's words: what it answers is the query's answer and the height of the plane where a face is found, and no other answer says
-- so; it lies between the heights of the face's corners. Assumes nothing.
use mathlib.Core.Path.{◌≡◌, refl, sym, ◌∙◌}
use mathlib.Core.Logic.{◌⊎◌, inl, inr, ◌≢◌}
use mathlib.Core.Bool.{true}
use mathlib.Core.List.{List}
use Prim.Native.Nat.{ℕ, ◌<◌}
use native.Mathlib.Omega.{arith}
use lib.IntN.{ℤ, pos}
use lib.Signed.{◌≤ℤ◌}
use borrow.Author.Tests.{ne_eqb}
use Rattle.slope.specs.Plain.{holds, Stands}
use Rattle.slope.proofs.Meaning.{stands, stands_only, height_low, height_high}
use Rattle.tables.specs.Parts.{Parts, parts_of}
use Rattle.query.specs.Rules.{query_verdict}
use Rattle.query.specs.Points.{point_answer}
use Rattle.query.proofs.Meaning.{query_says, query_refused, says_only, holds_from}
use Rattle.height.specs.declared.Height.{Height}
use Rattle.height.specs.Feet.{corner_of, height_on, with_height, standing, height_answer}
use Rattle.height.specs.Plain.{point_of, Feet}
use Rattle.height.proofs.Answers.{holds_corners, found_face}

module _ (b : List ℕ) (size : ℕ) (x y : ℤ) where
  -- face, found and visited are the query's own, and so are number and place
  pub height_point : point_of (height_answer b size x y) ≡ point_answer b size x y
  unfolding height_answer standing with_height
  height_point = refl

  -- no face, no height; so it is on refusal too
  pub height_none : (height_answer b size x y).found ≡ 0 → (height_answer b size x y).height ≡ pos 0
  unfolding height_answer standing with_height
  height_none z = rw z

  pub height_refused : (query_verdict b size x y).number ≢ 0 → (height_answer b size x y).height ≡ pos 0
  unfolding height_answer standing with_height
  height_refused z = rw (query_refused b size x y z).0

  -- where a face is found, it is the height of its plane
  module _ (some : (height_answer b size x y).found ≢ 0) where
    over : let f = (point_answer b size x y).face in holds (corner_of (parts_of b) f 0) (corner_of (parts_of b) f 1) (corner_of (parts_of b) f 2) x y ≡ true
    unfolding height_answer standing with_height
    over = holds_corners (parts_of b) x y (point_answer b size x y).face (found_face b size x y some).holds

    pub height_stands : let r = height_answer b size x y in Stands (corner_of (parts_of b) r.face 0) (corner_of (parts_of b) r.face 1) (corner_of (parts_of b) r.face 2) x y r.height
    unfolding height_answer standing with_height height_on
    height_stands = rw (ne_eqb (point_answer b size x y).found 0 some) (stands _ _ _ x y over)

    -- between any bounds of the corners' heights
    pub height_over : (lo : ℤ) → ((c : ℕ) → c < 3 → lo ≤ℤ (corner_of (parts_of b) (height_answer b size x y).face c).z) → lo ≤ℤ (height_answer b size x y).height
    unfolding height_answer standing with_height height_on
    height_over lo h = rw (ne_eqb (point_answer b size x y).found 0 some) (height_low _ _ _ x y over lo (h 0 (omega arith)) (h 1 (omega arith)) (h 2 (omega arith)))

    pub height_under : (hi : ℤ) → ((c : ℕ) → c < 3 → (corner_of (parts_of b) (height_answer b size x y).face c).z ≤ℤ hi) → (height_answer b size x y).height ≤ℤ hi
    unfolding height_answer standing with_height height_on
    height_under hi h = rw (ne_eqb (point_answer b size x y).found 0 some) (height_high _ _ _ x y over hi (h 0 (omega arith)) (h 1 (omega arith)) (h 2 (omega arith)))

  -- an answer that does not refuse
  pub height_says : (query_verdict b size x y).number ≡ 0 → Feet (parts_of b) x y (height_answer b size x y)
  height_says z = record {
    point = rw height_point (query_says b size x y z);
    stands = λ e. height_stands (λ f. one_not_zero (sym e ∙ f));
    none = height_none;
  }
    where
      one_not_zero : ◌≡◌ {A = ℕ} 1 0 → ⊥
      one_not_zero e = omega arith

-- two answers that say it are the same
pub height_only : (p : Parts) (x y : ℤ) (r q : Height) → Feet p x y r → Feet p x y q → (r.found ≡ q.found) × (r.face ≡ q.face) × (r.visited ≡ q.visited) × (r.height ≡ q.height)
height_only p x y r q h k =
    let same = says_only p x y (point_of r) (point_of q) h.point k.point in
    (same.0, same.1, same.2, heights h.point.one same.0 same.1)
  where
    heights : (r.found ≡ 0) ⊎ (r.found ≡ 1) → r.found ≡ q.found → r.face ≡ q.face → r.height ≡ q.height
    heights (inl e) found face = h.none e ∙ sym (k.none (sym found ∙ e))
    heights (inr e) found face =
        let over = holds_corners p x y r.face (holds_from p x y _ (h.point.found e).holds) in
        stands_only _ _ _ x y over r.height (h.stands e)
        ∙ sym (stands_only _ _ _ x y over q.height (rw face (k.stands (sym found ∙ e))))
