-- The boxes: each end is a corner's coordinate, so every box is tight, finite and has words; a box holds those that it was made of.
-- Assumes nothing.
use Prim.Native.Nat.{ℕ, zero, suc, ◌+◌, ◌-◌, ◌/◌, ◌<◌, ◌≤◌}
use native.Mathlib.Omega.{arith}
use mathlib.Core.Path.{◌≡◌, refl, sym, subst}
use mathlib.Core.Bool.{true}
use lib.Dec.{leb}
use lib.Ieee.{Float, binary32}
use lib.Ieee.Bits.{of_bits-fits}
use borrow.Author.Tests.{leb-true, leb-false}
use Rattle.verdict.proofs.Bools.{test}
use Rattle.tables.specs.Parts.{Parts, corner, vertex_word}
use Rattle.grid.specs.Grid.{finite}
use Rattle.grid.proofs.Order.{le_trans}
use Rattle.boxes.specs.declared.Box.{Box}
use Rattle.boxes.specs.Plain.{HoldsBox, HoldsPoint}
use Rattle.mesh.specs.Mesh.{IsFinite}
use Rattle.mesh.proofs.Plain.{finite_test}
use Rattle.tree.specs.Boxes.{vertex_float}
use Rattle.planting.specs.Boxes.{coordinate_of, point_box, around, vertex_box, face_box, range_box}
use Rattle.planting.specs.Sides.{Sides, Good, HoldsCorner}
use Rattle.planting.proofs.Ranges.{each_three, most, box_one, box_two, half_most, rest_most, none_most}
use Rattle.planting.proofs.Order.{lesser_one, greater_one, lesser_first, lesser_second, greater_first, greater_second, plain_finite, plain_under, plain_over}

-- ---- both ends on each axis

pub sides_around : (P : ℕ → Float → Type 0) (a b : Box) → Sides P a → Sides P b → Sides P (around a b)
unfolding around
sides_around P a b s u = record {
  least_x = lesser_one _ _ (P 0) s.least_x u.least_x;
  least_y = lesser_one _ _ (P 1) s.least_y u.least_y;
  least_z = lesser_one _ _ (P 2) s.least_z u.least_z;
  greatest_x = greater_one _ _ (P 0) s.greatest_x u.greatest_x;
  greatest_y = greater_one _ _ (P 1) s.greatest_y u.greatest_y;
  greatest_z = greater_one _ _ (P 2) s.greatest_z u.greatest_z;
}

pub sides_map : (P Q : ℕ → Float → Type 0) (b : Box) → ((c : ℕ) (x : Float) → c < 3 → P c x → Q c x) → Sides P b → Sides Q b
sides_map P Q b f s = record {
  least_x = f 0 _ (omega arith) s.least_x;
  least_y = f 1 _ (omega arith) s.least_y;
  least_z = f 2 _ (omega arith) s.least_z;
  greatest_x = f 0 _ (omega arith) s.greatest_x;
  greatest_y = f 1 _ (omega arith) s.greatest_y;
  greatest_z = f 2 _ (omega arith) s.greatest_z;
}

sides_vertex : (P : ℕ → Float → Type 0) (p : Parts) (v : ℕ) → ((c : ℕ) → c < 3 → P c (coordinate_of p v c)) → Sides P (vertex_box p v)
unfolding vertex_box point_box
sides_vertex P p v h = record {
  least_x = h 0 (omega arith);
  least_y = h 1 (omega arith);
  least_z = h 2 (omega arith);
  greatest_x = h 0 (omega arith);
  greatest_y = h 1 (omega arith);
  greatest_z = h 2 (omega arith);
}

-- ---- tight

-- x is coordinate c of a corner of one of n faces from face `from` on, negative zero written as zero
pub record Coordinate (p : Parts) (from n c : ℕ) (x : Float) : Type 0 where
  pub face : ℕ
  pub from_on : from ≤ face
  pub under : face < from + n
  pub end : ℕ
  pub three : end < 3
  pub here : x ≡ coordinate_of p (corner p face end) c

-- a tight box: each end is a coordinate of a corner of its faces
abbrev pub Tight : Parts → ℕ → ℕ → Box → Type 0
Tight p from n b = Sides (Coordinate p from n) b

module _ (p : Parts) where
  more : (from n from' n' c : ℕ) (x : Float) → from' ≤ from → from + n ≤ from' + n' → Coordinate p from n c x → Coordinate p from' n' c x
  more from n from' n' c x l m h = record {
    face = h.face;
    from_on = omega (arith, h.from_on);
    under = omega (arith, h.under);
    end = h.end;
    three = h.three;
    here = h.here;
  }

  corner_tight : (f e : ℕ) → e < 3 → Tight p f 1 (vertex_box p (corner p f e))
  corner_tight f e l =
      sides_vertex (Coordinate p f 1) p (corner p f e)
      (λ c m. record { face = f; from_on = omega arith; under = omega arith; end = e; three = l; here = refl })

  face_tight : (f : ℕ) → Tight p f 1 (face_box p f)
  unfolding face_box
  face_tight f =
      sides_around (Coordinate p f 1) _ _
      (sides_around (Coordinate p f 1) _ _ (corner_tight f 0 (omega arith)) (corner_tight f 1 (omega arith)))
      (corner_tight f 2 (omega arith))

  one_tight : (d from n : ℕ) → 1 ≤ n → n ≤ 1 → Tight p from n (range_box p d from n)
  one_tight d from n l m =
      subst (Tight p from n) (sym (box_one p d from n m))
      (sides_map (Coordinate p from 1) (Coordinate p from n) (face_box p from) (λ c x k h. more from 1 from n c x (omega arith) (omega arith) h) (face_tight from))

  -- the box of a range: each end is a coordinate of one of its faces' corners
  pub range_tight : (d from n : ℕ) → 1 ≤ n → n ≤ most d → Tight p from n (range_box p d from n)
  range_tight zero from n l m = one_tight 0 from n l (none_most n m)
  range_tight (suc d) from n l m =
      let left = range_tight d from (n / 2) in
      let right = range_tight d (from + n / 2) (n - n / 2) in
      test (leb n 1)
      (λ y. one_tight (suc d) from n l (leb-true n 1 y))
      (λ y.
      let two = leb-false n 1 y in
      subst (Tight p from n) (sym (box_two p d from n two))
      (sides_around (Coordinate p from n) _ _
      (sides_map (Coordinate p from (n / 2)) (Coordinate p from n) _ (λ c x k h. more from (n / 2) from n c x (omega arith) (omega arith) h) (left (omega arith) (half_most d n m)))
      (sides_map (Coordinate p (from + n / 2) (n - n / 2)) (Coordinate p from n) _ (λ c x k h. more (from + n / 2) (n - n / 2) from n c x (omega arith) (omega arith) h) (right (omega arith) (rest_most d n m)))))

-- ---- finite, and floats of 32 bits

module _ (p : Parts) (vertices : (v e : ℕ) → v < p.vertices → e < 3 → IsFinite (vertex_word p v e))
    (corners : (f e : ℕ) → f < p.faces → e < 3 → corner p f e < p.vertices) where
  coordinate_finite : (f e c : ℕ) → f < p.faces → e < 3 → c < 3 → finite (vertex_float p (corner p f e) c) ≡ true
  coordinate_finite f e c l m k = finite_test _ (vertices (corner p f e) c (corners f e l m) k)

  tight_good : (from n : ℕ) (b : Box) → from + n ≤ p.faces → Tight p from n b → Sides Good b
  tight_good from n b l =
      sides_map (Coordinate p from n) Good b
      (λ c x k h.
      let fine = coordinate_finite h.face h.end c (omega (arith, h.under)) h.three k in
      subst (Good c) (sym h.here) (record { finite = plain_finite _ fine; fits = of_bits-fits binary32 _ }))

  pub range_good : (d from n : ℕ) → 1 ≤ n → n ≤ most d → from + n ≤ p.faces → Sides Good (range_box p d from n)
  range_good d from n l m k = tight_good from n _ k (range_tight p d from n l m)

  pub face_good : (f : ℕ) → f < p.faces → Sides Good (face_box p f)
  face_good f l = tight_good f 1 _ (omega arith) (face_tight p f)

-- ---- what the box around two holds

module _ (a b : Box) (s : Sides Good a) (u : Sides Good b) where
  around_first : HoldsBox (around a b) a
  unfolding around
  around_first = record {
    least_x = lesser_first _ _ s.least_x.finite u.least_x.finite;
    least_y = lesser_first _ _ s.least_y.finite u.least_y.finite;
    least_z = lesser_first _ _ s.least_z.finite u.least_z.finite;
    greatest_x = greater_first _ _ s.greatest_x.finite u.greatest_x.finite;
    greatest_y = greater_first _ _ s.greatest_y.finite u.greatest_y.finite;
    greatest_z = greater_first _ _ s.greatest_z.finite u.greatest_z.finite;
  }

  around_second : HoldsBox (around a b) b
  unfolding around
  around_second = record {
    least_x = lesser_second _ _ s.least_x.finite u.least_x.finite;
    least_y = lesser_second _ _ s.least_y.finite u.least_y.finite;
    least_z = lesser_second _ _ s.least_z.finite u.least_z.finite;
    greatest_x = greater_second _ _ s.greatest_x.finite u.greatest_x.finite;
    greatest_y = greater_second _ _ s.greatest_y.finite u.greatest_y.finite;
    greatest_z = greater_second _ _ s.greatest_z.finite u.greatest_z.finite;
  }

-- a box that holds another holds its points
pub wider : (a b : Box) (x y z : Float) → HoldsBox a b → HoldsPoint b x y z → HoldsPoint a x y z
wider a b x y z h k = record {
  least_x = le_trans _ _ _ h.least_x k.least_x;
  least_y = le_trans _ _ _ h.least_y k.least_y;
  least_z = le_trans _ _ _ h.least_z k.least_z;
  greatest_x = le_trans _ _ _ k.greatest_x h.greatest_x;
  greatest_y = le_trans _ _ _ k.greatest_y h.greatest_y;
  greatest_z = le_trans _ _ _ k.greatest_z h.greatest_z;
}

module _ (p : Parts) (vertices : (v e : ℕ) → v < p.vertices → e < 3 → IsFinite (vertex_word p v e))
    (corners : (f e : ℕ) → f < p.faces → e < 3 → corner p f e < p.vertices) where
  fine : (f e c : ℕ) → f < p.faces → e < 3 → c < 3 → finite (vertex_float p (corner p f e) c) ≡ true
  fine f e c l m k = coordinate_finite p vertices corners f e c l m k

  own_corner : (f e : ℕ) → f < p.faces → e < 3 → HoldsCorner p (vertex_box p (corner p f e)) f e
  unfolding vertex_box point_box
  own_corner f e l m = record {
    least_x = plain_under _ (fine f e 0 l m (omega arith));
    least_y = plain_under _ (fine f e 1 l m (omega arith));
    least_z = plain_under _ (fine f e 2 l m (omega arith));
    greatest_x = plain_over _ (fine f e 0 l m (omega arith));
    greatest_y = plain_over _ (fine f e 1 l m (omega arith));
    greatest_z = plain_over _ (fine f e 2 l m (omega arith));
  }

  corner_good : (f e : ℕ) → f < p.faces → e < 3 → Sides Good (vertex_box p (corner p f e))
  corner_good f e l m = tight_good p vertices corners f 1 _ (omega arith) (corner_tight p f e m)

  -- a face's box holds its corners
  pub face_holds : (f e : ℕ) → f < p.faces → e < 3 → HoldsCorner p (face_box p f) f e
  unfolding face_box
  face_holds f e l m =
      let a = vertex_box p (corner p f 0) in
      let b = vertex_box p (corner p f 1) in
      let c = vertex_box p (corner p f 2) in
      let ga = corner_good f 0 l (omega arith) in
      let gb = corner_good f 1 l (omega arith) in
      let gc = corner_good f 2 l (omega arith) in
      let gab = sides_around Good a b ga gb in
      let first : HoldsCorner p (around (around a b) c) f 0 = wider _ _ _ _ _ (around_first (around a b) c gab gc) (wider _ _ _ _ _ (around_first a b ga gb) (own_corner f 0 l (omega arith))) in
      let second : HoldsCorner p (around (around a b) c) f 1 = wider _ _ _ _ _ (around_first (around a b) c gab gc) (wider _ _ _ _ _ (around_second a b ga gb) (own_corner f 1 l (omega arith))) in
      let third : HoldsCorner p (around (around a b) c) f 2 = wider _ _ _ _ _ (around_second (around a b) c gab gc) (own_corner f 2 l (omega arith)) in
      each_three (λ (i : ℕ). HoldsCorner p (around (around a b) c) f i) first second third e m

  -- a range's box holds its halves' boxes
  module _ (d from n : ℕ) (two : 2 ≤ n) (m : n ≤ most (suc d)) (l : from + n ≤ p.faces) where
    lower_good : Sides Good (range_box p d from (n / 2))
    lower_good = range_good p vertices corners d from (n / 2) (omega arith) (half_most d n m) (omega arith)

    upper_good : Sides Good (range_box p d (from + n / 2) (n - n / 2))
    upper_good = range_good p vertices corners d (from + n / 2) (n - n / 2) (omega arith) (rest_most d n m) (omega arith)

    pub range_lower : HoldsBox (range_box p (suc d) from n) (range_box p d from (n / 2))
    range_lower = subst (λ (b : Box). HoldsBox b (range_box p d from (n / 2))) (sym (box_two p d from n two)) (around_first _ _ lower_good upper_good)

    pub range_upper : HoldsBox (range_box p (suc d) from n) (range_box p d (from + n / 2) (n - n / 2))
    range_upper = subst (λ (b : Box). HoldsBox b (range_box p d (from + n / 2) (n - n / 2))) (sym (box_two p d from n two)) (around_second _ _ lower_good upper_good)
