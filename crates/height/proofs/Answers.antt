-- The call's answer as the code makes it: a face that the query found holds the point, and so has a height there. Assumes nothing.
use mathlib.Core.Path.{◌≡◌, sym, ap, subst, ◌∙◌}
use mathlib.Core.Logic.{◌⊎◌, inl, inr}
use mathlib.Core.Bool.{Bool, true, cond}
use mathlib.Core.List.{List}
use Prim.Native.Nat.{ℕ, ◌<◌}
use native.Mathlib.Decide.{ℕ_discrete}
use lib.Dec.{eqb}
use lib.IntN.{ℤ, pos}
use borrow.Author.Tests.{ne_eqb}
use Rattle.verdict.proofs.Bools.{decided}
use Rattle.verdict.proofs.Verdict.{passed}
use Rattle.wire.specs.Signed.{Within}
use Rattle.slope.specs.declared.Corner.{Corner}
use Rattle.slope.specs.Height.{height_at}
use Rattle.slope.specs.Plain.{holds}
use Rattle.tables.specs.Parts.{Parts, parts_of}
use Rattle.floor.proofs.Meaning.{accepted_of}
use Rattle.query.specs.declared.Point.{Point}
use Rattle.query.specs.Rules.{query_verdict}
use Rattle.query.specs.Points.{corner_at, face_holds, point_answer, Ready}
use Rattle.query.proofs.Replies.{by_groups, near_x, near_y, ready}
use Rattle.query.proofs.Meaning.{query_says, query_refused, holds_from}
use Rattle.height.specs.Feet.{corner_of, height_on, with_height, standing, height_answer}

-- what is known of a face that was found
pub record Found (b : List ℕ) (x y : ℤ) (f : ℕ) : Type 0 where
  pub floor : Ready b
  pub under : f < (parts_of b).faces
  pub near_x : Within 65536 x
  pub near_y : Within 65536 y
  pub holds : face_holds (parts_of b) x y f ≡ true

module _ (b : List ℕ) (size : ℕ) (x y : ℤ) where
  pub found_face : ((point_answer b size x y).found ≡ 0 → ⊥) → Found b x y (point_answer b size x y).face
  found_face some =
      decided (ℕ_discrete (query_verdict b size x y).number 0)
      (λ z.
      let h = passed _ _ (rw (by_groups b size x y) at z) in
      let says = query_says b size x y z in
      let low = says.found (one says.one) in
      record {
        floor = ready b (accepted_of b size h.0) x y h.1;
        under = low.under;
        near_x = near_x (parts_of b) x y h.1;
        near_y = near_y (parts_of b) x y h.1;
        holds = holds_from (parts_of b) x y _ low.holds;
      })
      (λ n. absurd (some (query_refused b size x y n).0))
    where
      one : ((point_answer b size x y).found ≡ 0) ⊎ ((point_answer b size x y).found ≡ 1) → (point_answer b size x y).found ≡ 1
      one (inl e) = absurd (some e)
      one (inr e) = e

-- a corner as the code makes it, and the triangle and the height of three such
pub corner_made : (p : Parts) (f c : ℕ) {x y z : ℤ} → x ≡ corner_at p f c 0 → y ≡ corner_at p f c 1 → z ≡ corner_at p f c 2 → ◌≡◌ {A = Corner} (record { x = x; y = y; z = z }) (corner_of p f c)
unfolding corner_of
corner_made p f c ex ey ez = rw (ex, ey, ez)

pub holds_corners : (p : Parts) (x y : ℤ) (f : ℕ) → face_holds p x y f ≡ true → holds (corner_of p f 0) (corner_of p f 1) (corner_of p f 2) x y ≡ true
unfolding face_holds corner_of
holds_corners p x y f h = h

module _ (p : Parts) (f : ℕ) (x y : ℤ) {a b c : Corner} {i j : ℤ} (ea : a ≡ corner_of p f 0) (eb : b ≡ corner_of p f 1) (ec : c ≡ corner_of p f 2) (ei : i ≡ x) (ej : j ≡ y) where
  pub holds_made : face_holds p x y f ≡ true → holds a b c i j ≡ true
  holds_made h = rw (ea, eb, ec, ei, ej) (holds_corners p x y f h)

  pub height_made : {r : ℤ} → r ≡ height_at a b c i j → r ≡ height_on p f x y
  unfolding height_on
  height_made e = rw (ea, eb, ec, ei, ej) at e

-- the answer, where there is no face and where there is one
module _ (b : List ℕ) (size : ℕ) (x y : ℤ) (q : Point) (e : q ≡ point_answer b size x y) where
  answered : standing (parts_of b) x y q ≡ height_answer b size x y
  unfolding height_answer
  answered = ap (standing (parts_of b) x y) e

  pub no_height : q.found ≡ 0 → with_height q (pos 0) ≡ height_answer b size x y
  unfolding standing
  no_height z = ap (λ (n : ℕ). with_height q (cond (eqb n 0) (pos 0) (height_on (parts_of b) q.face x y))) (sym z) ∙ answered

  pub the_height : (q.found ≡ 0 → ⊥) → {h : ℤ} → h ≡ height_on (parts_of b) q.face x y → with_height q h ≡ height_answer b size x y
  unfolding standing
  the_height z eh =
      ap (with_height q) (eh ∙ ap (λ (t : Bool). cond t (pos 0) (height_on (parts_of b) q.face x y)) (sym (ne_eqb q.found 0 z))) ∙ answered

  pub face_found : (q.found ≡ 0 → ⊥) → Found b x y q.face
  face_found z = subst (λ (r : Point). Found b x y r.face) (sym e) (found_face b size x y (λ k. z (ap (λ (r : Point). r.found) e ∙ k)))
