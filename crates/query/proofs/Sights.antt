-- What the walk sees at a node: a node by itself, and an inner node over its children. Assumes nothing.
use mathlib.Core.Path.{◌≡◌, sym, ◌∙◌}
use mathlib.Core.Bool.{true, false}
use mathlib.Core.List.{List, [], ◌∷◌}
use Prim.Native.Nat.{ℕ, ◌+◌, ◌-◌, min, ◌<◌, ◌≤◌}
use native.Mathlib.Omega.{arith}
use lib.IntN.{ℤ}
use lib.ListN.{length}
use Rattle.verdict.proofs.Bools.{and_true}
use Rattle.boxes.specs.Box.{holds_xy}
use Rattle.boxes.specs.declared.Box.{Box}
use Rattle.tables.specs.Parts.{Parts, parts_of}
use Rattle.nodes.specs.Nodes.{Nodes, nodes_of, face_of, left_of, right_of}
use Rattle.tree.specs.Tree.{ends}
use Rattle.tree.specs.Boxes.{box_of}
use Rattle.tree.specs.Visits.{cut, score, least}
use Rattle.tree.proofs.Sight.{Sees, ends_stop, ends_zero, length_go, length_cut, at_inner, score_inner, score_hit, score_miss, score_top}
use Rattle.query.specs.declared.Spot.{Spot}
use Rattle.query.specs.Points.{face_holds, box_holds, Ready, Placed}

-- the shape as the walk sees it, and what a node gives
abbrev pub shape : Parts → ℤ → ℤ → Nodes
shape p x y = cut (nodes_of p) (box_holds p x y)

abbrev pub value : Parts → ℤ → ℤ → ℕ → ℕ
value p x y = score p.faces (nodes_of p) (face_of p) (face_holds p x y)

-- what the walk answers at n
abbrev pub SeesAt : Parts → ℤ → ℤ → ℕ → ℕ → ℕ → ℕ → Type 0
SeesAt p x y d n c f = Sees (nodes_of p) (box_holds p x y) p.faces (value p x y) d n c f

-- ---- whether the walk goes on

module _ (p : Parts) (n : ℕ) (s : Spot) where
  pub stays : (nodes_of p).inner n ≡ false → false ≡ (shape p s.x s.y).inner n
  unfolding cut
  stays e = rw e

  pub goes : Placed s → (nodes_of p).inner n ≡ true → (b : Box) → b ≡ box_of p n → holds_xy b s.fx s.fy ≡ (shape p s.x s.y).inner n
  unfolding cut box_holds
  goes at e b q = rw (e, q, at.fx, at.fy)

-- ---- what a node gives by itself

module _ (p : Parts) (x y : ℤ) (n : ℕ) where
  pub own_inner : (none : ℕ) → none ≡ p.faces → (nodes_of p).inner n ≡ true → none ≡ value p x y n
  own_inner none e i = e ∙ sym (score_inner p.faces (nodes_of p) (face_of p) (face_holds p x y) n i)

  pub own_hit : (f : ℕ) → f ≡ face_of p n → (nodes_of p).inner n ≡ false → face_holds p x y f ≡ true → f ≡ value p x y n
  own_hit f e i h = e ∙ sym (score_hit p.faces (nodes_of p) (face_of p) (face_holds p x y) n i (rw e at h))

  pub own_miss : (none f : ℕ) → none ≡ p.faces → f ≡ face_of p n → face_holds p x y f ≡ false → none ≡ value p x y n
  own_miss none f q e h = q ∙ sym (score_miss p.faces (nodes_of p) (face_of p) (face_holds p x y) n (rw e at h))

-- ---- the walk

module _ (b : List ℕ) (r : Ready b) (x y : ℤ) (n : ℕ) (l : n < (parts_of b).nodes) where
  -- a leaf's face is a face
  pub leaf_face : (nodes_of (parts_of b)).inner n ≡ false → face_of (parts_of b) n < (parts_of b).faces
  leaf_face e = r.floor.closed.face n l e

  value_small : value (parts_of b) x y n ≤ (parts_of b).faces
  value_small =
      score_top (parts_of b).faces (nodes_of (parts_of b)) (face_of (parts_of b)) (face_holds (parts_of b) x y) n (λ e. omega (arith, leaf_face e))

  -- where nothing below n is looked at
  alone : (d c f : ℕ) → c ≡ 1 → f ≡ value (parts_of b) x y n → ends (shape (parts_of b) x y) d n ≡ n ∷ [] → SeesAt (parts_of b) x y d n c f
  unfolding least
  alone d c f a e q = rw q (a, omega (arith, value_small))

  pub at_end : (d c f : ℕ) → c ≡ 1 → f ≡ value (parts_of b) x y n → d ≡ 0 → SeesAt (parts_of b) x y d n c f
  at_end d c f a e z = alone d c f a e (ends_zero (shape (parts_of b) x y) d n z)

  pub at_stop : (d c f : ℕ) → c ≡ 1 → f ≡ value (parts_of b) x y n → (shape (parts_of b) x y).inner n ≡ false → SeesAt (parts_of b) x y d n c f
  at_stop d c f a e z = alone d c f a e (ends_stop (shape (parts_of b) x y) d n z)

  -- where it goes on
  module _ (go : (shape (parts_of b) x y).inner n ≡ true) where
    both : ((nodes_of (parts_of b)).inner n ≡ true) × (box_holds (parts_of b) x y n ≡ true)
    unfolding cut
    both = and_true _ _ go

    pub left_under : (k : ℕ) → k ≡ left_of (parts_of b) n → k < (parts_of b).nodes
    left_under k e = rw e (r.floor.closed.left n l both.0)

    pub right_under : (k : ℕ) → k ≡ right_of (parts_of b) n → k < (parts_of b).nodes
    right_under k e = rw e (r.floor.closed.right n l both.0)

    module _ (d : ℕ) (more : d ≡ 0 → ⊥) (few : length (ends (nodes_of (parts_of b)) d n) ≤ 8191) where
      long : length (ends (nodes_of (parts_of b)) d n)
          ≡ 1 + (length (ends (nodes_of (parts_of b)) (d - 1) (left_of (parts_of b) n)) + length (ends (nodes_of (parts_of b)) (d - 1) (right_of (parts_of b) n)))
      unfolding nodes_of
      long = length_go (nodes_of (parts_of b)) d n more both.0

      pub left_few : (k : ℕ) → k ≡ left_of (parts_of b) n → length (ends (nodes_of (parts_of b)) (d - 1) k) ≤ 8191
      left_few k e = rw e (omega (arith, long))

      pub right_few : (k : ℕ) → k ≡ right_of (parts_of b) n → length (ends (nodes_of (parts_of b)) (d - 1) k) ≤ 8191
      right_few k e = rw e (omega (arith, long))

      -- over what was seen below the children
      module _ (i j c₁ f₁ c₂ f₂ : ℕ) (at_i : i ≡ left_of (parts_of b) n) (at_j : j ≡ right_of (parts_of b) n)
          (one : SeesAt (parts_of b) x y (d - 1) i c₁ f₁) (two : SeesAt (parts_of b) x y (d - 1) j c₂ f₂) where
        pub few_seen : c₁ + c₂ < 8191
        few_seen =
            let A = rw at_i at (length_cut (nodes_of (parts_of b)) (box_holds (parts_of b) x y) (d - 1) i) in
            let B = rw at_j at (length_cut (nodes_of (parts_of b)) (box_holds (parts_of b) x y) (d - 1) j) in
            let C = rw at_i at one.0 in
            let D = rw at_j at two.0 in
            omega (arith, long)

        pub at_go : (c f : ℕ) → c ≡ 1 + (c₁ + c₂) → f ≡ min f₁ f₂ → SeesAt (parts_of b) x y d n c f
        unfolding nodes_of
        at_go c f ec ef =
            at_inner (nodes_of (parts_of b)) (box_holds (parts_of b) x y) (parts_of b).faces (value (parts_of b) x y) d n more both.0 both.1
            (score_inner (parts_of b).faces (nodes_of (parts_of b)) (face_of (parts_of b)) (face_holds (parts_of b) x y) n both.0)
            i j at_i at_j c₁ f₁ c₂ f₂ c f one.0 one.1 two.0 two.1 ec ef
