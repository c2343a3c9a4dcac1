-- On an accepted floor whose vertices are on the grid the boxes nest around a point: a box holds what its child's box holds, and a leaf's
-- box holds each point that its face holds. Assumes nothing.
use mathlib.Core.Path.{◌≡◌, refl, sym, ◌∙◌}
use mathlib.Core.Logic.{⊎_elim}
use mathlib.Core.Bool.{true, false}
use mathlib.Core.List.{List}
use Prim.Native.Nat.{ℕ, zero, suc, ◌*◌, ◌<◌, ◌≤◌}
use native.Mathlib.Omega.{arith}
use lib.IntN.{ℤ, pos, nat_abs, ◌*ℤ◌}
use lib.Signed.{le_z}
use lib.Ieee.{Float, nan, inf, fin, up, down, le, binary32, of_bits}
use borrow.Author.Tests.{not-false}
use Rattle.verdict.proofs.Bools.{clash, and_true, true_and}
use Rattle.whole.proofs.Mean.{Mean, low_times, high_times}
use Rattle.grid.specs.Grid.{finite, signed, on_grid, scaled, grid_float}
use Rattle.grid.specs.Plain.{OnGrid}
use Rattle.boxes.specs.Plain.{HoldsPoint}
use Rattle.boxes.specs.Box.{between, holds_xy, box_of_bits}
use Rattle.grid.proofs.Grid.{on_grid_lem, scaled_small}
use Rattle.grid.proofs.Order.{le_grid, grid_le, le_scaled, scaled_le}
use Rattle.boxes.proofs.Boxes.{inner_back, holds_inner}
use Rattle.triangle.proofs.Corners.{x_mean, y_mean}
use Rattle.tables.specs.Parts.{Parts, parts_of, corner, node_word}
use Rattle.mesh.proofs.Plain.{finite_test}
use Rattle.nodes.specs.Nodes.{nodes_of, face_of}
use Rattle.nodes.specs.Plain.{Leaf, Inner}
use Rattle.nodes.proofs.Rule12.{leaf_is, inner_is}
use Rattle.tree.specs.Boxes.{box_of, vertex_float}
use Rattle.tree.specs.Visits.{Nested}
use Rattle.query.specs.Rules.{off_grid}
use Rattle.query.specs.Points.{corner_at, face_holds, box_holds, Ready}

-- ---- a bound of three floats on the grid, and a mean of their scaled numbers

module _ {u v w : Float} {z : ℤ} (g : OnGrid u) (h : OnGrid v) (i : OnGrid w) (small : nat_abs z ≤ 65536) (mean : Mean (scaled u) (scaled v) (scaled w) z) where
  pub mean_over : (lo : Float) → finite lo ≡ true → le lo u ≡ true → le lo v ≡ true → le lo w ≡ true → le lo (grid_float z) ≡ true
  unfolding finite
  mean_over nan f a b c = clash f refl
  mean_over (inf s) f a b c = clash f refl
  mean_over (fin s m e) f a b c =
      le_grid s m e z small ∙ low_times mean (pos (down e)) (signed s (m * up e * 64)) (at g a) (at h b) (at i c)
    where
      at : {x : Float} (k : OnGrid x) → le (fin s m e) x ≡ true → le_z (signed s (m * up e * 64)) (scaled x *ℤ pos (down e)) ≡ true
      at {x} k y = sym (le_grid s m e (scaled x) (scaled_small k)) ∙ (sym (le_scaled k (fin s m e)) ∙ y)

  pub mean_under : (hi : Float) → finite hi ≡ true → le u hi ≡ true → le v hi ≡ true → le w hi ≡ true → le (grid_float z) hi ≡ true
  unfolding finite
  mean_under nan f a b c = clash f refl
  mean_under (inf s) f a b c = clash f refl
  mean_under (fin s m e) f a b c =
      grid_le s m e z small ∙ high_times mean (pos (down e)) (signed s (m * up e * 64)) (at g a) (at h b) (at i c)
    where
      at : {x : Float} (k : OnGrid x) → le x (fin s m e) ≡ true → le_z (scaled x *ℤ pos (down e)) (signed s (m * up e * 64)) ≡ true
      at {x} k y = sym (grid_le s m e (scaled x) (scaled_small k)) ∙ (sym (scaled_le k (fin s m e)) ∙ y)

-- ---- the coordinates of a floor whose vertices are on the grid

module _ (p : Parts) (v : ℕ) (on : off_grid p v ≡ false) where
  all_on : (on_grid (vertex_float p v 0) ≡ true) × (on_grid (vertex_float p v 1) ≡ true) × (on_grid (vertex_float p v 2) ≡ true)
  unfolding off_grid
  all_on =
      let a = and_true _ _ (not-false _ on) in
      let b = and_true _ _ a.0 in
      (b.0, b.1, a.1)

  pub on_x : OnGrid (vertex_float p v 0)
  on_x = on_grid_lem _ all_on.0

  pub on_y : OnGrid (vertex_float p v 1)
  on_y = on_grid_lem _ all_on.1

  pub on_z : OnGrid (vertex_float p v 2)
  on_z = on_grid_lem _ all_on.2

  pub on_each : (e : ℕ) → e < 3 → OnGrid (vertex_float p v e)
  on_each zero l = on_x
  on_each (suc zero) l = on_y
  on_each (suc (suc zero)) l = on_z
  on_each (suc (suc (suc e))) l = absurd (omega arith)

-- ---- nodes

module _ (b : List ℕ) (r : Ready b) (n : ℕ) (l : n < (parts_of b).nodes) where
  leaf_of : (nodes_of (parts_of b)).inner n ≡ false → Leaf (parts_of b) n
  leaf_of e = ⊎_elim (λ (f : Leaf (parts_of b) n). f) (λ (i : Inner (parts_of b) n). clash (inner_is (parts_of b) n i) e) (r.floor.nodes.kinds n l)

  inner_of : (nodes_of (parts_of b)).inner n ≡ true → Inner (parts_of b) n
  inner_of e =
      ⊎_elim (λ (f : Leaf (parts_of b) n). clash e (leaf_is (parts_of b) n r.floor.sized.faces f)) (λ (i : Inner (parts_of b) n). i) (r.floor.nodes.kinds n l)

  end_finite : (e : ℕ) → e < 6 → finite (of_bits binary32 (node_word (parts_of b) n e)) ≡ true
  end_finite e m = finite_test _ (r.floor.mesh.finite.box n e l m)

  -- a leaf's box holds a point that its face holds
  module _ (x y : ℤ) (small-x : nat_abs x ≤ 65536) (small-y : nat_abs y ≤ 65536) (leaf : Leaf (parts_of b) n) (holds : face_holds (parts_of b) x y (face_of (parts_of b) n) ≡ true) where
    abbrev vertex : ℕ → ℕ
    vertex c = corner (parts_of b) (face_of (parts_of b) n) c

    under : (c : ℕ) → c < 3 → vertex c < (parts_of b).vertices
    under c m = r.floor.mesh.cornered.under (face_of (parts_of b) n) c leaf.face m

    grid_x : (c : ℕ) → c < 3 → OnGrid (vertex_float (parts_of b) (vertex c) 0)
    grid_x c m = on_x (parts_of b) (vertex c) (r.grid (vertex c) (under c m))

    grid_y : (c : ℕ) → c < 3 → OnGrid (vertex_float (parts_of b) (vertex c) 1)
    grid_y c m = on_y (parts_of b) (vertex c) (r.grid (vertex c) (under c m))

    held : (c : ℕ) → c < 3
        → HoldsPoint (box_of (parts_of b) n) (vertex_float (parts_of b) (vertex c) 0) (vertex_float (parts_of b) (vertex c) 1) (vertex_float (parts_of b) (vertex c) 2)
    held c m = r.floor.boxes.corners n c l leaf m

    mean_x : Mean (scaled (vertex_float (parts_of b) (vertex 0) 0)) (scaled (vertex_float (parts_of b) (vertex 1) 0)) (scaled (vertex_float (parts_of b) (vertex 2) 0)) x
    unfolding face_holds corner_at
    mean_x = x_mean _ _ _ _ _ _ x y holds

    mean_y : Mean (scaled (vertex_float (parts_of b) (vertex 0) 1)) (scaled (vertex_float (parts_of b) (vertex 1) 1)) (scaled (vertex_float (parts_of b) (vertex 2) 1)) y
    unfolding face_holds corner_at
    mean_y = y_mean _ _ _ _ _ _ x y holds

    leaf_holds : box_holds (parts_of b) x y n ≡ true
    unfolding box_holds holds_xy between box_of box_of_bits
    leaf_holds =
        let one = held 0 (omega arith) in
        let two = held 1 (omega arith) in
        let six = held 2 (omega arith) in
        let X = grid_x 0 (omega arith) in
        let X' = grid_x 1 (omega arith) in
        let X'' = grid_x 2 (omega arith) in
        let Y = grid_y 0 (omega arith) in
        let Y' = grid_y 1 (omega arith) in
        let Y'' = grid_y 2 (omega arith) in
        true_and _ _
        (true_and _ _ (mean_over X X' X'' small-x mean_x _ (end_finite 0 (omega arith)) one.least_x two.least_x six.least_x)
        (mean_under X X' X'' small-x mean_x _ (end_finite 3 (omega arith)) one.greatest_x two.greatest_x six.greatest_x))
        (true_and _ _ (mean_over Y Y' Y'' small-y mean_y _ (end_finite 1 (omega arith)) one.least_y two.least_y six.least_y)
        (mean_under Y Y' Y'' small-y mean_y _ (end_finite 4 (omega arith)) one.greatest_y two.greatest_y six.greatest_y))

-- ---- rule 14 at one point

module _ (b : List ℕ) (r : Ready b) (x y : ℤ) (small-x : nat_abs x ≤ 65536) (small-y : nat_abs y ≤ 65536) where
  pub nested : Nested (nodes_of (parts_of b)) (face_of (parts_of b)) (box_holds (parts_of b) x y) (face_holds (parts_of b) x y) (parts_of b).nodes
  unfolding nodes_of box_holds
  nested = record {
    left = λ n l i h. holds_inner _ _ (grid_float x) (grid_float y) (inner_back _ _ (r.floor.boxes.left n l (inner_of b r n l i))) h;
    right = λ n l i h. holds_inner _ _ (grid_float x) (grid_float y) (inner_back _ _ (r.floor.boxes.right n l (inner_of b r n l i))) h;
    leaf = λ n l i h. leaf_holds b r n l x y small-x small-y (leaf_of b r n l i) h;
  }
