-- Laws of boxes: a box that holds another holds what that one holds; and a float on the grid may be put for its scaled number. Assumes nothing.
use mathlib.Core.Path.{◌≡◌}
use mathlib.Core.Bool.{Bool, true, false, ◌&&◌}
use lib.Ieee.{Float, le}
use Rattle.verdict.proofs.Bools.{and_true, true_and}
use Rattle.boxes.specs.declared.Box.{Box}
use Rattle.grid.specs.Grid.{scaled, grid_float}
use Rattle.grid.specs.Plain.{OnGrid}
use Rattle.boxes.specs.Plain.{HoldsBox, HoldsPoint}
use Rattle.boxes.specs.Box.{between, none_over, holds_point, holds_box, holds_xy}
use Rattle.grid.proofs.Order.{le_trans, le_scaled, scaled_le}

-- ---- test by test, for a chain of tests that leaves at the first that fails
module _ (b : Box) (x y z : Float) where
  pub no_x : between b.least_x x b.greatest_x ≡ false → false ≡ holds_point b x y z
  unfolding holds_point
  no_x h = simp h

  pub no_y : between b.least_x x b.greatest_x ≡ true → between b.least_y y b.greatest_y ≡ false → false ≡ holds_point b x y z
  unfolding holds_point
  no_y h k = simp (h, k)

  pub by_z : between b.least_x x b.greatest_x ≡ true → between b.least_y y b.greatest_y ≡ true → between b.least_z z b.greatest_z ≡ holds_point b x y z
  unfolding holds_point
  by_z h k = simp (h, k)

module _ (b c : Box) where
  pub no_least : none_over b.least_x b.least_y b.least_z c.least_x c.least_y c.least_z ≡ false → false ≡ holds_box b c
  unfolding holds_box
  no_least h = simp h

  pub by_greatest : none_over b.least_x b.least_y b.least_z c.least_x c.least_y c.least_z ≡ true
      → none_over c.greatest_x c.greatest_y c.greatest_z b.greatest_x b.greatest_y b.greatest_z ≡ holds_box b c
  unfolding holds_box
  by_greatest h = simp h

module _ (b : Box) (x y : Float) where
  pub off_x : between b.least_x x b.greatest_x ≡ false → false ≡ holds_xy b x y
  unfolding holds_xy
  off_x h = simp h

  pub by_y : between b.least_x x b.greatest_x ≡ true → between b.least_y y b.greatest_y ≡ holds_xy b x y
  unfolding holds_xy
  by_y h = simp h

-- ---- a box that holds another

-- what lies between two ends lies between wider ones
between_wider : (lo x hi low high : Float) → le low lo ≡ true → le hi high ≡ true → between lo x hi ≡ true → between low x high ≡ true
unfolding between
between_wider lo x hi low high h k t =
    let p = and_true (le lo x) (le x hi) t in
    true_and (le low x) (le x high) (le_trans low lo x h p.0) (le_trans x hi high p.1 k)

three : (p q r : Bool) → (p && q && r) ≡ true → (p ≡ true) × (q ≡ true) × (r ≡ true)
three p q r h =
    let u = and_true (p && q) r h in
    let v = and_true p q u.0 in
    (v.0, v.1, u.1)

-- the tests are the plain propositions
module _ (b : Box) (x y z : Float) where
  pub point_held : holds_point b x y z ≡ true → HoldsPoint b x y z
  unfolding holds_point between
  point_held h =
      let t = three _ _ _ h in
      let u = and_true _ _ t.0 in
      let v = and_true _ _ t.1 in
      let w = and_true _ _ t.2 in
      record { least_x = u.0; least_y = v.0; least_z = w.0; greatest_x = u.1; greatest_y = v.1; greatest_z = w.1 }

  pub held_point : HoldsPoint b x y z → holds_point b x y z ≡ true
  unfolding holds_point between
  held_point i = rw (i.least_x, i.least_y, i.least_z, i.greatest_x, i.greatest_y, i.greatest_z)

module _ (b c : Box) where
  pub inner : holds_box b c ≡ true → HoldsBox b c
  unfolding holds_box none_over
  inner h =
      let u = and_true _ _ h in
      let l = three _ _ _ u.0 in
      let g = three _ _ _ u.1 in
      record { least_x = l.0; least_y = l.1; least_z = l.2; greatest_x = g.0; greatest_y = g.1; greatest_z = g.2 }

  pub inner_back : HoldsBox b c → holds_box b c ≡ true
  unfolding holds_box none_over
  inner_back i = rw (i.least_x, i.least_y, i.least_z, i.greatest_x, i.greatest_y, i.greatest_z)

  -- holds what that one holds
  pub holds_inner : (x y : Float) → holds_box b c ≡ true → holds_xy c x y ≡ true → holds_xy b x y ≡ true
  unfolding holds_xy
  holds_inner x y h k =
      let i = inner h in
      let u = and_true _ _ k in
      true_and _ _ (between_wider _ _ _ _ _ i.least_x i.greatest_x u.0) (between_wider _ _ _ _ _ i.least_y i.greatest_y u.1)

  pub holds_inner_point : (x y z : Float) → holds_box b c ≡ true → holds_point c x y z ≡ true → holds_point b x y z ≡ true
  unfolding holds_point
  holds_inner_point x y z h k =
      let i = inner h in
      let u = three _ _ _ k in
      true_and _ _ (true_and _ _ (between_wider _ _ _ _ _ i.least_x i.greatest_x u.0) (between_wider _ _ _ _ _ i.least_y i.greatest_y u.1)) (between_wider _ _ _ _ _ i.least_z i.greatest_z u.2)

-- so down a chain of boxes
pub holds_trans : (a b c : Box) → holds_box a b ≡ true → holds_box b c ≡ true → holds_box a c ≡ true
holds_trans a b c h k =
    let i = inner a b h in
    let j = inner b c k in
    inner_back a c (record {
      least_x = le_trans _ _ _ i.least_x j.least_x;
      least_y = le_trans _ _ _ i.least_y j.least_y;
      least_z = le_trans _ _ _ i.least_z j.least_z;
      greatest_x = le_trans _ _ _ j.greatest_x i.greatest_x;
      greatest_y = le_trans _ _ _ j.greatest_y i.greatest_y;
      greatest_z = le_trans _ _ _ j.greatest_z i.greatest_z;
    })

-- what a box holds it holds seen from above
pub holds_point_xy : (b : Box) (x y z : Float) → holds_point b x y z ≡ true → holds_xy b x y ≡ true
unfolding holds_point holds_xy
holds_point_xy b x y z h = (and_true _ _ h).0

-- ---- a float on the grid, or the float of its scaled number
pub between_scaled : {x : Float} (lo hi : Float) → OnGrid x → between lo x hi ≡ between lo (grid_float (scaled x)) hi
unfolding between
between_scaled lo hi g = rw (le_scaled g lo, scaled_le g hi)

pub holds_scaled : {x y : Float} (b : Box) → OnGrid x → OnGrid y → holds_xy b x y ≡ holds_xy b (grid_float (scaled x)) (grid_float (scaled y))
unfolding holds_xy
holds_scaled b g h = rw (between_scaled b.least_x b.greatest_x g, between_scaled b.least_y b.greatest_y h)
