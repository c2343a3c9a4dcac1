-- Document 01's sentences on boxes as plain propositions, beside the tests of Box. proofs/ shows both ways.
use Rattle.std.specs.Prelude.{◌≡◌, true, Float}
use Rattle.std.specs.Float.Ieee.{le}
use Rattle.boxes.specs.declared.Box.{Box}

-- a node's box holds a child's: the child's least is not under the node's, nor its greatest over the node's, axis by axis
pub record HoldsBox (b c : Box) : Type 0 where
  pub least_x : le b.least_x c.least_x ≡ true
  pub least_y : le b.least_y c.least_y ≡ true
  pub least_z : le b.least_z c.least_z ≡ true
  pub greatest_x : le c.greatest_x b.greatest_x ≡ true
  pub greatest_y : le c.greatest_y b.greatest_y ≡ true
  pub greatest_z : le c.greatest_z b.greatest_z ≡ true

-- a box holds a point: each coordinate lies between the box's ends, ends included
pub record HoldsPoint (b : Box) (x y z : Float) : Type 0 where
  pub least_x : le b.least_x x ≡ true
  pub least_y : le b.least_y y ≡ true
  pub least_z : le b.least_z z ≡ true
  pub greatest_x : le x b.greatest_x ≡ true
  pub greatest_y : le y b.greatest_y ≡ true
  pub greatest_z : le z b.greatest_z ≡ true
