-- Rule 14: a node's box holds its face's three corners, or both children's boxes, by plain float comparison, ends included.
-- Definitions only.
use Rattle.std.specs.Prelude.{ℕ, Bool, not, cond, ◌&&◌, Float}
use Rattle.std.specs.Float.{binary32}
use Rattle.std.specs.Float.Ieee.{of_bits}
use Rattle.verdict.specs.Lowest.{all_under}
use Rattle.verdict.specs.Verdict.{rule_of_each, ◌then◌}
use Rattle.verdict.specs.declared.Answer.{Answer}
use Rattle.boxes.specs.Box.{box_of_bits, holds_point, holds_box}
use Rattle.boxes.specs.declared.Box.{Box}
use Rattle.tables.specs.Parts.{Parts, vertex_word, corner, node_word}
use Rattle.nodes.specs.Nodes.{nodes_of, face_of, left_of, right_of}
use Rattle.tree.specs.Tree.{rule13}

-- node n's box: least x, y, z, greatest x, y, z
unfoldable pub box_of : Parts → ℕ → Box
box_of p n = box_of_bits (node_word p n 0) (node_word p n 1) (node_word p n 2) (node_word p n 3) (node_word p n 4) (node_word p n 5)

-- coordinate e of vertex v
abbrev pub vertex_float : Parts → ℕ → ℕ → Float
vertex_float p v e = of_bits binary32 (vertex_word p v e)

-- node n's box holds corner e of face f
unfoldable pub holds_corner : Parts → ℕ → ℕ → ℕ → Bool
holds_corner p n f e =
    holds_point (box_of p n) (vertex_float p (corner p f e) 0) (vertex_float p (corner p f e) 1) (vertex_float p (corner p f e) 2)

-- it holds its face's three corners; it holds both children's boxes
unfoldable pub holds_face : Parts → ℕ → Bool
holds_face p n = all_under 3 (holds_corner p n (face_of p n))

unfoldable pub holds_children : Parts → ℕ → Bool
holds_children p n = holds_box (box_of p n) (box_of p (left_of p n)) && holds_box (box_of p n) (box_of p (right_of p n))

unfoldable pub too_small : Parts → ℕ → Bool
too_small p n = not (cond ((nodes_of p).inner n) (holds_children p n) (holds_face p n))

-- 14: a box too small; lowest node
unfoldable pub rule14 : Parts → Answer
rule14 p = rule_of_each 14 p.nodes (too_small p) (λ n. n)

-- rules 13 and 14
unfoldable pub rules13to14 : Parts → Answer
rules13to14 p = rule13 p then rule14 p
