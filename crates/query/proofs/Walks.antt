-- The walk from the root of an accepted floor whose vertices are on the grid: its count is the number of nodes visited, and its face
-- the lowest of all faces that hold the point. Assumes nothing.
use mathlib.Core.Path.{◌≡◌, ap, ◌∙◌}
use mathlib.Core.List.{List}
use Prim.Native.Nat.{ℕ, ◌<◌, ◌≤◌}
use native.Mathlib.Omega.{arith}
use lib.IntN.{ℤ, nat_abs}
use lib.ListN.{length}
use Rattle.verdict.specs.Lists.{tally}
use Rattle.verdict.specs.Lowest.{lowest}
use Rattle.tables.specs.Parts.{parts_of}
use Rattle.nodes.specs.Nodes.{nodes_of, face_of}
use Rattle.tree.specs.Tree.{ends}
use Rattle.tree.specs.Plain.{OneTree}
use Rattle.tree.specs.Visits.{visited_count, least}
use Rattle.tree.proofs.Rule13.{kids}
use Rattle.tree.proofs.Sight.{ends_more, length_cut}
use Rattle.tree.proofs.Count.{length_ends, count_law}
use Rattle.tree.proofs.Least.{lowest_law}
use Rattle.verdict.specs.Verdict.{accepted}
use Rattle.query.specs.Points.{face_holds, box_holds, lowest_face, visited_nodes, reply_of, point_of, Ready}
use Rattle.query.proofs.Nesting.{nested}
use Rattle.query.proofs.Sights.{shape, value}

-- no faces: no nodes, none visited, no face
pub no_faces : (b : List ℕ) → Ready b → (x y : ℤ) → (parts_of b).faces ≡ 0 → reply_of accepted 0 0 0 ≡ point_of accepted (parts_of b) x y
unfolding point_of lowest_face visited_nodes visited_count lowest tally
no_faces b r x y e = let n : (parts_of b).nodes ≡ 0 = omega (arith, r.floor.nodes.count) in rw (e, n)

-- a walk from the node that the root field names
module _ (b : List ℕ) (r : Ready b) (some : 0 < (parts_of b).faces) (root : ℕ) (named : root ≡ (parts_of b).root) where
  pub root_under : root < (parts_of b).nodes
  root_under = omega (arith, named, r.floor.closed.root (omega (arith, r.floor.nodes.count)))

  tree : OneTree (nodes_of (parts_of b)) (face_of (parts_of b)) root (parts_of b).nodes (parts_of b).faces
  tree = rw named r.floor.tree

  -- no walk of so few steps sees more nodes than there are
  pub all_few : (d : ℕ) → d ≤ 64 → length (ends (nodes_of (parts_of b)) d root) ≤ 8191
  all_few d h =
      let t = nodes_of (parts_of b) in
      omega (arith, ends_more t d 64 root h, length_ends t (face_of (parts_of b)) root (parts_of b).nodes (parts_of b).faces root_under (kids (parts_of b) r.floor.closed) tree, r.floor.sized.nodes)

  pub few_seen : (x y : ℤ) (d c : ℕ) → d ≤ 64 → c ≡ length (ends (shape (parts_of b) x y) d root) → c ≤ 8191
  few_seen x y d c h e = omega (arith, length_cut (nodes_of (parts_of b)) (box_holds (parts_of b) x y) d root, all_few d h)

  module _ (x y : ℤ) where
    -- THE COUNT: the nodes that the walk sees are the root and those all of whose ancestors' boxes hold x and y
    pub walk_count : length (ends (shape (parts_of b) x y) 64 root) ≡ visited_nodes (parts_of b) x y
    unfolding visited_nodes
    walk_count =
        count_law (nodes_of (parts_of b)) (face_of (parts_of b)) root (parts_of b).nodes (parts_of b).faces root_under (kids (parts_of b) r.floor.closed) tree (box_holds (parts_of b) x y)
        ∙ ap (λ (n : ℕ). visited_count (nodes_of (parts_of b)) (box_holds (parts_of b) x y) n (parts_of b).nodes) named

    -- THE FACE: the least of those that the walk sees is the lowest of all faces
    pub walk_face : nat_abs x ≤ 65536 → nat_abs y ≤ 65536
        → least (parts_of b).faces (value (parts_of b) x y) (ends (shape (parts_of b) x y) 64 root) ≡ lowest_face (parts_of b) x y
    unfolding lowest_face
    walk_face small-x small-y =
        lowest_law (nodes_of (parts_of b)) (face_of (parts_of b)) root (parts_of b).nodes (parts_of b).faces root_under (kids (parts_of b) r.floor.closed) tree (box_holds (parts_of b) x y) (face_holds (parts_of b) x y)
        r.floor.closed.face (nested b r x y small-x small-y)

    -- what the walk has seen, as the answer
    pub walk_answer : nat_abs x ≤ 65536 → nat_abs y ≤ 65536 → (c f n : ℕ) → n ≡ (parts_of b).faces
        → c ≡ length (ends (shape (parts_of b) x y) 64 root) → f ≡ least (parts_of b).faces (value (parts_of b) x y) (ends (shape (parts_of b) x y) 64 root)
        → reply_of accepted f n c ≡ point_of accepted (parts_of b) x y
    unfolding point_of
    walk_answer small-x small-y c f n e p q = rw (e, p ∙ walk_count, q ∙ walk_face small-x small-y)
