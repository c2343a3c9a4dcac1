-- Cases of rule 13, computed from its definition: a root over two leaves, a detached ring, a face in two leaves, a node with two
-- paths, another root, and the most steps that are allowed.
use Prim.Native.Nat.{ℕ, ◌+◌, ◌*◌, ◌/◌, ◌%◌}
use mathlib.Core.Path.{◌≡◌, refl}
use mathlib.Core.Bool.{true, false, ◌&&◌}
use mathlib.Core.List.{List, [], ◌∷◌}
use lib.ListN.{get_or}
use lib.Dec.{eqb, ltb}
use Rattle.tables.specs.Parts.{none32}
use Rattle.verdict.specs.Lowest.{lowest, any_under, all_under}
use Rattle.verdict.specs.Lists.{times, once}
use Rattle.nodes.specs.Nodes.{Nodes}
use Rattle.tree.specs.Tree.{ends, deep, leaf_faces, one_tree}

-- nodes by lists of faces and of children
table : List ℕ → List ℕ → List ℕ → Nodes
table faces left right = record { inner = λ n. eqb (get_or faces n 0) none32; left = λ n. get_or left n 0; right = λ n. get_or right n 0 }

two_leaves : one_tree (table (none32 ∷ 0 ∷ 1 ∷ []) (1 ∷ []) (2 ∷ [])) (λ n. get_or (none32 ∷ 0 ∷ 1 ∷ []) n 0) 0 3 2 ≡ true
unfolding table one_tree ends deep leaf_faces times once all_under any_under lowest
two_leaves = refl

-- as many nodes as there should be, but two of them never reached
detached_ring : one_tree (table (none32 ∷ 0 ∷ 1 ∷ none32 ∷ 2 ∷ []) (1 ∷ 0 ∷ 0 ∷ 4 ∷ []) (2 ∷ 0 ∷ 0 ∷ 3 ∷ [])) (λ n. get_or (none32 ∷ 0 ∷ 1 ∷ none32 ∷ 2 ∷ []) n 0) 0 5 3 ≡ false
unfolding table one_tree ends deep leaf_faces times once all_under any_under lowest
detached_ring = refl

face_in_two_leaves : one_tree (table (none32 ∷ 0 ∷ 0 ∷ []) (1 ∷ []) (2 ∷ [])) (λ n. get_or (none32 ∷ 0 ∷ 0 ∷ []) n 0) 0 3 2 ≡ false
unfolding table one_tree ends deep leaf_faces times once all_under any_under lowest
face_in_two_leaves = refl

-- both children of the root are node 1
two_paths : one_tree (table (none32 ∷ 0 ∷ 1 ∷ []) (1 ∷ []) (1 ∷ [])) (λ n. get_or (none32 ∷ 0 ∷ 1 ∷ []) n 0) 0 3 2 ≡ false
unfolding table one_tree ends deep leaf_faces times once all_under any_under lowest
two_paths = refl

-- the root is node 2
another_root : one_tree (table (0 ∷ 1 ∷ none32 ∷ []) (0 ∷ 0 ∷ 0 ∷ []) (0 ∷ 0 ∷ 1 ∷ [])) (λ n. get_or (0 ∷ 1 ∷ none32 ∷ []) n 0) 2 3 2 ≡ true
unfolding table one_tree ends deep leaf_faces times once all_under any_under lowest
another_root = refl

-- a chain of s inner nodes: 2k has the leaf 2k + 1 and the next, 2k + 2
chain : ℕ → Nodes
chain s = record { inner = λ n. eqb (n % 2) 0 && ltb n (2 * s); left = λ n. n + 1; right = λ n. n + 2 }

steps_64 : one_tree (chain 64) (λ n. n / 2) 0 129 65 ≡ true
unfolding chain one_tree ends deep leaf_faces times once all_under any_under lowest
steps_64 = refl

steps_65 : one_tree (chain 65) (λ n. n / 2) 0 131 66 ≡ false
unfolding chain one_tree ends deep leaf_faces times once all_under any_under lowest
steps_65 = refl
