-- Rule 13: what makes nodes one tree. The root is a parameter; a floor's tree hangs from the node that its root field names (M-101).
-- Definitions only.
use Rattle.std.specs.Prelude.{ℕ, zero, suc, Bool, false, not, cond, ◌&&◌, ◌||◌, List, [], ◌∷◌, ◌++◌, eqb}
use Rattle.verdict.specs.Lists.{once}
use Rattle.verdict.specs.Verdict.{rule}
use Rattle.verdict.specs.declared.Answer.{Answer}
use Rattle.tables.specs.Parts.{Parts}
use Rattle.nodes.specs.Nodes.{Nodes, nodes_of, face_of}

-- the ends of all downward paths of at most d steps from n, one for each path
unfoldable pub ends : Nodes → ℕ → ℕ → List ℕ
ends t zero n = n ∷ []
ends t (suc d) n = let below = ends t d (t.left n) ++ ends t d (t.right n) in n ∷ cond (t.inner n) below []

-- some downward path from n has more than d steps
unfoldable pub deep : Nodes → ℕ → ℕ → Bool
deep t zero n = t.inner n
deep t (suc d) n = let below = deep t d (t.left n) || deep t d (t.right n) in cond (t.inner n) below false

-- the faces of the leaves under number n, in order
unfoldable pub leaf_faces : Nodes → (ℕ → ℕ) → ℕ → List ℕ
leaf_faces t face zero = []
leaf_faces t face (suc n) = leaf_faces t face n ++ cond (t.inner n) [] (face n ∷ [])

-- N nodes that hang from `root`, with F faces, are one tree: every node is reached by exactly one path, none is more than 64 steps
-- below the root, and every face stands in exactly one leaf; no nodes are one tree too
unfoldable pub one_tree : Nodes → (ℕ → ℕ) → ℕ → ℕ → ℕ → Bool
one_tree t face root N F =
    eqb N 0 || not (deep t 64 root) && once N (ends t 64 root) && once F (leaf_faces t face N)

-- 13: not one tree
unfoldable pub rule13 : Parts → Answer
rule13 p = rule 13 (not (one_tree (nodes_of p) (face_of p) p.root p.nodes p.faces)) 0
