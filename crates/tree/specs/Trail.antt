-- The order in which the recursive walk of the shape check marks the nodes: what its contract says it marks. Definitions only.
use Rattle.std.specs.Prelude.{ℕ, zero, suc, cond, List, [], ◌∷◌, ◌++◌}
use Rattle.nodes.specs.Nodes.{Nodes}

-- the nodes from n on in the order of the walk; an inner node at which the depth d is used up stands twice, so that it is refused
unfoldable pub trail : Nodes → ℕ → ℕ → List ℕ
trail t zero n = n ∷ cond (t.inner n) (n ∷ []) []
trail t (suc d) n = let below = trail t d (t.left n) ++ trail t d (t.right n) in n ∷ cond (t.inner n) below []
