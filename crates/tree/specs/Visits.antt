-- The nodes that a walk from the root visits where a test decides below which inner nodes it goes on (in the point query: the box
-- holds the point), and the lowest face among the leaves visited. Over any shape of nodes. Definitions only.
use Rattle.std.specs.Prelude.{ℕ, min, ◌<◌, ◌≡◌, Bool, true, false, not, cond, ◌&&◌, ◌||◌, List, [], ◌∷◌, eqb, leb}
use Rattle.std.proofs.Math.Option.{some}
use Rattle.verdict.specs.Lowest.{all_under}
use Rattle.verdict.specs.Lists.{times, tally}
use Rattle.nodes.specs.Nodes.{Nodes}
use Rattle.tree.specs.Tree.{ends}
use Rattle.tree.specs.Plain.{follow}

-- m is a proper ancestor of n
unfoldable pub above : Nodes → ℕ → ℕ → Bool
above t m n = not (eqb m n) && leb 1 (times n (ends t 64 m))

-- every proper ancestor of n among N nodes passes the test
unfoldable pub shown : Nodes → (ℕ → Bool) → ℕ → ℕ → Bool
shown t h N n = all_under N (λ m. not (above t m n) || h m)

-- n is visited: it is the root, or all its ancestors pass
unfoldable pub visited : Nodes → (ℕ → Bool) → ℕ → ℕ → ℕ → Bool
visited t h root N n = eqb n root || shown t h N n

-- the number of nodes visited: the root, and every node all of whose ancestors pass
unfoldable pub visited_count : Nodes → (ℕ → Bool) → ℕ → ℕ → ℕ
visited_count t h root N = tally N (visited t h root N)

-- the shape as the walk sees it: below a node that does not pass there is nothing
unfoldable pub cut : Nodes → (ℕ → Bool) → Nodes
cut t h = record { inner = λ n. t.inner n && h n; left = t.left; right = t.right }

-- what a node gives: a leaf whose face passes that face, any other `top`
unfoldable pub score : ℕ → Nodes → (ℕ → ℕ) → (ℕ → Bool) → ℕ → ℕ
score top t face has n = cond (not (t.inner n) && has (face n)) (face n) top

-- the least of the values of a list, and `top` for none
unfoldable pub least : ℕ → (ℕ → ℕ) → List ℕ → ℕ
least top v [] = top
least top v (x ∷ l) = min (v x) (least top v l)

-- "all of whose ancestors pass", as a plain statement: so does every node from which a path of at least one step leads to n
unfoldable pub Shown : Nodes → (ℕ → Bool) → ℕ → ℕ → Type 0
Shown t h N n = (m : ℕ) → m < N → (s : Bool) (q : List Bool) → follow t (s ∷ q) m ≡ some n → h m ≡ true

-- what rule 14 gives at one point: a node passes where a child does, and a leaf passes where its face does
pub record Nested (t : Nodes) (face : ℕ → ℕ) (h has : ℕ → Bool) (N : ℕ) : Type 0 where
  pub left : (n : ℕ) → n < N → t.inner n ≡ true → h (t.left n) ≡ true → h n ≡ true
  pub right : (n : ℕ) → n < N → t.inner n ≡ true → h (t.right n) ≡ true → h n ≡ true
  pub leaf : (n : ℕ) → n < N → t.inner n ≡ false → has (face n) ≡ true → h n ≡ true
