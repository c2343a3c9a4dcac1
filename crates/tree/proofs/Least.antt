-- The least face that a walk over one tree finds, where the tests are nested, is the lowest of all faces that pass. Assumes nothing.
use Prim.Native.Nat.{ℕ, ◌<◌, ◌≤◌}
use native.Mathlib.Omega.{arith}
use native.Mathlib.Decide.{dec_lt}
use mathlib.Core.Path.{◌≡◌, ap}
use mathlib.Core.Bool.{Bool, true, false}
use mathlib.Core.List.{List, [], ◌∷◌}
use mathlib.Core.Option.{some}
use lib.Dec.{eqb}
use borrow.Author.Tests.{eqb-true}
use Rattle.verdict.specs.Lowest.{lowest}
use Rattle.verdict.specs.Lists.{bit, times}
use Rattle.verdict.proofs.Bools.{clash, test, decided}
use Rattle.verdict.proofs.Lowest.{lowest_is}
use Rattle.verdict.proofs.Lists.{bit_same, NoneFrom}
use Rattle.nodes.specs.Nodes.{Nodes}
use Rattle.tree.specs.Tree.{ends}
use Rattle.tree.specs.Plain.{follow, OneTree}
use Rattle.tree.specs.Visits.{cut, score, least, Shown, Nested}
use Rattle.tree.proofs.Deep.{Kids}
use Rattle.tree.proofs.Paths.{step, some_same}
use Rattle.tree.proofs.Sight.{least_top, score_inner, score_miss, score_hit}
use Rattle.tree.proofs.Count.{shown_cut, cut_within}

-- the least is at most each value, and what is at most each value is at most the least
least_le : (top : ℕ) (v : ℕ → ℕ) (l : List ℕ) (x : ℕ) → 1 ≤ times x l → least top v l ≤ v x
unfolding least times
least_le top v [] x h = absurd (omega arith)
least_le top v (y ∷ l) x h =
    let ih = least_le top v l x in
    test (eqb y x) (λ z. let e = ap v (eqb-true y x z) in omega arith) (λ z. let i = ih (omega (arith, ap bit z)) in omega arith)

least_glb : (top : ℕ) (v : ℕ → ℕ) (l : List ℕ) (b : ℕ) → b ≤ top → ((x : ℕ) → 1 ≤ times x l → b ≤ v x) → b ≤ least top v l
unfolding least times
least_glb top v [] b m h = m
least_glb top v (y ∷ l) b m h =
    let here = h y (omega (arith, bit_same y)) in
    let ih = least_glb top v l b m (λ x i. h x (omega arith)) in
    omega arith

-- the lowest that passes is at most each that does
lowest_le : (p : ℕ → Bool) (n k : ℕ) → p k ≡ true → lowest n p ≤ k
lowest_le p n k e = decided (dec_lt k (lowest n p)) (λ l. clash e ((lowest_is p n).before k l)) (λ l. omega arith)

module _ (t : Nodes) (face : ℕ → ℕ) (root N F : ℕ) (under : root < N) (kids : Kids t N) (tree : OneTree t face root N F) (h has : ℕ → Bool)
    (small : (n : ℕ) → n < N → t.inner n ≡ false → face n < F) (nested : Nested t face h has N) where
  -- a node that passes hangs below nodes that do
  up : (k : ℕ) → h k ≡ true → (p : List Bool) (n : ℕ) → n < N → follow t p n ≡ some k → h n ≡ true
  unfolding follow Kids
  up k y [] n lt e = rw (some_same n k e) y
  up k y (true ∷ p) n lt e = let (i, e') = step t true p n k e in nested.left n lt i (up k y p (t.left n) (kids n lt i).0 e')
  up k y (false ∷ p) n lt e = let (i, e') = step t false p n k e in nested.right n lt i (up k y p (t.right n) (kids n lt i).1 e')

  seen : (k : ℕ) → h k ≡ true → Shown t h N k
  unfolding Shown
  seen k y m lm s q e = up k y (s ∷ q) m lm e

  -- nothing that is seen gives less than the lowest face that passes
  score_least : (n : ℕ) → n < N → lowest F has ≤ score F t face has n
  score_least n l =
      test (t.inner n) (λ y. omega (arith, score_inner F t face has n y, (lowest_is has F).within))
      (λ y. test (has (face n))
      (λ z. omega (arith, score_hit F t face has n y z, lowest_le has F (face n) z))
      (λ z. omega (arith, score_miss F t face has n z, (lowest_is has F).within)))

  -- the leaf of a face that passes is visited
  reached : (f : ℕ) → f < F → has f ≡ true → least F (score F t face has) (ends (cut t h) 64 root) ≤ f
  reached f lf y =
      let o = tree.leaves f lf in
      let z : has (face o.node) ≡ true = rw o.here y in
      let i = shown_cut t face root N F under kids tree h o.node o.under (seen o.node (nested.leaf o.node o.under o.leaf z)) in
      omega (arith, least_le F (score F t face has) (ends (cut t h) 64 root) o.node i, score_hit F t face has o.node o.leaf z, o.here)

  pub lowest_law : least F (score F t face has) (ends (cut t h) 64 root) ≡ lowest F has
  unfolding NoneFrom
  lowest_law =
      let L = ends (cut t h) 64 root in
      let v = score F t face has in
      let ge : lowest F has ≤ least F v L =
      least_glb F v L (lowest F has) (lowest_is has F).within (λ x i. decided (dec_lt x N) (λ lx. score_least x lx)
      (λ g. absurd (omega (arith, cut_within t face root N F under kids tree h x (omega arith))))) in
      let le : least F v L ≤ lowest F has =
      decided (dec_lt (lowest F has) F) (λ l. reached (lowest F has) l ((lowest_is has F).holds l)) (λ g. omega (arith, least_top F v L)) in
      omega arith
