-- The count of a walk over one tree: `ends` of the whole tree has each node once, and `ends` of the tree as the walk sees it has
-- just the nodes all of whose ancestors pass. Assumes nothing.
use Prim.Native.Nat.{ℕ, zero, suc, ◌+◌, ◌<◌, ◌≤◌}
use native.Mathlib.Omega.{arith}
use native.Mathlib.Decide.{dec_lt, ℕ_discrete}
use native.Mathlib.Nat.{eq-or-lt_of_le, le_of_suc-le-suc}
use mathlib.Core.Path.{◌≡◌, refl, sym, ap, ap₂, subst, ◌∙◌}
use mathlib.Core.Logic.{⊎_elim}
use mathlib.Core.Bool.{Bool, true, false, not, ◌||◌}
use mathlib.Core.List.{List, [], ◌∷◌, ◌++◌}
use mathlib.Core.Option.{some}
use lib.ListN.{length, length-append}
use lib.Dec.{eqb, leb}
use borrow.Author.Tests.{eq-eqb, ne_eqb, le-leb, leb-true}
use Rattle.verdict.specs.Lists.{bit, times, tally}
use Rattle.verdict.proofs.Bools.{clash, test, decided, and_true, true_and, not_of_true, not_of_false}
use Rattle.verdict.proofs.Lowest.{all_true, true_all}
use Rattle.verdict.proofs.Lists.{NoneFrom, none_head, none_tail}
use Rattle.nodes.specs.Nodes.{Nodes}
use Rattle.tree.specs.Tree.{ends}
use Rattle.tree.specs.Plain.{follow, OnePath, OneTree}
use Rattle.tree.specs.Visits.{above, shown, visited, visited_count, cut, Shown}
use Rattle.tree.proofs.Deep.{Kids}
use Rattle.tree.proofs.Paths.{kid, step, unstep, times_inner, times_leaf, times_start, reach, found, few, follow_below, some_same}
use Rattle.tree.proofs.Sight.{cut_leaf, cut_shut, cut_go}

-- ---- f added up over the numbers under n

unfoldable pub total : ℕ → (ℕ → ℕ) → ℕ
total zero f = 0
total (suc n) f = f n + total n f

total_same : (n : ℕ) (f g : ℕ → ℕ) → ((k : ℕ) → k < n → f k ≡ g k) → total n f ≡ total n g
unfolding total
total_same zero f g h = refl
total_same (suc n) f g h = ap₂ (λ (a b : ℕ). a + b) (h n (omega arith)) (total_same n f g (λ k l. h k (omega arith)))

total_add : (n : ℕ) (f g : ℕ → ℕ) → total n (λ k. f k + g k) ≡ total n f + total n g
unfolding total
total_add zero f g = omega arith
total_add (suc n) f g = let ih = total_add n f g in omega arith

total_none : (n : ℕ) (f : ℕ → ℕ) → ((k : ℕ) → k < n → f k ≡ 0) → total n f ≡ 0
unfolding total
total_none zero f h = refl
total_none (suc n) f h = let ih = total_none n f (λ k l. h k (omega arith)) in omega (arith, h n (omega arith))

total_ones : (n : ℕ) (f : ℕ → ℕ) → ((k : ℕ) → k < n → f k ≡ 1) → total n f ≡ n
unfolding total
total_ones zero f h = refl
total_ones (suc n) f h = let ih = total_ones n f (λ k l. h k (omega arith)) in omega (arith, h n (omega arith))

total_bit : (n x : ℕ) → x < n → total n (λ k. bit (eqb x k)) ≡ 1
unfolding total
total_bit zero x h = absurd (omega arith)
total_bit (suc n) x h =
    let ih = total_bit n x in
    ⊎_elim
    (λ (e : x ≡ n). let z = total_none n (λ k. bit (eqb x k)) (λ k l. ap bit (ne_eqb x k (λ q. omega arith))) in omega (arith, ap bit (eq-eqb x n e)))
    (λ (l : x < n). let z = ih l in omega (arith, ap bit (ne_eqb x n (λ q. omega arith))))
    (eq-or-lt_of_le (le_of_suc-le-suc h))

-- a list's length is how often each number stands in it, added up
pub length_total : (N : ℕ) (l : List ℕ) → NoneFrom N l → length l ≡ total N (λ k. times k l)
unfolding times
length_total N [] h = sym (total_none N (λ k. 0) (λ k l. refl))
length_total N (x ∷ l) h =
    let ih = length_total N l (none_tail N x l h) in
    let b = total_bit N x (omega (arith, none_head N x l h)) in
    omega (arith, total_add N (λ k. bit (eqb x k)) (λ k. times k l))

tally_total : (n : ℕ) (p : ℕ → Bool) → tally n p ≡ total n (λ k. bit (p k))
unfolding tally total
tally_total zero p = refl
tally_total (suc n) p = ap (λ (k : ℕ). bit (p n) + k) (tally_total n p)

-- ---- paths of the tree as the walk sees it

follow_append : (t : Nodes) (p q : List Bool) (n m k : ℕ) → follow t p n ≡ some m → follow t q m ≡ some k → follow t (p ++ q) n ≡ some k
unfolding follow
follow_append t [] q n m k e f = subst (λ (j : ℕ). follow t q j ≡ some k) (sym (some_same n m e)) f
follow_append t (s ∷ p) q n m k e f = let (y, e') = step t s p n m e in unstep t s (p ++ q) n k y (follow_append t p q (kid t s n) m k e' f)

module _ (t : Nodes) (h : ℕ → Bool) where
  cut_inner : (n : ℕ) → (cut t h).inner n ≡ true → (t.inner n ≡ true) × (h n ≡ true)
  unfolding cut
  cut_inner n e = and_true (t.inner n) (h n) e

  follow_cut : (p : List Bool) (n m : ℕ) → follow (cut t h) p n ≡ some m → follow t p n ≡ some m
  unfolding follow cut
  follow_cut [] n m e = e
  follow_cut (s ∷ p) n m e = let (y, e') = step (cut t h) s p n m e in unstep t s p n m (cut_inner n y).0 (follow_cut p (kid t s n) m e')

  -- a node on a path of the cut tree, but its end, passes
  cut_held : (r : List Bool) (s : Bool) (q : List Bool) (n m k : ℕ) → follow (cut t h) (r ++ (s ∷ q)) n ≡ some k → follow t r n ≡ some m → h m ≡ true
  unfolding follow cut
  cut_held [] s q n m k e f = rw (some_same n m f) at (cut_inner n (step (cut t h) s q n k e).0).1
  cut_held (u ∷ r) s q n m k e f = cut_held r s q (kid t u n) m k (step (cut t h) u (r ++ (s ∷ q)) n k e).1 (step t u r n m f).1

  times_cut : (k d n : ℕ) → times k (ends (cut t h) d n) ≤ times k (ends t d n)
  unfolding cut
  times_cut k zero n = omega (arith, times_start (cut t h) n k, times_start t n k)
  times_cut k (suc d) n =
      let l = times_cut k d (t.left n) in
      let r = times_cut k d (t.right n) in
      test (t.inner n)
      (λ y. test (h n)
      (λ z. omega (arith, times_inner (cut t h) d n k (cut_go t h n y z), times_inner t d n k y))
      (λ z. omega (arith, times_leaf (cut t h) d n k (cut_shut t h n z), times_inner t d n k y)))
      (λ y. omega (arith, times_leaf (cut t h) d n k (cut_leaf t h n y), times_leaf t d n k y))

pub ends_within : (t : Nodes) (N : ℕ) → Kids t N → (d n : ℕ) → n < N → NoneFrom N (ends t d n)
unfolding NoneFrom
ends_within t N kids d n lt k le =
    decided (dec_lt 0 (times k (ends t d n)))
    (λ z. let (p, e, b) = found t d n k z in absurd (omega (arith, follow_below t N kids p n k lt e)))
    (λ z. omega arith)

-- ---- one tree

module _ (t : Nodes) (face : ℕ → ℕ) (root N F : ℕ) (under : root < N) (kids : Kids t N) (tree : OneTree t face root N F) where
  path : (k : ℕ) → k < N → OnePath t root k
  path k lt = tree.paths k lt

  -- each node stands once among all ends, so there are as many as nodes
  pub ends_once : (k : ℕ) → k < N → times k (ends t 64 root) ≡ 1
  ends_once k lk =
      let o = path k lk in
      let r = reach t 64 root k o.steps o.leads o.short in
      let u = few t 64 root k (λ p q e f hp hq. o.only p e ∙ sym (o.only q f)) in
      omega arith

  pub length_ends : length (ends t 64 root) ≡ N
  length_ends = length_total N (ends t 64 root) (ends_within t N kids 64 root under) ∙ total_ones N (λ k. times k (ends t 64 root)) ends_once

  -- a way on from m to k is the end of the one path to k
  through : (m k : ℕ) (lm : m < N) (lk : k < N) (s : Bool) (q : List Bool) → follow t (s ∷ q) m ≡ some k → (path m lm).steps ++ (s ∷ q) ≡ (path k lk).steps
  through m k lm lk s q e = (path k lk).only _ (follow_append t (path m lm).steps (s ∷ q) root m k (path m lm).leads e)

  through_length : (m k : ℕ) (lm : m < N) (lk : k < N) (s : Bool) (q : List Bool) → follow t (s ∷ q) m ≡ some k
      → length (path m lm).steps + length (s ∷ q) ≡ length (path k lk).steps
  through_length m k lm lk s q e = sym (length-append (path m lm).steps (s ∷ q)) ∙ ap length (through m k lm lk s q e)

  -- so m is above k
  above_true : (m k : ℕ) (lm : m < N) (lk : k < N) (s : Bool) (q : List Bool) → follow t (s ∷ q) m ≡ some k → above t m k ≡ true
  unfolding above
  above_true m k lm lk s q e =
      let len = through_length m k lm lk s q e in
      true_and (not (eqb m k)) (leb 1 (times k (ends t 64 m)))
      (not_of_false (eqb m k) (ne_eqb m k (λ (z : m ≡ k).
      let e' : follow t (s ∷ q) k ≡ some k = subst (λ (j : ℕ). follow t (s ∷ q) j ≡ some k) z e in
      let again = through_length k k lk lk s q e' in
      omega arith)))
      (le-leb 1 (times k (ends t 64 m)) (reach t 64 m k (s ∷ q) e (let b = (path k lk).short in omega arith)))

  -- the root has no ancestors: a way back to it would be a second path
  pub root_shown : (h : ℕ → Bool) → Shown t h N root
  unfolding Shown follow
  root_shown h m lm s q e = absurd (omega (arith, through_length m root lm under s q e, ap length ((path root under).only [] refl)))

  module _ (h : ℕ → Bool) where
    -- the test `shown` is the plain statement
    pub shown_to : (k : ℕ) → k < N → shown t h N k ≡ true → Shown t h N k
    unfolding shown Shown
    shown_to k lk e m lm s q f =
        let a = above_true m k lm lk s q f in
        let g = all_true (λ j. not (above t j k) || h j) N e m lm in
        rw a at g

    pub shown_from : (k : ℕ) → k < N → Shown t h N k → shown t h N k ≡ true
    unfolding shown Shown above follow
    shown_from k lk sh =
        true_all (λ m. not (above t m k) || h m) N (λ m lm. test (above t m k)
        (λ y. rw y (
        let b = and_true (not (eqb m k)) (leb 1 (times k (ends t 64 m))) y in
        let (p, e, l) = found t 64 m k (leb-true 1 (times k (ends t 64 m)) b.1) in
        way m p e (λ z. clash b.0 (not_of_true (eqb m k) (eq-eqb m k z))) lm))
        (λ y. rw y))
      where
        way : (m : ℕ) (p : List Bool) → follow t p m ≡ some k → (m ≡ k → ⊥) → m < N → h m ≡ true
        way m [] e ne lm = absurd (ne (some_same m k e))
        way m (s ∷ q) e ne lm = sh m lm s q e

    -- the root is visited as a node whose ancestors, of which it has none, all pass
    pub visited_shown : (k : ℕ) → k < N → visited t h root N k ≡ shown t h N k
    unfolding visited
    visited_shown k lk =
        decided (ℕ_discrete k root)
        (λ e. rw (eq-eqb k root e) (sym (shown_from k lk (rw e (root_shown h)))))
        (λ e. rw (ne_eqb k root e))

    -- a node that the walk sees has only ancestors that pass
    cut_shown : (k : ℕ) → k < N → 1 ≤ times k (ends (cut t h) 64 root) → Shown t h N k
    unfolding Shown
    cut_shown k lk one m lm s q e =
        let (p, f, b) = found (cut t h) 64 root k one in
        let same : p ≡ (path m lm).steps ++ (s ∷ q) = (path k lk).only p (follow_cut t h p root k f) ∙ sym (through m k lm lk s q e) in
        cut_held t h (path m lm).steps s q root m k (subst (λ (r : List Bool). follow (cut t h) r root ≡ some k) same f) (path m lm).leads

    keep : (k : ℕ) → Shown t h N k → (p : List Bool) (n : ℕ) → n < N → follow t p n ≡ some k → follow (cut t h) p n ≡ some k
    unfolding follow Shown Kids cut
    keep k sh [] n lt e = e
    keep k sh (true ∷ p) n lt e =
        let (y, e') = step t true p n k e in
        unstep (cut t h) true p n k (cut_go t h n y (sh n lt true p e)) (keep k sh p (t.left n) (kids n lt y).0 e')
    keep k sh (false ∷ p) n lt e =
        let (y, e') = step t false p n k e in
        unstep (cut t h) false p n k (cut_go t h n y (sh n lt false p e)) (keep k sh p (t.right n) (kids n lt y).1 e')

    -- and a node that has only such ancestors is seen
    pub shown_cut : (k : ℕ) → k < N → Shown t h N k → 1 ≤ times k (ends (cut t h) 64 root)
    shown_cut k lk sh = reach (cut t h) 64 root k (path k lk).steps (keep k sh (path k lk).steps root under (path k lk).leads) (path k lk).short

    pub cut_within : NoneFrom N (ends (cut t h) 64 root)
    unfolding NoneFrom
    cut_within k le = let a = ends_within t N kids 64 root under k le in let b = times_cut t h k 64 root in omega arith

    -- a node all of whose ancestors pass is seen once, any other never
    seen_once : (k : ℕ) → k < N → times k (ends (cut t h) 64 root) ≡ bit (shown t h N k)
    seen_once k lk = test (shown t h N k)
        (λ y. let a = shown_cut k lk (shown_to k lk y) in let b = times_cut t h k 64 root in let c = ends_once k lk in omega (arith, ap bit y))
        (λ y. decided (dec_lt 0 (times k (ends (cut t h) 64 root)))
        (λ z. clash (shown_from k lk (cut_shown k lk z)) y)
        (λ z. omega (arith, ap bit y)))

    -- the walk's count is the number of nodes visited
    pub count_law : length (ends (cut t h) 64 root) ≡ visited_count t h root N
    unfolding visited_count
    count_law =
        length_total N (ends (cut t h) 64 root) cut_within
        ∙ (total_same N _ _ (λ k lk. seen_once k lk ∙ ap bit (sym (visited_shown k lk)))
        ∙ sym (tally_total N (visited t h root N)))
