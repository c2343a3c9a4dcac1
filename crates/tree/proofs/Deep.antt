-- The walk's trail against `ends` and `deep`: where no path is too long they are the same list; where one is, some node stands
-- twice. Assumes nothing.
use Prim.Native.Nat.{ℕ, zero, suc, ◌<◌, ◌≤◌}
use native.Mathlib.Omega.{arith}
use mathlib.Core.Path.{◌≡◌, refl, sym, ap₂, ◌∙◌}
use mathlib.Core.Bool.{true, false, not, ◌&&◌, ◌||◌}
use mathlib.Core.List.{List, [], ◌∷◌, ◌++◌}
use lib.ListN.{length, get_or}
use Rattle.verdict.specs.Lowest.{all_under}
use Rattle.verdict.specs.Lists.{times, once}
use Rattle.verdict.specs.Memory.{is_marked, fresh, marked}
use Rattle.verdict.proofs.Bools.{clash, test, same_test, and_true, or_false}
use Rattle.verdict.proofs.Lists.{bit_same, bit_le, times_append, NoneFrom, none_nil, none_cons, none_append, none_more}
use Rattle.verdict.proofs.Once.{room, rooms, once_law}
use Rattle.nodes.specs.Nodes.{Nodes}
use Rattle.tree.specs.Tree.{ends, deep}
use Rattle.tree.specs.Trail.{trail}
use Rattle.tree.proofs.Shape.{trail_leaf, trail_end, trail_more}

-- the children of inner nodes are nodes
unfoldable pub Kids : Nodes → ℕ → Type 0
Kids t N = (n : ℕ) → n < N → t.inner n ≡ true → (t.left n < N) × (t.right n < N)

module _ (t : Nodes) (d n : ℕ) where
  pub ends_leaf : t.inner n ≡ false → ends t (suc d) n ≡ n ∷ []
  unfolding ends
  ends_leaf e = simp e

  pub ends_inner : t.inner n ≡ true → ends t (suc d) n ≡ n ∷ (ends t d (t.left n) ++ ends t d (t.right n))
  unfolding ends
  ends_inner e = simp e

  pub deep_leaf : t.inner n ≡ false → deep t (suc d) n ≡ false
  unfolding deep
  deep_leaf e = simp e

  pub deep_inner : t.inner n ≡ true → deep t (suc d) n ≡ (deep t d (t.left n) || deep t d (t.right n))
  unfolding deep
  deep_inner e = simp e

  -- a node that is not deep has no child that is
  pub shallow_kids : t.inner n ≡ true → deep t (suc d) n ≡ false → (deep t d (t.left n) ≡ false) × (deep t d (t.right n) ≡ false)
  shallow_kids y e = or_false (deep t d (t.left n)) (deep t d (t.right n)) (sym (deep_inner y) ∙ e)

module _ (t : Nodes) where
  pub trail_ends : (d n : ℕ) → deep t d n ≡ false → trail t d n ≡ ends t d n
  unfolding trail ends deep
  trail_ends zero n e = simp e
  trail_ends (suc d) n e =
      let l = trail_ends d (t.left n) in
      let r = trail_ends d (t.right n) in
      test (t.inner n)
      (λ y.
      let q = shallow_kids t d n y e in
      rw (trail_more t d n y, ends_inner t d n y) (ap₂ (λ (a b : List ℕ). n ∷ (a ++ b)) (l q.0) (r q.1)))
      (λ y. trail_leaf t (suc d) n y ∙ sym (ends_leaf t d n y))

  pub deep_twice : (d n : ℕ) → deep t d n ≡ true → (k : ℕ) × (2 ≤ times k (trail t d n))
  unfolding trail deep times
  deep_twice zero n e = (n, simp e (omega (arith, bit_same n)))
  deep_twice (suc d) n e =
      let L = trail t d (t.left n) in
      let R = trail t d (t.right n) in
      let l = deep_twice d (t.left n) in
      let r = deep_twice d (t.right n) in
      test (t.inner n)
      (λ y.
      let q = sym (deep_inner t d n y) ∙ e in
      rw y
      (test (deep t d (t.left n))
      (λ z. let (k, two) = l z in (k, omega (arith, times_append k L R)))
      (λ z. let (k, two) = r (rw z at q) in (k, omega (arith, times_append k L R)))))
      (λ y. clash e (deep_leaf t d n y))

  pub trail_within : (N : ℕ) → Kids t N → (d n : ℕ) → n < N → NoneFrom N (trail t d n)
  unfolding Kids
  trail_within N kids zero n lt =
      test (t.inner n)
      (λ y. rw (trail_end t n y) (none_cons N n (n ∷ []) lt (none_cons N n [] lt (none_nil N))))
      (λ y. rw (trail_leaf t 0 n y) (none_cons N n [] lt (none_nil N)))
  trail_within N kids (suc d) n lt =
      let l = trail_within N kids d (t.left n) in
      let r = trail_within N kids d (t.right n) in
      test (t.inner n)
      (λ y. rw (trail_more t d n y) (none_cons N n _ lt (none_append N _ _ (l (kids n lt y).0) (r (kids n lt y).1))))
      (λ y. rw (trail_leaf t (suc d) n y) (none_cons N n [] lt (none_nil N)))

-- a list in which a number stands twice cannot be marked to its end
crowded : (l w : List ℕ) (k : ℕ) → NoneFrom (length w) l → 2 ≤ times k l → fresh l w ≡ true → ⊥
unfolding room
crowded l w k h two f = omega (arith, rooms l w h f k, bit_le (not (is_marked w k)))

-- the walk from the root on clear memory, and the look at the marks of all nodes, are the first half of rule 13
pub spans_law : (t : Nodes) (root N : ℕ) (w : List ℕ) → Kids t N → root < N → N ≤ length w → ((k : ℕ) → k < N → get_or w k 0 ≡ 0)
    → (fresh (trail t 64 root) w && all_under N (is_marked (marked (trail t 64 root) w))) ≡ (not (deep t 64 root) && once N (ends t 64 root))
spans_law t root N w kids lt long clear =
    let T = trail t 64 root in
    let inside = trail_within t N kids 64 root lt in
    test (deep t 64 root)
    (λ y.
    let (k, two) = deep_twice t 64 root y in
    rw y (same_test (fresh T w && all_under N (is_marked (marked T w))) false
    (λ e. absurd (crowded T w k (none_more N (length w) T long inside) two (and_true (fresh T w) (all_under N (is_marked (marked T w))) e).0))
    (λ e. clash e refl)))
    (λ y. rw y (rw (← trail_ends t 64 root y) (once_law N T w inside long clear)))
