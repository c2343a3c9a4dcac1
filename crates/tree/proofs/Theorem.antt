-- Rule 13's definition says what the paper says: exactly one path to each node, of at most 64 steps, and exactly one leaf for each
-- face. Assumes nothing.
use Prim.Native.Nat.{ℕ, zero, suc, ◌*◌, ◌-◌, ◌<◌, ◌≤◌}
use native.Mathlib.Omega.{arith}
use native.Mathlib.Decide.{ℕ_discrete}
use mathlib.Core.Path.{◌≡◌, refl, sym, subst, ◌∙◌}
use mathlib.Core.Bool.{Bool, true, false, not, ◌&&◌}
use mathlib.Core.List.{List}
use lib.ListN.{length}
use lib.Dec.{eqb}
use borrow.Author.Tests.{eq-eqb, eqb-true, not-true, not-false}
use Rattle.verdict.specs.Lists.{times, tally, once}
use Rattle.verdict.specs.Verdict.{accepted}
use Rattle.verdict.proofs.Bools.{test, decided, and_true, true_and, not_of_false}
use Rattle.verdict.proofs.Lowest.{all_true, true_all}
use Rattle.verdict.proofs.Lists.{times_append, tally_one, one_tally}
use Rattle.verdict.proofs.Verdict.{unbroken, met}
use Rattle.tables.specs.Parts.{Parts}
use Rattle.nodes.specs.Nodes.{Nodes, nodes_of, face_of}
use Rattle.nodes.specs.Plain.{Closed}
use Rattle.tree.specs.Tree.{ends, deep, leaf_faces, one_tree, rule13}
use Rattle.tree.specs.Plain.{OnePath, OneLeaf, OneTree, FloorTree}
use Rattle.tree.proofs.Deep.{Kids}
use Rattle.tree.proofs.Paths.{reach, found, unique, few, short, shallow, follow_below}
use Rattle.tree.proofs.Rule13.{kids, one_none, one_some}

pub once_at : (n : ℕ) (l : List ℕ) → once n l ≡ true → (k : ℕ) → k < n → times k l ≡ 1
unfolding once
once_at n l e k lt = eqb-true (times k l) 1 (all_true (λ j. eqb (times j l) 1) n e k lt)

pub once_all : (n : ℕ) (l : List ℕ) → ((k : ℕ) → k < n → times k l ≡ 1) → once n l ≡ true
unfolding once
once_all n l h = true_all (λ k. eqb (times k l) 1) n (λ k lt. eq-eqb (times k l) 1 (h k lt))

module _ (t : Nodes) (face : ℕ → ℕ) where
  -- n is a leaf with face f
  holds : ℕ → ℕ → Bool
  holds f n = not (t.inner n) && eqb (face n) f

  faces_tally : (f n : ℕ) → times f (leaf_faces t face n) ≡ tally n (holds f)
  unfolding leaf_faces times tally holds
  faces_tally f zero = refl
  faces_tally f (suc n) =
      let ih = faces_tally f n in
      times_append f (leaf_faces t face n) _ ∙ test (t.inner n) (λ y. rw y (omega arith)) (λ y. rw y (omega arith))

  module _ (root N F : ℕ) (under : root < N) (kids : Kids t N) where
    to_paths : deep t 64 root ≡ false → once N (ends t 64 root) ≡ true → (n : ℕ) → n < N → OnePath t root n
    to_paths s e n lt =
        let one = once_at N (ends t 64 root) e n lt in
        let (p, leads, b) = found t 64 root n (omega arith) in
        record { steps = p; leads = leads; short = b; only = λ q f. unique t 64 root n q p f leads (short t 64 root n q s f) b (omega arith) }

    to_leaf : once F (leaf_faces t face N) ≡ true → (f : ℕ) → f < F → OneLeaf t face N f
    unfolding holds
    to_leaf e f lt =
        let o = tally_one N (holds f) (sym (faces_tally f N) ∙ once_at F (leaf_faces t face N) e f lt) in
        let b = and_true (not (t.inner o.it)) (eqb (face o.it) f) o.passes in
        record {
          node = o.it;
          under = o.under;
          leaf = not-true (t.inner o.it) b.0;
          here = eqb-true (face o.it) f b.1;
          only = λ m l y q. o.only m l (true_and (not (t.inner m)) (eqb (face m) f) (not_of_false (t.inner m) y) (eq-eqb (face m) f q));
        }

    -- the definition gives the plain statement ..
    pub one_tree_to : one_tree t face root N F ≡ true → OneTree t face root N F
    one_tree_to e =
        let d = not (deep t 64 root) in
        let q = once N (ends t 64 root) in
        let a = and_true (d && q) (once F (leaf_faces t face N)) (sym (one_some t face root N F (λ (z : N ≡ 0). omega arith)) ∙ e) in
        let b = and_true d q a.0 in
        record { paths = to_paths (not-true (deep t 64 root) b.0) b.1; leaves = to_leaf a.1 }

    from_paths : ((n : ℕ) → n < N → OnePath t root n) → (not (deep t 64 root) && once N (ends t 64 root)) ≡ true
    from_paths h =
        let s : deep t 64 root ≡ false =
        shallow t 64 root (λ p m e. let o = h m (follow_below t N kids p root m under e) in subst (λ (k : List Bool). length k ≤ 64) (sym (o.only p e)) o.short) in
        true_and (not (deep t 64 root)) (once N (ends t 64 root)) (not_of_false (deep t 64 root) s) (once_all N (ends t 64 root) (λ n lt.
        let o = h n lt in
        let r = reach t 64 root n o.steps o.leads o.short in
        let u = few t 64 root n (λ p q e f hp hq. o.only p e ∙ sym (o.only q f)) in
        omega arith))

    from_leaves : ((f : ℕ) → f < F → OneLeaf t face N f) → once F (leaf_faces t face N) ≡ true
    unfolding holds
    from_leaves h = once_all F (leaf_faces t face N) (λ f lt.
        let o = h f lt in
        faces_tally f N
        ∙ one_tally N (holds f) (record {
          it = o.node;
          under = o.under;
          passes = true_and (not (t.inner o.node)) (eqb (face o.node) f) (not_of_false (t.inner o.node) o.leaf) (eq-eqb (face o.node) f o.here);
          only = λ m l q. let b = and_true (not (t.inner m)) (eqb (face m) f) q in o.only m l (not-true (t.inner m) b.0) (eqb-true (face m) f b.1);
        }))

    -- .. and the other way round
    pub one_tree_from : OneTree t face root N F → one_tree t face root N F ≡ true
    one_tree_from h =
        one_some t face root N F (λ (z : N ≡ 0). omega arith)
        ∙ true_and (not (deep t 64 root) && once N (ends t 64 root)) (once F (leaf_faces t face N)) (from_paths h.paths) (from_leaves h.leaves)

-- ---- rule 13 of a floor, after rules 11 and 12: without nodes there are no faces, so both readings hold

none_tree : (t : Nodes) (face : ℕ → ℕ) (root N F : ℕ) → N ≡ 0 → F ≡ 0 → OneTree t face root N F
none_tree t face root N F n f = record { paths = λ k l. absurd (omega arith); leaves = λ k l. absurd (omega arith) }

pub rule13_met : (p : Parts) → p.nodes ≡ 2 * p.faces - 1 → Closed p → (rule13 p).number ≡ 0 → FloorTree p
unfolding rule13
rule13_met p e c z =
    let t = not-false (one_tree (nodes_of p) (face_of p) p.root p.nodes p.faces) (unbroken 12 _ 0 z) in
    decided (ℕ_discrete p.nodes 0) (λ y. none_tree (nodes_of p) (face_of p) p.root p.nodes p.faces y (omega arith))
    (λ y. one_tree_to (nodes_of p) (face_of p) p.root p.nodes p.faces (c.root (omega arith)) (kids p c) t)

pub met_rule13 : (p : Parts) → Closed p → FloorTree p → rule13 p ≡ accepted
unfolding rule13
met_rule13 p c h =
    rw (decided (ℕ_discrete p.nodes 0) (λ y. sym (one_none (nodes_of p) (face_of p) p.root p.nodes p.faces y))
    (λ y. one_tree_from (nodes_of p) (face_of p) p.root p.nodes p.faces (c.root (omega arith)) (kids p c) h)) (met 13 0)
