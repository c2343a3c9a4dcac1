-- The planted floor's nodes are right in number and kind, and they are one tree of at most 12 steps: rules 11, 12 and 13. All that is
-- asked is rule 4's limit on faces. Assumes nothing.
use Prim.Native.Nat.{ℕ, ◌+◌, ◌*◌, ◌-◌, ◌<◌, ◌≤◌}
use native.Mathlib.Omega.{arith}
use native.Mathlib.Decide.{dec_lt}
use mathlib.Core.Path.{◌≡◌, refl, sym, ap, subst, ◌∙◌}
use mathlib.Core.Bool.{true, false, not}
use mathlib.Core.List.{List}
use mathlib.Core.Logic.{◌⊎◌}
use lib.ListN.{get_or}
use Rattle.verdict.specs.Lists.{times, once}
use Rattle.verdict.proofs.Bools.{decided, true_and, not_of_false}
use Rattle.tables.specs.Parts.{Parts, table_of}
use Rattle.nodes.specs.Nodes.{nodes_of, face_of}
use Rattle.nodes.specs.Plain.{Leaf, Inner, SoundNodes, Closed}
use Rattle.nodes.proofs.Rule12.{sound_closed}
use Rattle.tree.specs.Tree.{ends, deep, leaf_faces, one_tree}
use Rattle.tree.specs.Plain.{FloorTree}
use Rattle.tree.proofs.Paths.{short}
use Rattle.tree.proofs.Rule13.{kids, one_some}
use Rattle.tree.proofs.Theorem.{once_all, one_tree_to}
use Rattle.planting.specs.Planting.{range_words, planted}
use Rattle.grown.specs.Plain.{Halved, Twelve}
use Rattle.planting.proofs.Ranges.{most_12}
use Rattle.planting.proofs.Writing.{some_words}
use Rattle.grown.proofs.Spots.{Here, Spot, Rooted, rooted}
use Rattle.grown.proofs.Numbered.{up_from, up_once, kind, halved_range, ends_range, deep_range, leaves_range}

module _ (p : Parts) (few : p.faces ≤ 4096) where
  root_here : 1 ≤ p.faces → Here (table_of (planted p) 5) 0 (range_words p 12 0 p.faces 0)
  unfolding planted
  root_here l = subst (λ (t : List ℕ). Here t 0 (range_words p 12 0 p.faces 0)) (sym (some_words p few l))
      (record { word = λ j m. let e : 0 * 11 + j ≡ j = omega arith in ap (λ (i : ℕ). get_or (range_words p 12 0 p.faces 0) i 0) e })

  -- the whole tree is that of the range of all faces
  root_spot : 1 ≤ p.faces → Spot p (planted p) 12 0 0 p.faces
  root_spot l = record {
    here = root_here l;
    some = l;
    few = omega (arith, most_12);
    faces = unfold planted in omega arith;
    nodes = unfold planted in omega arith;
  }

  pub faces_are : (planted p).faces ≡ p.faces
  unfolding planted
  faces_are = refl

  nodes_are : (planted p).nodes ≡ 2 * p.faces - 1
  unfolding planted
  nodes_are = refl

  pub each_node : (k : ℕ) → k < (planted p).nodes → Rooted p (planted p) k
  each_node k l = rooted p (planted p) 12 0 0 p.faces (root_spot (omega (arith, nodes_are))) k (omega arith) (omega (arith, nodes_are))

  pub few_planted : (planted p).faces ≤ 4096
  few_planted = omega (arith, faces_are)

  pub kinds_planted : (k : ℕ) → k < (planted p).nodes → Leaf (planted p) k ⊎ Inner (planted p) k
  kinds_planted k l = let r = each_node k l in kind p (planted p) few_planted r.depth k r.from r.count r.spot

  -- 11 and 12
  pub nodes_planted : SoundNodes (planted p)
  nodes_planted = record { count = nodes_are ∙ ap (λ (f : ℕ). 2 * f - 1) (sym faces_are); root = unfold planted in λ l. l; kinds = kinds_planted }

  closed_planted : Closed (planted p)
  closed_planted = sound_closed (planted p) few_planted nodes_planted

  -- 13
  module _ (l : 1 ≤ p.faces) where
    paths_once : once (planted p).nodes (ends (nodes_of (planted p)) 64 0) ≡ true
    paths_once = once_all (planted p).nodes (ends (nodes_of (planted p)) 64 0) (λ k m.
        ap (λ (e : List ℕ). times k e) (ends_range p (planted p) few_planted 12 64 0 0 p.faces (root_spot l) (omega arith))
        ∙ up_once (2 * p.faces - 1) 0 k (omega arith) (omega (arith, nodes_are)))

    leaves_are : leaf_faces (nodes_of (planted p)) (face_of (planted p)) (planted p).nodes ≡ up_from 0 p.faces
    unfolding leaf_faces
    leaves_are =
        let e : (planted p).nodes ≡ 0 + (2 * p.faces - 1) = omega (arith, nodes_are) in
        ap (leaf_faces (nodes_of (planted p)) (face_of (planted p))) e ∙ leaves_range p (planted p) few_planted 12 0 0 p.faces (root_spot l)

    leaves_once : once (planted p).faces (leaf_faces (nodes_of (planted p)) (face_of (planted p)) (planted p).nodes) ≡ true
    leaves_once = once_all (planted p).faces _ (λ f m.
        ap (times f) leaves_are ∙ up_once p.faces 0 f (omega arith) (omega (arith, faces_are)))

    one_planted : one_tree (nodes_of (planted p)) (face_of (planted p)) 0 (planted p).nodes (planted p).faces ≡ true
    one_planted =
        let t = nodes_of (planted p) in
        let shallow = deep_range p (planted p) few_planted 12 64 0 0 p.faces (root_spot l) (omega arith) in
        one_some t (face_of (planted p)) 0 (planted p).nodes (planted p).faces (λ (z : (planted p).nodes ≡ 0). omega (arith, nodes_are))
        ∙ true_and _ _ (true_and (not (deep t 64 0)) _ (not_of_false (deep t 64 0) shallow) paths_once) leaves_once

    shallow_planted : deep (nodes_of (planted p)) 12 0 ≡ false
    shallow_planted = deep_range p (planted p) few_planted 12 12 0 0 p.faces (root_spot l) (omega arith)

  pub tree_planted : FloorTree (planted p)
  unfolding planted
  tree_planted = decided (dec_lt 0 p.faces)
      (λ l. one_tree_to (nodes_of (planted p)) (face_of (planted p)) 0 (planted p).nodes (planted p).faces (omega (arith, nodes_are))
      (kids (planted p) closed_planted) (one_planted l))
      (λ l. record { paths = λ k m. absurd (omega (arith, nodes_are)); leaves = λ k m. absurd (omega (arith, faces_are)) })

  pub halved_planted : 1 ≤ (planted p).faces → Halved (planted p) 0 0 (planted p).faces
  halved_planted l = subst (Halved (planted p) 0 0) (sym faces_are) (halved_range p (planted p) few_planted 12 0 0 p.faces (root_spot (omega (arith, faces_are))))

  -- "no leaf is more than 12 steps down"
  pub twelve_planted : Twelve (planted p)
  twelve_planted = record { short = λ n l steps e. short (nodes_of (planted p)) 12 0 n steps (shallow_planted (omega (arith, nodes_are))) e }
