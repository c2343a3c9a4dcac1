-- Rule 13: both halves. Assumes nothing.
use borrow.Author.Rules.{rules}
use native.Mathlib.Omega.{arith}
use mathlib.Core.Path.{◌≡◌, refl, ◌∙◌}
use mathlib.Core.Bool.{◌&&◌}
use Rattle.verdict.specs.Memory.{SamePast}
use Rattle.tables.specs.Parts.{Parts, parts_of}
use Rattle.nodes.specs.Nodes.{nodes_of, face_of}
use Rattle.tree.specs.Tree.{one_tree}
use Rattle.tree.proofs.Rule13.{one_none, both_halves, both_first, both_none}
use Rattle.tree.proofs.one_tree.Statement.{statement}
use Rattle.tree.proofs.one_tree.Tie as tie

-- the floor's parts
abbrev parts : tie.Start → Parts
parts s = parts_of s.args.bytes.now

-- the places that the last step goes back to: both halves, the root read, the start
abbrev at_covers : tie.After-slice_known-3-1 → tie.After-covers-leaves
at_covers c = c.before.before

abbrev at_spans : tie.After-slice_known-3-1 → tie.After-spans-nodes
at_spans c = (at_covers c).before.before.before.before

abbrev at_root : tie.After-slice_known-3-1 → tie.After-root_of-root
at_root c = (at_spans c).before.before

abbrev start : tie.After-root_of-root → tie.Start
start c = c.before.before.before.before.before

returns : tie.Need-returns-then-node_count-eq0
returns c =
    let p = parts c.before.before.before.before in
    (one_none (nodes_of p) (face_of p) p.root p.nodes p.faces (omega arith), refl)

-- both halves together, and the memory after them
answer : (c : tie.After-slice_known-3-1)
    → let p = parts (start (at_root c)) in
    ((at_spans c).spans-nodes.result && (at_covers c).covers-leaves.result) ≡ one_tree (nodes_of p) (face_of p) p.root p.nodes p.faces
answer c =
    let p = parts (start (at_root c)) in
    both_halves p (λ (z : p.nodes ≡ 0). omega arith) (at_root c).root_of-root.ensures (at_spans c).spans-nodes.ensures.0 (at_covers c).covers-leaves.ensures.0

memory : (c : tie.After-slice_known-3-1) → SamePast (at_covers c).covers-leaves.new.work (start (at_root c)).args.work.now
memory c = (at_covers c).covers-leaves.ensures.1 ∙ (at_spans c).spans-nodes.ensures.1

returns_2 : tie.Need-returns-then-nodes
returns_2 c = (both_first (at_spans c.before).spans-nodes.result _ c.if-nodes.true ∙ answer c.before, memory c.before)

returns_3 : tie.Need-returns-else-nodes
returns_3 c = (both_none _ (at_covers c.before).covers-leaves.result c.if-nodes.false ∙ answer c.before, memory c.before)

spans_requires : tie.Need-spans-nodes-requires
spans_requires c κs =
    let s = start c.before in
    (s.requires.0, (omega (arith, c.root_of-root.ensures, s.requires.0.1.root (omega arith)), s.requires.1))

pub one_tree_spec : {M : Type 1} → statement M
one_tree_spec =
    tie.close
    (tie.spec (search rules) returns (search rules) (search rules) spans_requires (λ c κs. search rules) (search rules) returns_2 (search rules) returns_3)
