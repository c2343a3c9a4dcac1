-- `covers`: clear, mark and look; then the same answer and memory by both ways out. Assumes nothing.
use borrow.Author.Rules.{rules}
use Prim.Native.Nat.{ℕ}
use native.Mathlib.Omega.{arith}
use mathlib.Core.Path.{ap, ◌∙◌}
use mathlib.Core.List.{List}
use Rattle.verdict.specs.Lowest.{all_under}
use Rattle.verdict.specs.Memory.{cleared_to, is_marked}
use Rattle.verdict.proofs.Lists.{NoneFrom}
use Rattle.tables.specs.Parts.{Parts, parts_of}
use Rattle.nodes.specs.Nodes.{nodes_of, face_of}
use Rattle.tree.specs.Tree.{leaf_faces}
use Rattle.tree.proofs.Rule13.{Half, leaves_within, both_first, both_none, half_memory, half_once}
use Rattle.tree.proofs.covers.Statement.{statement}
use Rattle.tree.proofs.covers.Tie as tie

-- seen from the last step: the marking, the start, the floor's parts and what is marked
abbrev at_mark_faces : tie.After-all_marked-full → tie.After-mark_faces-apart
at_mark_faces c = c.before.before.before

abbrev start : tie.After-all_marked-full → tie.Start
start c = (at_mark_faces c).before.before.before.before.before.before.before.before.before

abbrev parts : tie.After-all_marked-full → Parts
parts c = parts_of (start c).args.bytes.now

abbrev list : tie.After-all_marked-full → List ℕ
list c = leaf_faces (nodes_of (parts c)) (face_of (parts c)) (parts c).nodes

inside : (c : tie.After-all_marked-full) → NoneFrom (parts c).faces (list c)
inside c = leaves_within (parts c) (start c).requires.0.1

half : (c : tie.After-all_marked-full)
    → Half (list c) (parts c).faces (start c).args.work.now (at_mark_faces c).mark_faces-apart.new.work (at_mark_faces c).mark_faces-apart.result c.all_marked-full.result
half c =
    let mark = (at_mark_faces c).mark_faces-apart in
    let at_clear = (at_mark_faces c).before.before.before.before in
    let clear = at_clear.clear_to in
    let count = at_clear.face_count-faces.ensures in
    record {
      w₁ = clear.new.work;
      few = omega (arith, count);
      room = (start c).requires.1;
      cleared = clear.ensures ∙ ap (λ (n : ℕ). cleared_to n (start c).args.work.now) count.0;
      walked = mark.ensures.0;
      marks = mark.ensures.1;
      full = c.all_marked-full.ensures ∙ ap (λ (n : ℕ). all_under n (is_marked mark.new.work)) count.0;
    }

returns : tie.Need-returns-then-apart
returns c =
    let d = c.before in
    (both_first _ _ c.if-apart.true ∙ half_once _ _ _ _ _ _ (inside d) (half d), half_memory _ _ _ _ _ _ (inside d) (half d))

returns_2 : tie.Need-returns-else-apart
returns_2 c =
    let d = c.before in
    (both_none _ d.all_marked-full.result c.if-apart.false ∙ half_once _ _ _ _ _ _ (inside d) (half d), half_memory _ _ _ _ _ _ (inside d) (half d))

pub covers_spec : {M : Type 1} → statement M
covers_spec =
    tie.close (tie.spec (search rules) (search rules) (λ c κs. search rules) (search rules) (search rules) returns (search rules) returns_2)
