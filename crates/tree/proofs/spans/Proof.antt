-- `spans`: clear, mark and look; then the same answer and memory by both ways out. Assumes nothing.
use borrow.Author.Rules.{rules}
use Prim.Native.Nat.{ℕ}
use native.Mathlib.Omega.{arith}
use mathlib.Core.Path.{refl, ap, ◌∙◌}
use mathlib.Core.List.{List}
use Rattle.verdict.specs.Lowest.{all_under}
use Rattle.verdict.specs.Memory.{cleared_to, is_marked}
use Rattle.verdict.proofs.Lists.{NoneFrom}
use Rattle.tables.specs.Parts.{Parts, parts_of}
use Rattle.nodes.specs.Nodes.{nodes_of}
use Rattle.tree.specs.Trail.{trail}
use Rattle.tree.proofs.Rule13.{Half, kids, nodes_within, both_first, both_none, half_memory, half_spans}
use Rattle.tree.proofs.spans.Statement.{statement}
use Rattle.tree.proofs.spans.Tie as tie

-- seen from the last step: the marking, the start, the floor's parts and what is marked
abbrev at_walk : tie.After-all_marked-full → tie.After-walk-walked
at_walk c = c.before.before.before

abbrev start : tie.After-all_marked-full → tie.Start
start c = (at_walk c).before.before.before.before.before.before.before.before.before

abbrev parts : tie.After-all_marked-full → Parts
parts c = parts_of (start c).args.bytes.now

abbrev list : tie.After-all_marked-full → List ℕ
list c = trail (nodes_of (parts c)) 64 (start c).args.root

inside : (c : tie.After-all_marked-full) → NoneFrom (parts c).nodes (list c)
inside c = nodes_within (parts c) (start c).requires.0.1 64 (start c).args.root (start c).requires.1.0

half : (c : tie.After-all_marked-full)
    → Half (list c) (parts c).nodes (start c).args.work.now (at_walk c).walk-walked.new.work (at_walk c).walk-walked.result c.all_marked-full.result
half c =
    let mark = (at_walk c).walk-walked in
    let at_clear = (at_walk c).before.before.before.before in
    let clear = at_clear.clear_to in
    let count = at_clear.node_count-nodes.ensures in
    record {
      w₁ = clear.new.work;
      few = omega (arith, count);
      room = (start c).requires.1.1;
      cleared = clear.ensures ∙ ap (λ (n : ℕ). cleared_to n (start c).args.work.now) count.0;
      walked = mark.ensures.0;
      marks = mark.ensures.1;
      full = c.all_marked-full.ensures ∙ ap (λ (n : ℕ). all_under n (is_marked mark.new.work)) count.0;
    }

returns : tie.Need-returns-then-walked
returns c =
    let d = c.before in
    (both_first _ _ c.if-walked.true ∙ half_spans _ _ _ _ _ _ (inside d) (half d) (nodes_of (parts d)) (start d).args.root (kids (parts d) (start d).requires.0.1) (start d).requires.1.0 refl, half_memory _ _ _ _ _ _ (inside d) (half d))

returns_2 : tie.Need-returns-else-walked
returns_2 c =
    let d = c.before in
    (both_none _ d.all_marked-full.result c.if-walked.false ∙ half_spans _ _ _ _ _ _ (inside d) (half d) (nodes_of (parts d)) (start d).args.root (kids (parts d) (start d).requires.0.1) (start d).requires.1.0 refl, half_memory _ _ _ _ _ _ (inside d) (half d))

pub spans_spec : {M : Type 1} → statement M
spans_spec =
    tie.close (tie.spec (search rules) (search rules) (λ c κs. search rules) (search rules) (search rules) returns (search rules) returns_2)
