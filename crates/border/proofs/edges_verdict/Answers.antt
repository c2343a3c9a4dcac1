-- Mark, and look for a border without a mark where no entry is wrong.
use Rattle.std.proofs.Common.{◌≡◌, ◌∙◌, refl, sym, ap, ap₂, arith, ℕ, ◌≤◌, Bool, List, length}
use Rattle.verdict.specs.Lowest.{lowest}
use Rattle.verdict.specs.Verdict.{rule}
use Rattle.verdict.specs.Refusals.{rule_at}
use Rattle.verdict.specs.Memory.{work_size, cleared_to, SamePast}
use Rattle.tables.specs.Header.{RightHeader}
use Rattle.border.specs.Memory.{marks_of}
use Rattle.verdict.proofs.Results.{past, first_under, nothing_at, none_lowest, each_by_first}
use Rattle.tables.specs.Parts.{parts_of}
use Rattle.tables.proofs.Reading.{sized_of}
use Rattle.pairs.specs.Halves.{halves}
use Rattle.pairs.proofs.Halves.{few_walkable}
use Rattle.border.specs.Loops.{wrong_edge, rule17}
use Rattle.border.proofs.Edges.{gap_missing, edges_rest}
use Rattle.border.proofs.edges_verdict.Goals as goal

pub refuse_at-requires : goal.refuse_at-requires
refuse_at-requires c = first_under _ _ _ _ c.mark_edges.ensures.answer (omega (arith, (sized_of _ c.requires.right_header.0).edges))

-- marking changes nothing past the work memory
kept : (b w v : List ℕ) → RightHeader b → work_size ≤ length w → v ≡ marks_of (parts_of b) (lowest (parts_of b).edges (wrong_edge (parts_of b))) (cleared_to (halves (parts_of b)) w) → SamePast v w
kept b w v r l marks = edges_rest (parts_of b) _ refl v w marks (omega (arith, few_walkable b r)) (omega (arith, few_walkable b r))

pub returns-in_err-refuse_at-clause-memory : goal.returns-in_err-refuse_at-clause-memory
returns-in_err-refuse_at-clause-memory c = kept c.args.bytes.now c.args.work.now c.mark_edges.new.work c.requires.right_header.0 c.requires.memory c.mark_edges.ensures.marks

pub returns-clause-memory : goal.returns-clause-memory
returns-clause-memory c = kept c.args.bytes.now c.args.work.now c.mark_edges.new.work c.requires.right_header.0 c.requires.memory c.mark_edges.ensures.marks

pub returns-clause-answer : goal.returns-clause-answer
unfolding rule17
returns-clause-answer c =
    let b = c.args.bytes.now in
    let p = parts_of b in
    let met = c.in_ok-refuse_at.ensures ∙ ap (rule_at 17) c.mark_edges.ensures.answer ∙ each_by_first 17 p.edges (wrong_edge p) in
    let none : lowest p.edges (wrong_edge p) ≡ p.edges = none_lowest p.edges (wrong_edge p) (sym (nothing_at 17 _ (omega arith) c.in_ok-refuse_at.ensures) ∙ c.mark_edges.ensures.answer) in
    let gap = gap_missing p _ refl c.mark_edges.new.work c.args.work.now c.mark_edges.ensures.marks (omega (arith, few_walkable b c.requires.right_header.0)) none in
    past met (c.refuse_if.ensures ∙ ap₂ (λ (t : Bool) (n : ℕ). rule 17 t n) (c.has_unmarked-missing.ensures ∙ gap) c.edges_of.ensures.0)
