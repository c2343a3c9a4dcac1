-- One entry more: it is wrong, or its border is marked.
use Rattle.std.proofs.Common.{◌≡◌, ◌∙◌, sym, ap, subst, arith, ℕ, ◌≤◌, length}
use Rattle.verdict.specs.Lowest.{lowest}
use Rattle.verdict.specs.Memory.{cleared_to}
use Rattle.verdict.proofs.Lowest.{lowest_none, lowest_more, lowest_hit}
use Rattle.verdict.proofs.Results.{found_first, no_first}
use Rattle.tables.specs.Parts.{parts_of}
use Rattle.pairs.specs.Halves.{halves}
use Rattle.pairs.proofs.Halves.{few_walkable}
use Rattle.border.specs.Loops.{wrong_edge}
use Rattle.border.specs.Memory.{marks_of}
use Rattle.border.proofs.Marks.{marks_none, marks_more, told_by, edge_in}
use Rattle.border.proofs.mark_edges.Goals as goal

pub loop-i-init : goal.loop-i-init
loop-i-init c = record { none = lowest_none _; marks = marks_none _ _ }

pub returns-then-wrong_by : goal.returns-then-wrong_by
returns-then-wrong_by c =
    let p = parts_of c.args.bytes.now in
    let w = c.args.work.now in
    let l = c.loop-i in
    let long : halves p ≤ length w = omega (arith, few_walkable c.args.bytes.now c.requires.right_header.0) in
    let cleared : c.clear_to.new.work ≡ cleared_to (halves p) w = c.clear_to.ensures ∙ ap (λ (n : ℕ). cleared_to n w) c.halves_of.ensures.0 in
    let told = told_by p w _ long cleared l.i l.work c.wrong_by.result l.invariant.marks c.wrong_by.ensures in
    let found : lowest p.edges (wrong_edge p) ≡ l.i = lowest_hit _ _ _ l.invariant.none (told ∙ c.if-wrong_by.true) (omega arith) in
    record {
      answer = found_first _ _ _ (sym found) (omega arith);
      marks = rw found (l.invariant.marks ∙ ap (marks_of p l.i) cleared);
    }

pub bounds-work-edge_of : goal.bounds-work-edge_of
bounds-work-edge_of c =
    let p = parts_of c.args.bytes.now in
    let w = c.args.work.now in
    let l = c.loop-i in
    let long : halves p ≤ length w = omega (arith, few_walkable c.args.bytes.now c.requires.right_header.0) in
    let cleared : c.clear_to.new.work ≡ cleared_to (halves p) w = c.clear_to.ensures ∙ ap (λ (n : ℕ). cleared_to n w) c.halves_of.ensures.0 in
    let told = told_by p w _ long cleared l.i l.work c.wrong_by.result l.invariant.marks c.wrong_by.ensures in
    omega (arith, edge_in p l.i (told ∙ c.if-wrong_by.false))

pub loop-i-preserved : goal.loop-i-preserved
loop-i-preserved c =
    let p = parts_of c.args.bytes.now in
    let w = c.args.work.now in
    let l = c.loop-i in
    let long : halves p ≤ length w = omega (arith, few_walkable c.args.bytes.now c.requires.right_header.0) in
    let cleared : c.clear_to.new.work ≡ cleared_to (halves p) w = c.clear_to.ensures ∙ ap (λ (n : ℕ). cleared_to n w) c.halves_of.ensures.0 in
    let told = told_by p w _ long cleared l.i l.work c.wrong_by.result l.invariant.marks c.wrong_by.ensures in
    record {
      none = lowest_more _ _ l.invariant.none (told ∙ c.if-wrong_by.false);
      marks = rw (c.edge_of.ensures, l.invariant.marks) (marks_more _ _ _);
    }

pub returns : goal.returns
returns c =
    let p = parts_of c.args.bytes.now in
    let w = c.args.work.now in
    let l = c.loop-i in
    let cleared : c.clear_to.new.work ≡ cleared_to (halves p) w = c.clear_to.ensures ∙ ap (λ (n : ℕ). cleared_to n w) c.halves_of.ensures.0 in
    let end : l.i ≡ p.edges = omega arith in
    let none : lowest p.edges (wrong_edge p) ≡ p.edges = subst (λ (k : ℕ). lowest k (wrong_edge p) ≡ k) end l.invariant.none in
    record {
      answer = no_first _ _ none;
      marks = l.invariant.marks ∙ ap (marks_of p l.i) cleared ∙ ap (λ (k : ℕ). marks_of p k (cleared_to (halves p) w)) (end ∙ sym none);
    }
