-- Each line in turn, up to the first that has a fault; a line ends within the text.
use Rattle.std.proofs.Common.{arith, refl, subst, ◌+◌, ℕ}
use Rattle.verdict.proofs.Results.{number_positive}
use Rattle.layout.proofs.ScanLaws.{line_ends, line_inside}
use Rattle.sight.specs.Code.{kept_names}
use Rattle.sight.proofs.FindLaws.{names_long}
use Rattle.sight.proofs.TurnLaws.{Reader, begun, turn_stops, turn_more, ends_early, ends_right}
use Rattle.sight.proofs.read_lines.Goals as goal

pub loop-at-init : goal.loop-at-init
loop-at-init c = begun _ _

pub returns-in-Err : goal.returns-in-Err
returns-in-Err c =
    turn_stops _ _ _ _ _ _ _ c.loop-at.invariant c.loop-at-test.true c.line_at-l.ensures _ c.in-Err.ensures.answer (λ z. absurd (omega (arith, number_positive c.in-Err.refusal, z)))

pub overflow_add-at : goal.overflow_add-at
overflow_add-at c = omega (arith, line_inside _ _ _ c.line_at-l.ensures c.loop-at-test.true)

pub loop-at-smaller : goal.loop-at-smaller
loop-at-smaller c = omega (arith, line_inside _ _ _ c.line_at-l.ensures c.loop-at-test.true)

pub loop-at-preserved : goal.loop-at-preserved
loop-at-preserved c =
    let l = c.line_at-l.ensures in
    let next = turn_more _ _ _ _ _ _ _ c.loop-at.invariant c.loop-at-test.true l _ c.in-Ok.ensures.answer refl _ _ (omega (arith, c.requires.1.few, names_long _ _ _ c.requires.1)) c.in-Ok.ensures.marks (line_ends _ _ _ l) in
    subst (λ (k : ℕ). Reader (kept_names c.args.layout.now c.args.starts.now c.args.n) c.args.s.now c.turn-turned.new.rows c.in-Ok.next (c.loop-at.passed + 1) k) (omega arith) next

pub returns-then-st-ne0 : goal.returns-then-st-ne0
returns-then-st-ne0 c = ends_early _ _ _ _ _ _ c.loop-at.invariant c.loop-at-test.false c.if-st-ne0.true

pub returns : goal.returns
returns c = ends_right _ _ _ _ _ _ c.loop-at.invariant c.loop-at-test.false (omega (arith, c.if-st-ne0.false))
