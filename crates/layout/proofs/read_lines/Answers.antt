-- Each line in turn, up to the first that has a fault; a line ends within the text.
use Rattle.std.proofs.Common.{arith, refl, ap, subst, ◌∙◌, ◌≡◌, ◌+◌, ℕ, List}
use Rattle.verdict.proofs.Results.{number_positive}
use Rattle.text.specs.Scan.{words, line_at}
use Rattle.layout.specs.Grammar.{State, fault}
use Rattle.layout.proofs.StepLaws.{slot_inside}
use Rattle.layout.proofs.ScanLaws.{Reader, reader, line_ends, line_inside, kept_so_far, turn_stops, turn_more, ends_early, ends_right}
use Rattle.layout.proofs.read_lines.Goals as goal

-- what is wrong with the line in hand is what is wrong with the line that starts there
there : (n : ℕ) (st : State) (s l : List ℕ) (at : ℕ) → l ≡ line_at s at → n ≡ fault st (words l) → n ≡ fault st (words (line_at s at))
there n st s l at e f = f ∙ ap (λ (z : List ℕ). fault st (words z)) e

pub loop-at-init : goal.loop-at-init
loop-at-init c = reader _

pub line_fault-fault-requires : goal.line_fault-fault-requires
line_fault-fault-requires c = kept_so_far _ _ _ _ _ c.loop-at.invariant

pub returns-in-Err : goal.returns-in-Err
returns-in-Err c =
    turn_stops _ _ _ _ _ _ c.loop-at.invariant c.loop-at-test.true (there _ _ _ _ _ c.line_at-l.ensures c.in-Err.ensures) _ (λ z. absurd (omega (arith, number_positive c.in-Err.refusal, z))) refl

pub keep-requires : goal.keep-requires
keep-requires c = let v = c.loop-at.invariant in (v.fits, slot_inside _ _ _ v.sized v.fits v.good)

pub overflow_add-at : goal.overflow_add-at
overflow_add-at c = omega (arith, line_inside _ _ _ c.line_at-l.ensures c.loop-at-test.true)

pub loop-at-smaller : goal.loop-at-smaller
loop-at-smaller c = omega (arith, line_inside _ _ _ c.line_at-l.ensures c.loop-at-test.true)

pub loop-at-preserved : goal.loop-at-preserved
loop-at-preserved c =
    let l = c.line_at-l.ensures in
    let met = there _ _ _ _ _ l c.in_default.ensures in
    let next = turn_more _ _ _ _ _ _ c.loop-at.invariant c.loop-at-test.true met _ _ _ _ refl c.keep.ensures l c.moved-st.ensures (line_ends _ _ _ l) in
    subst (λ (k : ℕ). Reader c.args.s.now c.keep.new.starts c.moved-st.result (c.loop-at.passed + 1) k) (omega arith) next

pub returns-then-st-ne6 : goal.returns-then-st-ne6
returns-then-st-ne6 c = ends_early _ _ _ _ _ c.loop-at.invariant c.loop-at-test.false _ c.if-st-ne6.true refl

pub returns : goal.returns
returns c = ends_right _ _ _ _ _ c.loop-at.invariant c.loop-at-test.false c.if-st-ne6.false
