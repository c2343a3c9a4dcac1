use Rattle.std.proofs.Common.{◌≡◌, ◌+◌, ◌-◌, ◌∙◌, sym, refl, arith, suc}
use Rattle.letters.specs.Class.{is_end}
use Rattle.text.proofs.SplitLaws.{piece_within, line_cut, line_none, line_first}
use Rattle.text.proofs.line.Goals as goal

pub returns-then-s-at : goal.returns-then-s-at
returns-then-s-at c = sym (c.loop.invariant ∙ rw (line_none c.args.s.now c.loop.at c.if-s-at.true))

pub overflow_add-at : goal.overflow_add-at
overflow_add-at c = omega (arith, piece_within is_end c.args.s.now _ _ c.line_end-at.ensures (omega arith))

pub loop-preserved : goal.loop-preserved
loop-preserved c =
    let n : c.args.k - c.loop.counter ≡ suc (c.args.k - (c.loop.counter + 1)) = omega arith in
    c.loop.invariant ∙ rw (n, line_cut c.args.s.now c.loop.at _ c.line_end-at.ensures c.if-s-at.false) refl

pub returns : goal.returns
returns c =
    let n : c.args.k - c.loop.counter ≡ 0 = omega arith in
    sym (c.loop.invariant ∙ rw (n, ← line_first c.args.s.now c.loop.at, c.line_at.ensures) refl)
