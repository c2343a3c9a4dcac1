use Rattle.std.proofs.Common.{◌≡◌, ◌+◌, ◌-◌, ◌∙◌, sym, arith, drop, suc}
use Rattle.text.specs.Scan.{words}
use Rattle.text.proofs.SplitLaws.{cursor_first, cursor_others, cursor_within, get_d_others}
use Rattle.text.proofs.word.Goals as goal

pub loop-preserved : goal.loop-preserved
loop-preserved c =
    let l = c.args.l.now in
    let i = c.args.k - (c.loop.counter + 1) in
    let x = words (drop c.loop.at l) in
    let e : c.args.k - c.loop.counter ≡ suc i = omega arith in
    record {
      within = (cursor_within l _ _ _ c.skip_gap-b.ensures c.skip_word-at.ensures c.loop.invariant.within).2;
      same = c.loop.invariant.same ∙ rw (e, cursor_others l _ _ _ c.skip_gap-b.ensures c.skip_word-at.ensures) (sym (get_d_others x i));
    }

pub slice_bounds-result-end : goal.slice_bounds-result-end
slice_bounds-result-end c = omega (arith, cursor_within c.args.l.now _ _ _ c.skip_gap-a.ensures c.skip_word-e.ensures (omega arith))

pub returns : goal.returns
returns c =
    let e : c.args.k - c.loop.counter ≡ 0 = omega arith in
    cursor_first c.args.l.now _ _ _ c.skip_gap-a.ensures c.skip_word-e.ensures ∙ sym (c.loop.invariant.same ∙ rw e)
