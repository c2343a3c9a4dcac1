use Rattle.std.proofs.Common.{ap, arith, length}
use Rattle.text.proofs.SplitLaws.{behind_within, behind_gap, behind_words, words_past, word_within, word_passed}
use Rattle.text.proofs.word_count.Goals as goal

pub loop-at-init : goal.loop-at-init
loop-at-init c =
    let l = c.args.l.now in
    let within = behind_within l 0 _ c.skip_gap-at.ensures (omega arith) in
    let same = ap length (behind_words l 0 _ c.skip_gap-at.ensures) in
    record { within = omega arith; passed = omega arith; no_gap = behind_gap l 0 _ c.skip_gap-at.ensures; same = omega arith }

pub loop-at-smaller : goal.loop-at-smaller
loop-at-smaller c =
    let l = c.args.l.now in
    let word = word_within l _ _ c.loop-at.invariant.no_gap c.skip_word-e.ensures c.loop-at-test.true in
    let gap = behind_within l _ _ c.skip_gap-at-in-loop-at.ensures (omega arith) in
    omega arith

pub loop-at-preserved : goal.loop-at-preserved
loop-at-preserved c =
    let l = c.args.l.now in
    let word = word_within l _ _ c.loop-at.invariant.no_gap c.skip_word-e.ensures c.loop-at-test.true in
    let gap = behind_within l _ _ c.skip_gap-at-in-loop-at.ensures (omega arith) in
    let one = word_passed l _ _ c.loop-at.invariant.no_gap c.skip_word-e.ensures c.loop-at-test.true in
    let same = ap length (behind_words l _ _ c.skip_gap-at-in-loop-at.ensures) in
    record { within = omega arith; passed = omega arith; no_gap = behind_gap l _ _ c.skip_gap-at-in-loop-at.ensures; same = omega arith }

pub returns : goal.returns
returns c = let none = ap length (words_past c.args.l.now c.loop-at.at c.loop-at-test.false) in omega arith
