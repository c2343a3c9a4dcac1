-- The cursor stands at a word or at the line's end; the words passed and those from there on are the line's.
use Rattle.std.proofs.Common.{◌≡◌, ◌+◌, ◌-◌, ◌≤◌, length, drop}
use Rattle.letters.specs.Class.{is_gap}
use Rattle.text.specs.Scan.{run, words}
use Rattle.text.proofs.word_count.Given as goal

abbrev pub invariant-loop-at : goal.invariant-loop-at
invariant-loop-at l = record {
  within : l.at ≤ length l.l;
  passed : l.n ≤ l.at;
  no_gap : run is_gap (drop l.at l.l) ≡ 0;
  same : l.n + length (words (drop l.at l.l)) ≡ length (words l.l);
}

abbrev pub decreases-loop-at : goal.decreases-loop-at
decreases-loop-at l = length l.l - l.at
