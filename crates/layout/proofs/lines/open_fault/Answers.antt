-- 33, and 36 where the count is none.
use Rattle.std.proofs.Common.{true, false}
use Rattle.layout.proofs.LineLaws.{open_nothing, open_unlike, open_single, open_counted}
use Rattle.layout.proofs.lines.open_fault.Goals as goal

pub returns-then-k-eq0 : goal.returns-then-k-eq0
returns-then-k-eq0 c = open_nothing _ _ c.if-k-eq0.true

pub returns-then-word_count-n : goal.returns-then-word_count-n
returns-then-word_count-n c = open_unlike _ _ _ _ c.words_of-n.ensures c.word_count.ensures c.if-k-eq0.false c.if-word_count-n.true

pub returns-then-n-eq1 : goal.returns-then-n-eq1
returns-then-n-eq1 c = open_single _ _ _ _ c.words_of-n.ensures c.word_count.ensures c.if-k-eq0.false c.if-word_count-n.false c.if-n-eq1.true

pub returns-then-is_count : goal.returns-then-is_count
returns-then-is_count c =
    open_counted _ _ _ _ c.words_of-n.ensures c.word_count.ensures c.if-k-eq0.false _ _ true c.if-word_count-n.false c.if-n-eq1.false c.word.ensures c.is_count.ensures c.if-is_count.true

pub returns : goal.returns
returns c =
    open_counted _ _ _ _ c.words_of-n.ensures c.word_count.ensures c.if-k-eq0.false _ _ false c.if-word_count-n.false c.if-n-eq1.false c.word.ensures c.is_count.ensures c.if-is_count.false
