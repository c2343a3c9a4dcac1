-- Nothing of a blank line, else what is wrong with an entry, or with a line that opens a section.
use Rattle.layout.specs.Starts.{state_of}
use Rattle.layout.proofs.FaultLaws.{fault_blank, fault_entry, fault_open}
use Rattle.layout.proofs.lines.line_fault.Goals as goal

pub returns-then-word_count-eq0 : goal.returns-then-word_count-eq0
returns-then-word_count-eq0 c = fault_blank _ _ _ c.word_count.ensures c.if-word_count-eq0.true

pub returns-then-st-gt0 : goal.returns-then-st-gt0
unfolding state_of
returns-then-st-gt0 c = fault_entry _ _ _ c.word_count.ensures _ c.if-word_count-eq0.false c.if-st-gt0.true c.entry_fault.ensures

pub returns : goal.returns
unfolding state_of
returns c = fault_open _ _ _ c.word_count.ensures _ _ _ c.if-word_count-eq0.false c.if-st-gt0.false c.word.ensures c.opened.ensures c.open_fault.ensures
