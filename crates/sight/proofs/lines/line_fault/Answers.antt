-- Nothing of a blank line, else what is wrong with a line of a list, or with an observer's, which is asked about the observers so far.
use Rattle.std.proofs.Common.{sym, ◌∙◌}
use Rattle.sight.proofs.FaultLaws.{line_blank, line_seen, line_observer}
use Rattle.sight.proofs.lines.line_fault.Goals as goal

pub returns-then-word_count-eq0 : goal.returns-then-word_count-eq0
returns-then-word_count-eq0 c = line_blank _ _ _ _ _ (sym c.word_count.ensures ∙ c.if-word_count-eq0.true)

pub returns-then-st-gt0 : goal.returns-then-st-gt0
returns-then-st-gt0 c = c.seen_fault.ensures ∙ line_seen _ c.args.st _ _ _ (λ e. c.if-word_count-eq0.false (c.word_count.ensures ∙ e)) c.if-st-gt0.true

pub returns : goal.returns
returns c = c.observer_fault.ensures ∙ line_observer _ c.args.st _ _ _ (λ e. c.if-word_count-eq0.false (c.word_count.ensures ∙ e)) c.if-st-gt0.false
