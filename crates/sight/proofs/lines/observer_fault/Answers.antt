-- 33, 34, 36, or what is wrong with the room.
use Rattle.std.proofs.Common.{sym, ap, ◌∙◌}
use Rattle.names.specs.Name.{is_name}
use Rattle.number.specs.Count.{is_count}
use Rattle.sight.proofs.FaultLaws.{observer_33, observer_34, observer_36, observer_room}
use Rattle.sight.proofs.lines.observer_fault.Goals as goal

pub returns-then-word_count-ne2 : goal.returns-then-word_count-ne2
returns-then-word_count-ne2 c = observer_33 _ _ _ _ (λ e. c.if-word_count-ne2.true (c.word_count.ensures ∙ e))

pub returns-then-not-is_name : goal.returns-then-not-is_name
returns-then-not-is_name c =
    observer_34 _ _ _ _ (sym c.word_count.ensures ∙ c.if-word_count-ne2.false) (ap is_name (sym c.word.ensures) ∙ sym c.is_name.ensures ∙ c.if-not-is_name.true)

pub returns-then-not-is_count : goal.returns-then-not-is_count
returns-then-not-is_count c =
    observer_36 _ _ _ _ (sym c.word_count.ensures ∙ c.if-word_count-ne2.false) (ap is_name (sym c.word.ensures) ∙ sym c.is_name.ensures ∙ c.if-not-is_name.false) (ap is_count (sym c.word-2.ensures) ∙ sym c.is_count.ensures ∙ c.if-not-is_count.true)

pub returns : goal.returns
returns c =
    c.room_fault.ensures
    ∙ observer_room _ _ _ _ (sym c.word_count.ensures ∙ c.if-word_count-ne2.false) (ap is_name (sym c.word.ensures) ∙ sym c.is_name.ensures ∙ c.if-not-is_name.false) (ap is_count (sym c.word-2.ensures) ∙ sym c.is_count.ensures ∙ c.if-not-is_count.false)
