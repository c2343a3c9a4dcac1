-- 33, 34, or what is wrong with the room.
use Rattle.std.proofs.Common.{sym, ap, ◌∙◌}
use Rattle.names.specs.Name.{is_name}
use Rattle.sight.proofs.FaultLaws.{seen_33, seen_34, seen_room}
use Rattle.sight.proofs.lines.seen_fault.Goals as goal

pub returns-then-word_count-ne1 : goal.returns-then-word_count-ne1
returns-then-word_count-ne1 c = seen_33 _ _ _ _ (λ e. c.if-word_count-ne1.true (c.word_count.ensures ∙ e))

pub returns-then-not-is_name : goal.returns-then-not-is_name
returns-then-not-is_name c =
    seen_34 _ _ _ _ (sym c.word_count.ensures ∙ c.if-word_count-ne1.false) (ap is_name (sym c.word.ensures) ∙ sym c.is_name.ensures ∙ c.if-not-is_name.true)

pub returns : goal.returns
returns c =
    c.room_fault.ensures
    ∙ seen_room _ _ _ _ (sym c.word_count.ensures ∙ c.if-word_count-ne1.false) (ap is_name (sym c.word.ensures) ∙ sym c.is_name.ensures ∙ c.if-not-is_name.false)
