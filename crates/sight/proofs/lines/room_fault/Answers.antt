-- 37, 39, or nothing.
use Rattle.std.proofs.Common.{arith, sym, ◌∙◌}
use Rattle.sight.proofs.FaultLaws.{room_37, room_39, room_right}
use Rattle.sight.proofs.lines.room_fault.Goals as goal

pub returns-then-is_seen : goal.returns-then-is_seen
returns-then-is_seen c = room_37 _ _ _ (sym c.is_seen.ensures ∙ c.if-is_seen.true)

pub returns-then-room-n : goal.returns-then-room-n
returns-then-room-n c = room_39 _ _ _ (sym c.is_seen.ensures ∙ c.if-is_seen.false) (omega (arith, c.if-room-n.true))

pub returns : goal.returns
returns c = room_right _ _ _ (sym c.is_seen.ensures ∙ c.if-is_seen.false) (λ e. omega (arith, c.if-room-n.false))
