-- `layout::lines::slot` meets its contract. Assumes nothing.
use Rattle.layout.proofs.HeldLaws.{slot_room, slot_track, slot_obstacle, slot_hook}
use borrow.Author.Rules.{rules}
use Rattle.layout.proofs.lines.slot.Statement.{statement}
use Rattle.layout.proofs.lines.slot.Tie as tie

returns : tie.Need-returns-then-st-eq2
returns c = slot_room _ c.if-st-eq2.true

returns_2 : tie.Need-returns-then-st-eq3
returns_2 c = let d = c.before in slot_track _ d.if-st-eq2.false d.if-st-eq3.true

returns_3 : tie.Need-returns-then-st-eq4
returns_3 c =
    let d = c.before in
    let b = d.before.before in
    slot_obstacle _ b.if-st-eq2.false b.if-st-eq3.false d.if-st-eq4.true

returns_4 : tie.Need-returns
returns_4 c =
    let d = c.before in
    let b = d.before.before in
    slot_hook _ b.if-st-eq2.false b.if-st-eq3.false d.if-st-eq4.false

pub slot_spec : {M : Type 1} → statement M
slot_spec = tie.close (tie.spec returns (search rules) returns_2 (search rules) returns_3 (search rules) returns_4)
