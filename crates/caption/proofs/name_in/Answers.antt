-- A refused text has no rooms; of another the reader keeps each room's start.
use Rattle.std.proofs.Common.{arith, sym}
use Rattle.layout.specs.Starts.{no_layout, told_layout}
use Rattle.rooms.proofs.RoomLaws.{rooms_kept}
use Rattle.caption.proofs.CaptionLaws.{has_it, has_none, its_name}
use Rattle.caption.proofs.name_in.Goals as goal

pub returns-in_default-clause-there : goal.returns-in_default-clause-there
unfolding no_layout
returns-in_default-clause-there c = sym (has_none _ _ c.in_default.ensures _ (omega arith))

pub returns-then-r-i-clause-there : goal.returns-then-r-i-clause-there
returns-then-r-i-clause-there c = sym (has_none _ (told_layout c.in-Ok.r) c.in-Ok.ensures _ c.if-r-i.true)

pub offset_bounds-r-i : goal.offset_bounds-r-i
offset_bounds-r-i c = omega (arith, (rooms_kept _ (told_layout c.in-Ok.r) c.in-Ok.ensures).few, c.if-r-i.false)

pub bounds-r-i : goal.bounds-r-i
bounds-r-i c = omega (arith, (rooms_kept _ (told_layout c.in-Ok.r) c.in-Ok.ensures).few, c.if-r-i.false)

pub returns-clause-name : goal.returns-clause-name
returns-clause-name c =
    let r = told_layout c.in-Ok.r in
    (has_it _ r c.in-Ok.ensures _ c.if-r-i.false, its_name _ r c.in-Ok.ensures _ _ _ c.if-r-i.false c.line_at.ensures c.word.ensures)

pub returns-clause-there : goal.returns-clause-there
returns-clause-there c = sym (has_it _ (told_layout c.in-Ok.r) c.in-Ok.ensures _ c.if-r-i.false)
