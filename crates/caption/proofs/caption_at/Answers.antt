-- The visitor's text, then the house text, then neither; a text that has a room is not too long, and the room's name is short.
use Rattle.std.proofs.Common.{sym}
use Rattle.names.proofs.NameLaws.{name_long}
use Rattle.caption.proofs.PlaceLaws.{room_read, place_first, place_second, place_41}
use Rattle.caption.proofs.Promises.{room_has_name}
use Rattle.caption.proofs.caption_at.Goals as goal

pub found_in-requires : goal.found_in-requires
found_in-requires c =
    let q = c.in-Some.ensures.name in
    (room_read _ _ q.0, rw q.1 (name_long _ (room_has_name _ _ q.0)).1)

pub returns-in-Some : goal.returns-in-Some
returns-in-Some c = place_first _ _ _ _ _ c.in-Some.ensures.name.0 c.in-Some.ensures.name.1 c.found_in.ensures

pub found_in-requires-in-Some-name_in : goal.found_in-requires-in-Some-name_in
found_in-requires-in-Some-name_in c =
    let q = c.in-Some-name_in.ensures.name in
    (room_read _ _ q.0, rw q.1 (name_long _ (room_has_name _ _ q.0)).1)

pub returns-in-Some-name_in : goal.returns-in-Some-name_in
returns-in-Some-name_in c =
    let q = c.in-Some-name_in.ensures.name in
    place_second _ _ _ _ _ (sym c.in_default.ensures.there) q.0 q.1 c.found_in-in-Some-name_in.ensures

pub returns : goal.returns
returns c = place_41 _ _ _ (sym c.in_default.ensures.there) (sym c.in_default-name_in.ensures.there)
