-- `sight::lines::room_of` meets its contract. Assumes nothing.
use mathlib.Core.Path.{sym, ◌∙◌}
use Rattle.sight.proofs.FindLaws.{no_name_no_room}
use borrow.Author.Rules.{rules}
use Rattle.sight.proofs.lines.room_of.Statement.{statement}
use Rattle.sight.proofs.lines.room_of.Tie as tie

find_room_requires : tie.Need-find_room-requires
find_room_requires c κs = (c.requires, sym c.is_name.ensures ∙ c.if-is_name.true)

returns : tie.Need-returns-then-is_name
returns c = c.find_room.ensures

returns_2 : tie.Need-returns
returns_2 c = no_name_no_room _ _ _ c.requires _ (sym c.is_name.ensures ∙ c.if-is_name.false)

pub room_of_spec : {M : Type 1} → statement M
room_of_spec = tie.close (tie.spec (search rules) find_room_requires returns returns_2)
