-- `rooms::room_name` meets its contract. Assumes nothing.
use Rattle.rooms.proofs.RoomLaws.{kept_some_name, kept_no_name}
use borrow.Author.Rules.{rules}
use Rattle.rooms.proofs.room_name.Statement.{statement}
use Rattle.rooms.proofs.room_name.Tie as tie

returns : tie.Need-returns-then-k-starts
returns c = kept_some_name _ _ _ _ _ c.if-k-starts.true c.line_at.ensures c.word.ensures

returns_2 : tie.Need-returns
returns_2 c = kept_no_name _ _ _ c.if-k-starts.false

pub room_name_spec : {M : Type 1} → statement M
room_name_spec =
    tie.close
    (tie.spec (search rules) (search rules) (search rules) (search rules) returns (search rules) returns_2)
