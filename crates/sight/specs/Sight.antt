-- Visibility against a layout: its verdict (the layout's refusals, then rules 31 to 39), and its rows. Definitions only.
use Rattle.std.specs.Prelude.{ℕ, cond, List, eqb, get_or}
use Rattle.std.specs.Int.Count.{ones}
use Rattle.verdict.specs.declared.Answer.{Answer}
use Rattle.verdict.specs.Verdict.{◌then◌}
use Rattle.text.specs.Sound.{rules31to32}
use Rattle.text.specs.Written.{word_lines}
use Rattle.text.specs.Reading.{Word, read_lines}
use Rattle.layout.specs.Layout.{layout_verdict}
use Rattle.rooms.specs.Rooms.{room_names}
use Rattle.sight.specs.declared.Row.{Row}
use Rattle.sight.specs.Rows.{no_rows}
use Rattle.sight.specs.Grammar.{Reading, start, sight_grammar}

-- what the grammar says of a text, by the names of the rooms
unfoldable pub grammar : List Word → List ℕ → Reading
grammar names s = read_lines (sight_grammar names) 0 start (word_lines s)

-- the layout's refusals, rules 31 and 32, then 33 to 39
unfoldable pub sight_verdict : List ℕ → List ℕ → Answer
sight_verdict layout s = layout_verdict layout then rules31to32 s then (grammar (room_names layout) s).verdict

-- the rows of the 64 rooms, all 0 on refusal
unfoldable pub rows_of : List ℕ → List ℕ → List ℕ
rows_of layout s = cond (eqb (sight_verdict layout s).number 0) (grammar (room_names layout) s).rows no_rows

-- what is told of visibility: a verdict, and the rows
pub record ToldSight : Type 0 where
  pub number : ℕ
  pub place : ℕ
  pub rows : List ℕ

-- the two together
unfoldable pub sight_of : List ℕ → List ℕ → ToldSight
sight_of layout s = record { number = (sight_verdict layout s).number; place = (sight_verdict layout s).place; rows = rows_of layout s }

-- a room's row, and the number of rooms seen: the count of its set marks. Both are 0 on refusal and for no room
unfoldable pub row_answer : List ℕ → List ℕ → ℕ → Row
row_answer layout s room = record {
  number = (sight_verdict layout s).number;
  place = (sight_verdict layout s).place;
  row = get_or (rows_of layout s) room 0;
  seen = ones (get_or (rows_of layout s) room 0);
}
