-- The row that was read, or the refusal with an empty row.
use Rattle.std.specs.declared.result.Result.TheVariants.{Ok}
use Rattle.sight.specs.Code.{told_sight}
use Rattle.sight.proofs.AnswerLaws.{row_told, no_row_told}
use Rattle.sight.proofs.sight_row.Goals as goal

pub returns-in-Ok : goal.returns-in-Ok
returns-in-Ok c = rw c.row_of-row.ensures (row_told _ _ _ (told_sight (Ok c.in-Ok.rows)) c.in-Ok.ensures)

pub returns-in-Err : goal.returns-in-Err
returns-in-Err c = rw c.number.ensures (no_row_told _ _ _ c.in-Err.refused c.in-Err.ensures)
