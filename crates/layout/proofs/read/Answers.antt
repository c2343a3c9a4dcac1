-- The refusals of 31 and 32, and then what the lines say.
use Rattle.std.proofs.lemmas.Result.{err_from_is_err_and}
use Rattle.verdict.proofs.Results.{accepts}
use Rattle.text.proofs.SoundLaws.{sound_length}
use Rattle.layout.proofs.AnsweredLaws.{refusal_read, found_read}
use Rattle.layout.proofs.read.Goals as goal

pub returns-in_err-sound_verdict : goal.returns-in_err-sound_verdict
returns-in_err-sound_verdict c =
    let p = err_from_is_err_and c.from_residual.result c.from_residual.ensures.1 in
    rw (p.1, p.2) (refusal_read _ _ c.in_err-sound_verdict.ensures)

pub read_lines-requires : goal.read_lines-requires
read_lines-requires c = sound_length _ (accepts c.in_ok-sound_verdict.ensures)

pub returns : goal.returns
returns c = found_read _ (accepts c.in_ok-sound_verdict.ensures) _ c.read_lines.ensures
