-- The layout's refusal, 31 and 32, and then what the lines say.
use Rattle.std.proofs.Common.{sym, ap, ◌∙◌, ◌≡◌}
use Rattle.std.specs.declared.result.Result.TheVariants.{Ok}
use Rattle.std.proofs.lemmas.Result.{err_from_is_err_and}
use Rattle.verdict.proofs.Results.{accepts}
use Rattle.verdict.specs.Refusals.{verdict_of}
use Rattle.text.proofs.SoundLaws.{sound_length}
use Rattle.layout.specs.Starts.{told, told_layout, layout_read}
use Rattle.layout.proofs.AnsweredLaws.{verdict_told}
use Rattle.rooms.proofs.RoomLaws.{rooms_kept}
use Rattle.sight.proofs.AnswerLaws.{unread, unsound, sound}
use Rattle.sight.proofs.look.Goals as goal

pub returns-in_err-r : goal.returns-in_err-r
returns-in_err-r c =
    let p = err_from_is_err_and c.from_residual.result c.from_residual.ensures.1 in
    rw (p.1, p.2) (unread _ _ _ (ap verdict_of (sym c.in_err-r.was) ∙ verdict_told _ c.args.read c.requires))

pub returns-in_err-sound_verdict : goal.returns-in_err-sound_verdict
returns-in_err-sound_verdict c =
    let p = err_from_is_err_and c.from_residual-in_err-sound_verdict.result c.from_residual-in_err-sound_verdict.ensures.1 in
    let q : told_layout c.in_ok-r.r ≡ layout_read c.args.layout.now = sym (ap told c.in_ok-r.was) ∙ c.requires in
    rw (p.1, p.2) (unsound _ _ _ (verdict_told _ (Ok c.in_ok-r.r) q) c.in_err-sound_verdict.ensures)

pub read_lines-requires : goal.read_lines-requires
read_lines-requires c = (sound_length _ (accepts c.in_ok-sound_verdict.ensures), rooms_kept _ (told_layout c.in_ok-r.r) (sym (ap told c.in_ok-r.was) ∙ c.requires))

pub returns : goal.returns
returns c =
    let q : told_layout c.in_ok-r.r ≡ layout_read c.args.layout.now = sym (ap told c.in_ok-r.was) ∙ c.requires in
    sound _ _ (told_layout c.in_ok-r.r) _ q (verdict_told _ (Ok c.in_ok-r.r) q) c.in_ok-sound_verdict.ensures c.read_lines.ensures
