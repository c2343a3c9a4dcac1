-- The reader's refusals, the layout's, then 42.
use Rattle.std.proofs.Common.{◌∙◌, ap, ℕ}
use Rattle.std.proofs.lemmas.Result.{err_from_is_err_and}
use Rattle.verdict.proofs.Results.{accepts, here, past}
use Rattle.floor.proofs.Meaning.{accepted_of}
use Rattle.tables.specs.Parts.{parts_of}
use Rattle.links.specs.Links.{rule42}
use Rattle.links.proofs.Meaning.{text_met, text_refused, in_turn}
use Rattle.links.proofs.links_verdict.Goals as goal

pub returns-in_err-read_verdict-clause-answer : goal.returns-in_err-read_verdict-clause-answer
returns-in_err-read_verdict-clause-answer c =
    let p = err_from_is_err_and c.from_residual.result c.from_residual.ensures.1 in
    rw (p.1, p.2) (here c.in_err-read_verdict.field-0.0 _ c.in_err-read_verdict.ensures.answer ∙ in_turn _ _ _)

pub returns-in_err-rooms : goal.returns-in_err-rooms
returns-in_err-rooms c =
    let p = err_from_is_err_and c.from_residual-in_err-rooms.result c.from_residual-in_err-rooms.ensures.1 in
    let e = past c.in_ok-read_verdict.ensures.answer (here c.in_err-rooms.field-0.0 _ (text_refused _ _ c.in_err-rooms.ensures)) in
    record { answer = rw (p.1, p.2) (e ∙ in_turn _ _ _); memory = c.read_verdict.ensures.memory }

pub rooms_verdict-requires : goal.rooms_verdict-requires
rooms_verdict-requires c = (accepted_of _ _ (accepts c.in_ok-read_verdict.ensures.answer)).header

pub returns : goal.returns
returns c =
    let text = text_met _ _ c.in_ok-rooms.ensures in
    let e = c.rooms_verdict.ensures ∙ ap (λ (n : ℕ). rule42 (parts_of c.args.bytes.now) n) text.1 in
    record { answer = past c.in_ok-read_verdict.ensures.answer (past text.0 e) ∙ in_turn _ _ _; memory = c.read_verdict.ensures.memory }
