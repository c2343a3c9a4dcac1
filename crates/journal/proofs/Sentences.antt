-- R and its half are what the words say, both ways; old equal to new is still an edit, and a put_back of a bench without records is not
-- refused, for any kind of floor. Assumes nothing.
use mathlib.Core.Path.{◌≡◌, ap, ◌∙◌}
use Prim.Native.Nat.{ℕ}
use native.Mathlib.Omega.{arith}
use borrow.Author.Tests.{eq-eqb}
use Rattle.verdict.specs.declared.Answer.{Answer}
use Rattle.wire.proofs.Numbers.{put_back}
use Rattle.laying.specs.Kind.{Kind, lay}
use Rattle.laying.specs.Fields.{field, field_at}
use Rattle.journal.specs.Wish.{wish_of}
use Rattle.journal.specs.Step.{fit_in, half, undo_rules, unwound, ended, put_back_step, common_verdict}
use Rattle.journal.specs.Calls.{step}
use Rattle.journal.specs.Sentences.{RecordsThatFit, HalfRoundedDown, StillAnEdit, NothingToPutBack}
use Rattle.journal.proofs.Steps.{unless_next, met_common}
use Rattle.journal.proofs.Outs.{unwound_halt}
use Rattle.journal.proofs.Refused.{none_26}
use Rattle.journal.proofs.AcceptedEdits.{accepts_met, met_step}

pub fit_plain : (room : ℕ) → RecordsThatFit room (fit_in room)
unfolding fit_in
fit_plain room = record { few = omega arith; fit = omega arith; most = λ n l h. omega arith }

pub plain_fit : (room R : ℕ) → RecordsThatFit room R → fit_in room ≡ R
plain_fit room R p =
    let q = fit_plain room in
    omega (arith, p.most (fit_in room) q.few q.fit, q.most R p.few p.fit)

pub half_plain : (room : ℕ) → HalfRoundedDown (fit_in room) (half room)
half_plain room = record { most = omega arith; least = omega arith }

pub plain_half : (room h : ℕ) → HalfRoundedDown (fit_in room) h → half room ≡ h
plain_half room h p = omega (arith, p.most, p.least)

pub still_an_edit : (K : Kind) → StillAnEdit K
unfolding lay
still_an_edit K s bench e bytes z same =
    met_step K s bench e (accepts_met K s bench e z) ∙ rw same (rw (put_back s.floor (field_at K s.floor (field (wish_of e).tag (wish_of e).place)) bytes))

pub nothing_to_put_back : (K : Kind) → NothingToPutBack K
unfolding step put_back_step ended
nothing_to_put_back K s bench right few b z =
    let e = none_26 K bench s z in
    let c = ap (λ (a : Answer). a.number) (met_common K bench s.f s (record { right = right; few = few; owner = b })) in
    let h = unwound_halt K bench s.floor s.journal s.f (λ y. omega arith) in
    unless_next (common_verdict K bench s.f s) s (ended (unwound K bench s)) c ∙ rw (h, eq-eqb (undo_rules K bench s).number 26 e)
