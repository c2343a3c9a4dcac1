-- One call of a bench over a floor and a journal: what it answers and leaves, over any kind of floor, in the order of documents 01 and
-- 02 (M-108). Definitions only.
use Rattle.std.specs.Prelude.{ℕ, zero, suc, ◌+◌, ◌-◌, ◌*◌, ◌/◌, min, Bool, not, cond, ◌||◌, List, length, ltb, leb, eqb, Result, Ok, Err}
use Rattle.verdict.specs.Verdict.{rule, ◌then◌}
use Rattle.verdict.specs.Refusals.{number_of}
use Rattle.verdict.specs.declared.Answer.{Answer}
use Rattle.verdict.specs.declared.Refused.{Refused}
use Rattle.wire.specs.Bytes.{put}
use Rattle.record.specs.declared.Rec.{Rec}
use Rattle.record.specs.Record.{size, made, flip, record_bytes}
use Rattle.holding.specs.Held.{stored, held, latest, blocked, closed}
use Rattle.laying.specs.Kind.{Kind, lay, fits}
use Rattle.journal.specs.declared.Session.{Session}
use Rattle.journal.specs.Wish.{Wish}
use Rattle.journal.specs.Lawful.{old_word}

-- what is lent to a call, with the session: f records kept
pub record State : Type 0 where
  pub floor : List ℕ
  pub journal : List ℕ
  pub f : ℕ

-- what a call answers and leaves
pub record Outcome : Type 0 where
  pub answer : Session
  pub floor : List ℕ
  pub journal : List ℕ

abbrev pub lent : List ℕ → List ℕ → ℕ → State
lent floor journal f = record { floor = floor; journal = journal; f = f }

abbrev pub left : Session → List ℕ → List ℕ → Outcome
left answer floor journal = record { answer = answer; floor = floor; journal = journal }

abbrev pub session : ℕ → ℕ → ℕ → Session
session number place f = record { number = number; place = place; f = f }

-- what a caller is told who handed in f: 0 at 0 and the records that are kept then, or the refusal's number, its place, and f
abbrev pub session_of : Result ℕ Refused → ℕ → Session
session_of (Ok n) f = session 0 0 n
session_of (Err r) f = session (number_of r.refusal) r.place f

-- what the next call is lent
abbrev pub next : Outcome → State
next o = lent o.floor o.journal o.answer.f

-- done, with all as it now is
abbrev pub done : State → Outcome
done s = left (session 0 0 s.f) s.floor s.journal

-- refused, with f as it is; all that is lent is left
abbrev pub refusal : Answer → State → Outcome
refusal a s = left (session a.number a.place s.f) s.floor s.journal

-- the outcome, unless the verdict refuses
unfoldable pub unless : Answer → State → Outcome → Outcome
unless a s o = cond (eqb a.number 0) o (refusal a s)

-- ---- every call

-- no journal keeps more records
abbrev pub most_records : ℕ
most_records = 4096

-- R: the records that fit, at most 4,096
unfoldable pub fit_in : ℕ → ℕ
fit_in room = min most_records (room / size)

-- what each bench may hold: R/2 rounded down
abbrev pub half : ℕ → ℕ
half room = fit_in room / 2

-- how many records a bench holds
abbrev pub holds : ℕ → State → ℕ
holds bench s = held (stored s.journal) s.f bench

-- 28 if f exceeds R
unfoldable pub rule28 : ℕ → ℕ → ℕ → Answer
rule28 room f place = rule 28 (ltb (fit_in room) f) place

-- 45 for a bench over 1; its place is f
unfoldable pub rule45 : ℕ → ℕ → Answer
rule45 bench f = rule 45 (ltb 1 bench) f

-- every call: 1 to 6, then 28, then 45. The place of 28 is the one asked for, or f where the call names none
unfoldable pub common_verdict : Kind → ℕ → ℕ → State → Answer
common_verdict K bench place s = K.rules s.floor then rule28 (length s.journal) s.f place then rule45 bench s.f

-- ---- the edits

-- the record that a bench's edit makes
abbrev pub record_of : Kind → ℕ → List ℕ → Wish → Rec
record_of K bench fl w = made w.tag bench w.place (old_word K fl w) (w.new (old_word K fl w))

-- 25 exactly when the bench holds its half or more, or f is R
unfoldable pub full : ℕ → ℕ → ℕ → Bool
full room f n = leb (half room) n || eqb f (fit_in room)

abbrev pub is_full : ℕ → State → Bool
is_full bench s = full (length s.journal) s.f (holds bench s)

-- 21: the place is outside its table
unfoldable pub rule21 : Kind → ℕ → ℕ → List ℕ → Answer
rule21 K tag place fl = rule 21 (not (ltb place (K.count fl tag))) place

-- 21; then 22, 23 or 24 by its tag; 25
unfoldable pub edit_rules : Kind → Wish → List ℕ → Bool → Answer
edit_rules K w fl full =
    rule21 K w.tag w.place fl then rule (21 + w.tag) (not (w.may (old_word K fl w))) w.place then rule 25 full w.place

-- every call's rules and 21: what is asked before the old word is read
unfoldable pub open_verdict : Kind → ℕ → ℕ → ℕ → State → Answer
open_verdict K bench tag place s = common_verdict K bench place s then rule21 K tag place s.floor

unfoldable pub edit_verdict : Kind → ℕ → Wish → State → Answer
edit_verdict K bench w s = common_verdict K bench w.place s then edit_rules K w s.floor (is_full bench s)

-- an edit writes its four floor bytes and record f
abbrev pub edited : Kind → Rec → State → State
edited K r s = lent (lay K s.floor r) (put s.journal (size * s.f) (record_bytes r)) (s.f + 1)

unfoldable pub edit_step : Kind → ℕ → Wish → State → Outcome
edit_step K bench w s = unless (edit_verdict K bench w s) s (done (edited K (record_of K bench s.floor w) s))

-- ---- undo

-- the bench's latest record, and that record taken back
abbrev pub latest_of : ℕ → State → ℕ
latest_of bench s = latest (stored s.journal) s.f bench

abbrev pub undone : ℕ → State → Rec
undone bench s = flip (stored s.journal (latest_of bench s))

-- 43 of that record
abbrev pub is_blocked : ℕ → State → Bool
is_blocked bench s = blocked (stored s.journal) s.f bench (latest_of bench s)

-- 26 if the bench holds none, 43 if its latest record is blocked, 27 if that record does not fit
unfoldable pub undo_rules : Kind → ℕ → State → Answer
undo_rules K bench s =
    rule 26 (eqb (holds bench s) 0) s.f then rule 43 (is_blocked bench s) s.f then rule 27 (not (fits K s.floor (undone bench s))) s.f

-- the old bytes are written back, the record is taken out, and later ones move down
abbrev pub taken_out : Kind → ℕ → State → State
taken_out K bench s = lent (lay K s.floor (undone bench s)) (closed s.journal (latest_of bench s) s.f) (s.f - 1)

-- an undo that every call's rules let through
unfoldable pub out_step : Kind → ℕ → State → Outcome
out_step K bench s = unless (undo_rules K bench s) s (done (taken_out K bench s))

unfoldable pub undo_step : Kind → ℕ → State → Outcome
undo_step K bench s = unless (common_verdict K bench s.f s) s (out_step K bench s)

-- ---- put-back

-- undone again and again, at most n times, until an undo would be refused
unfoldable pub unwind : Kind → ℕ → ℕ → State → State
unwind K bench zero s = s
unwind K bench (suc n) s = let rest = unwind K bench n (taken_out K bench s) in cond (eqb (undo_rules K bench s).number 0) rest s

-- .. and then refused as that undo would be
unfoldable pub unwound : Kind → ℕ → State → Outcome
unwound K bench s = let u = unwind K bench s.f s in refusal (undo_rules K bench u) u

-- it has come to its end where the bench holds none; else it stops at 43 or 27, keeping what was undone, f being the records left
unfoldable pub ended : Outcome → Outcome
ended o = cond (eqb o.answer.number 26) (done (next o)) o

unfoldable pub put_back_step : Kind → ℕ → State → Outcome
put_back_step K bench s = unless (common_verdict K bench s.f s) s (ended (unwound K bench s))
