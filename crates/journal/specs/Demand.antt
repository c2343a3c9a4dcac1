-- Demand 3 as M-108 restates it: s is what a run of calls over bytes has reached, rs the plain list after the same calls. Definitions only.
use Rattle.std.specs.Prelude.{ℕ, ◌<◌, ◌≡◌, ◌⊎◌, List, length}
use Rattle.verdict.specs.Verdict.{refused}
use Rattle.verdict.specs.declared.Answer.{Answer}
use Rattle.record.specs.declared.Rec.{Rec}
use Rattle.holding.specs.Held.{listed, stored, other}
use Rattle.laying.specs.Kind.{Kind, lay}
use Rattle.journal.specs.declared.Session.{Session}
use Rattle.journal.specs.Wish.{Edit}
use Rattle.journal.specs.Step.{State, next, half, holds}
use Rattle.journal.specs.Calls.{Call, edit, undo, put_back, step, Accepts}
use Rattle.journal.specs.Replay.{lay_all}
use Rattle.journal.specs.Plain.{plain_verdict}

-- the number and the place of an answer
abbrev pub verdict_of : Session → Answer
verdict_of a = refused a.number a.place

-- what a bench's put-back leaves
abbrev pub put_back_by : Kind → ℕ → State → State
put_back_by K bench s = next (step K (put_back bench) s)

pub record Demand3 (K : Kind) (A : List ℕ → Type 0) (opening : List ℕ) (room : ℕ) (s : State) (rs : List Rec) : Type 0 where
  -- the records kept are the list's
  pub f : s.f ≡ length rs
  pub records : (i : ℕ) → i < s.f → stored s.journal i ≡ listed rs i
  -- the journal is as long as it was
  pub long : length s.journal ≡ room
  -- the floor is byte for byte the opening floor with the remaining records laid on in order
  pub floor : s.floor ≡ lay_all (lay K) opening rs
  -- the floor is accepted
  pub accepted : A s.floor
  -- whatever call comes next is refused exactly where 01 and 02 say, with that number and place
  pub answers : (c : Call) → verdict_of (step K c s).answer ≡ plain_verdict K opening room c rs
  -- a bench's put-back that is not refused leaves no record of its own
  pub emptied : (bench : ℕ) → Accepts K s (put_back bench) → holds bench (put_back_by K bench s) ≡ 0
  -- when both have put back, the floor is the opening floor
  pub opened : (bench : ℕ) → Accepts K s (put_back bench) → Accepts K (put_back_by K bench s) (put_back (other bench))
      → (put_back_by K (other bench) (put_back_by K bench s)).floor ≡ opening
  -- .. as it is whenever neither holds a record
  pub cleared : holds 0 s ≡ 0 → holds 1 s ≡ 0 → s.floor ≡ opening
  -- nothing the other bench does lowers a bench's half: one that holds less is never refused 25
  pub halves : (bench : ℕ) (e : Edit) → holds bench s < half room → (step K (edit bench e) s).answer.number ≡ 25 → ⊥
  -- while a record is left, one of the two can undo
  pub somebody : 0 < s.f → Accepts K s (undo 0) ⊎ Accepts K s (undo 1)
