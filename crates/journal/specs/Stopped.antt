-- A put-back in plain words: one that is done, and one that 43 or 27 stopped, the one refusal that does not leave all as it was.
-- Definitions only.
use Rattle.std.specs.Prelude.{ℕ, ◌≡◌, ◌⊎◌}
use Rattle.verdict.specs.Verdict.{refused}
use Rattle.laying.specs.Kind.{Kind}
use Rattle.journal.specs.Step.{State, Outcome, next, holds, undo_rules, taken_out}
use Rattle.journal.specs.Calls.{Call, put_back, step}

-- from a state to a state: records of the bench were taken out, its latest first, each of which could be undone when its turn came
pub data Undone (K : Kind) (bench : ℕ) : State → State → Type 0 where
  none : {s : State} → Undone K bench s s
  more : {s to : State} → (undo_rules K bench s).number ≡ 0 → Undone K bench (taken_out K bench s) to → Undone K bench s to

-- it is done where the bench holds no record any more
pub record Finished (K : Kind) (bench : ℕ) (s : State) (o : Outcome) : Type 0 where
  pub number : o.answer.number ≡ 0
  pub place : o.answer.place ≡ 0
  pub undone : Undone K bench s (next o)
  pub none : holds bench (next o) ≡ 0

-- it stops at 43 or 27, keeping what was undone, f being the records left; the place is that f, and an undo there is refused the same
pub record Stopped (K : Kind) (bench : ℕ) (s : State) (o : Outcome) : Type 0 where
  pub number : (o.answer.number ≡ 43) ⊎ (o.answer.number ≡ 27)
  pub place : o.answer.place ≡ o.answer.f
  pub undone : Undone K bench s (next o)
  pub here : undo_rules K bench (next o) ≡ refused o.answer.number o.answer.place

-- the call was a put-back that stopped
pub record StoppedPutBack (K : Kind) (c : Call) (s : State) : Type 0 where
  pub bench : ℕ
  pub call : c ≡ put_back bench
  pub stopped : Stopped K bench s (step K c s)
