-- The calls, each by a bench, and a run of them. Definitions only.
use Rattle.std.specs.Prelude.{ℕ, ◌≡◌, List, [], ◌∷◌}
use Rattle.laying.specs.Kind.{Kind}
use Rattle.journal.specs.Wish.{Edit, wish_of}
use Rattle.journal.specs.Step.{State, Outcome, next, edit_step, undo_step, put_back_step}

pub data Call : Type 0 where
  edit : ℕ → Edit → Call
  undo : ℕ → Call
  put_back : ℕ → Call

-- what a call answers and leaves
unfoldable pub step : Kind → Call → State → Outcome
step K (edit bench e) s = edit_step K bench (wish_of e) s
step K (undo bench) s = undo_step K bench s
step K (put_back bench) s = put_back_step K bench s

-- the call is accepted: it is not refused
abbrev pub Accepts : Kind → State → Call → Type 0
Accepts K s c = (step K c s).answer.number ≡ 0

-- a run: each call is lent what the last one left
unfoldable pub run : Kind → List Call → State → State
run K [] s = s
run K (c ∷ cs) s = run K cs (next (step K c s))
