-- M-107, EDITS AND THEIR ORDER: each sentence of the request as a proposition about the calls, over any kind of floor and by any benches;
-- and what does not hold. `step` of an edit is what the contracts of paint, link and nudge say; of the floor nothing is asked but that they
-- accept. Definitions only.
use Rattle.std.specs.Prelude.{ℕ, ◌+◌, ◌≤◌, ◌≡◌, List, [], ◌∷◌, ◌++◌, ℤ, ◌+ℤ◌, length}
use Rattle.verdict.specs.Verdict.{refused}
use Rattle.grid.specs.Plain.{PermittedStep}
use Rattle.record.specs.declared.Rec.{Rec}
use Rattle.laying.specs.Kind.{Kind, lay}
use Rattle.laying.specs.Fields.{Field, field}
use Rattle.journal.specs.Wish.{Edit, paint, link, nudge, wish_of}
use Rattle.journal.specs.Step.{State, fit_in, half, holds, refusal}
use Rattle.journal.specs.Calls.{edit, step, Accepts, run}
use Rattle.journal.specs.Replay.{lay_all}

-- ---- the words of the request

-- the field that an edit writes
abbrev pub writes : Edit → Field
writes e = field (wish_of e).tag (wish_of e).place

-- two edits accepted one after the other: e by bench b, then g by bench d
pub record InTurn (K : Kind) (s : State) (b : ℕ) (e : Edit) (d : ℕ) (g : Edit) : Type 0 where
  pub first : Accepts K s (edit b e)
  pub second : Accepts K (run K (edit b e ∷ []) s) (edit d g)

-- journal room for both: for two records, and, where both edits are one bench's, for two in its half
pub record RoomForBoth (s : State) (b d : ℕ) : Type 0 where
  pub two : s.f + 2 ≤ fit_in (length s.journal)
  pub own : b ≡ d → holds b s + 2 ≤ half (length s.journal)

-- ---- its sentences

-- in either order both are accepted, and give the same floor
pub record SameEitherWay (K : Kind) (s : State) (b : ℕ) (e : Edit) (d : ℕ) (g : Edit) : Type 0 where
  pub one : InTurn K s b e d g
  pub other : InTurn K s d g b e
  pub floor : (run K (edit b e ∷ edit d g ∷ []) s).floor ≡ (run K (edit d g ∷ edit b e ∷ []) s).floor

-- two edits of different fields (tag and place), each accepted on the same floor with journal room for both, give the same floor in
-- either order
abbrev pub EitherOrder : Kind → Type 0
EitherOrder K = (s : State) (b : ℕ) (e : Edit) (d : ℕ) (g : Edit) → (writes e ≡ writes g → ⊥) → Accepts K s (edit b e) → Accepts K s (edit d g)
    → RoomForBoth s b d → SameEitherWay K s b e d g

-- e and g leave what u alone would leave, by the later one's bench
pub record AsOne (K : Kind) (s : State) (b : ℕ) (e : Edit) (d : ℕ) (g u : Edit) : Type 0 where
  pub alone : Accepts K s (edit d u)
  pub floor : (run K (edit b e ∷ edit d g ∷ []) s).floor ≡ (run K (edit d u ∷ []) s).floor

-- on the same field, two paints or two links accepted one after the other leave what the later one alone would leave
abbrev pub LaterPaint : Kind → Type 0
LaterPaint K = (s : State) (b d face m n : ℕ) → InTurn K s b (paint face m) d (paint face n) → AsOne K s b (paint face m) d (paint face n) (paint face n)

abbrev pub LaterLink : Kind → Type 0
LaterLink K = (s : State) (b d entry : ℕ) (t u : ℤ) → InTurn K s b (link entry t) d (link entry u) → AsOne K s b (link entry t) d (link entry u) (link entry u)

-- two nudges so accepted leave what one nudge by the sum would, if that sum is a permitted step
abbrev pub NudgesAdd : Kind → Type 0
NudgesAdd K = (s : State) (b d place : ℕ) (n m : ℤ) → InTurn K s b (nudge place n) d (nudge place m) → PermittedStep (n +ℤ m)
    → AsOne K s b (nudge place n) d (nudge place m) (nudge place (n +ℤ m))

-- replaying a joined list of records equals replaying the first list and then the second
abbrev pub ReplayJoined : Kind → Type 0
ReplayJoined K = (fl : List ℕ) (rs qs : List Rec) → lay_all (lay K) fl (rs ++ qs) ≡ lay_all (lay K) (lay_all (lay K) fl rs) qs

-- the whole request
pub record EditsInOrder (K : Kind) : Type 0 where
  pub different_fields : EitherOrder K
  pub paints : LaterPaint K
  pub links : LaterLink K
  pub nudges : NudgesAdd K
  pub replay : ReplayJoined K

-- ---- what does not hold

-- in either order both are accepted, but the floors differ
pub record DifferentEitherWay (K : Kind) (s : State) (b : ℕ) (e : Edit) (d : ℕ) (g : Edit) : Type 0 where
  pub one : InTurn K s b e d g
  pub other : InTurn K s d g b e
  pub floor : (run K (edit b e ∷ edit d g ∷ []) s).floor ≡ (run K (edit d g ∷ edit b e ∷ []) s).floor → ⊥

-- the order of two edits of one field counts: two paints with different materials, two links with different transitions
abbrev pub PaintsDiffer : Kind → Type 0
PaintsDiffer K = (s : State) (b d face m n : ℕ) → (m ≡ n → ⊥) → Accepts K s (edit b (paint face m)) → Accepts K s (edit d (paint face n)) → RoomForBoth s b d
    → DifferentEitherWay K s b (paint face m) d (paint face n)

abbrev pub LinksDiffer : Kind → Type 0
LinksDiffer K = (s : State) (b d entry : ℕ) (t u : ℤ) → (t ≡ u → ⊥) → Accepts K s (edit b (link entry t)) → Accepts K s (edit d (link entry u)) → RoomForBoth s b d
    → DifferentEitherWay K s b (link entry t) d (link entry u)

-- that of two nudges does not, where both orders are accepted
abbrev pub NudgesEitherOrder : Kind → Type 0
NudgesEitherOrder K = (s : State) (b d place : ℕ) (n m : ℤ) → InTurn K s b (nudge place n) d (nudge place m) → InTurn K s d (nudge place m) b (nudge place n)
    → SameEitherWay K s b (nudge place n) d (nudge place m)

-- two nudges accepted one after the other whose sum is no permitted step: the nudge by the sum is refused with 24, and leaves all as it was
abbrev pub NudgesTooFar : Kind → Type 0
NudgesTooFar K = (s : State) (b d place : ℕ) (n m : ℤ) → InTurn K s b (nudge place n) d (nudge place m) → (PermittedStep (n +ℤ m) → ⊥)
    → step K (edit d (nudge place (n +ℤ m))) s ≡ refusal (refused 24 place) s

-- where the order of two edits of one field counts, where it does not, and two that are not one
pub record OrderCounts (K : Kind) : Type 0 where
  pub paints : PaintsDiffer K
  pub links : LinksDiffer K
  pub nudges : NudgesEitherOrder K
  pub too_far : NudgesTooFar K
