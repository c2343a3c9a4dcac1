-- M-108's plain list of records, which demand 3 compares a run with. No byte of the journal stands here. Definitions only.
use Rattle.std.specs.Prelude.{ℕ, zero, suc, Bool, cond, List, [], ◌∷◌, ◌++◌, length, take, drop, eqb, ltb}
use Rattle.verdict.specs.Verdict.{accepted, rule, ◌then◌}
use Rattle.verdict.specs.declared.Answer.{Answer}
use Rattle.record.specs.declared.Rec.{Rec}
use Rattle.holding.specs.Held.{listed, held, latest, blocked}
use Rattle.laying.specs.Kind.{Kind, lay}
use Rattle.journal.specs.Wish.{Wish, wish_of}
use Rattle.journal.specs.Step.{rule45, record_of, full, edit_rules}
use Rattle.journal.specs.Calls.{Call, edit, undo, put_back}
use Rattle.journal.specs.Replay.{lay_all}

-- the floor that it says: the opening floor with the records laid on in order
abbrev pub floor_of : Kind → List ℕ → List Rec → List ℕ
floor_of K opening rs = lay_all (lay K) opening rs

-- how many records a bench holds; which one is its latest; whether a later record of the other bench has the same tag and place
abbrev pub held_by : ℕ → List Rec → ℕ
held_by bench rs = held (listed rs) (length rs) bench

abbrev pub latest_in : ℕ → List Rec → ℕ
latest_in bench rs = latest (listed rs) (length rs) bench

abbrev pub blocked_in : ℕ → List Rec → Bool
blocked_in bench rs = blocked (listed rs) (length rs) bench (latest_in bench rs)

-- an edit adds its record at the end
abbrev pub plain_edit : Kind → List ℕ → ℕ → Wish → List Rec → List Rec
plain_edit K opening bench w rs = rs ++ (record_of K bench (floor_of K opening rs) w ∷ [])

-- the list without record i
unfoldable pub without : ℕ → List Rec → List Rec
without i rs = take i rs ++ drop (suc i) rs

-- an undo takes out the bench's own latest record: 26 if the bench holds none, 43 if that one is blocked
abbrev pub plain_undo : ℕ → List Rec → List Rec
plain_undo bench rs = without (latest_in bench rs) rs

unfoldable pub plain_undo_rules : ℕ → List Rec → Answer
plain_undo_rules bench rs = rule 26 (eqb (held_by bench rs) 0) (length rs) then rule 43 (blocked_in bench rs) (length rs)

-- a put-back repeats this for the bench, at most n times, until an undo would be refused
unfoldable pub plain_unwind : ℕ → ℕ → List Rec → List Rec
plain_unwind bench zero rs = rs
plain_unwind bench (suc n) rs = let rest = plain_unwind bench n (plain_undo bench rs) in cond (eqb (plain_undo_rules bench rs).number 0) rest rs

abbrev pub plain_put_back : ℕ → List Rec → List Rec
plain_put_back bench rs = plain_unwind bench (length rs) rs

-- it is not refused where the bench then holds none, and stops at 43 otherwise
unfoldable pub plain_end : Answer → Answer
plain_end a = cond (eqb a.number 26) accepted a

-- where 01 and 02 say that a call is refused, with the place: 45; 21 to 25 for an edit; 26 and 43 for an undo; 43 for a put-back; and
-- nowhere else. `room` is the journal's length
unfoldable pub plain_verdict : Kind → List ℕ → ℕ → Call → List Rec → Answer
plain_verdict K opening room (edit bench e) rs =
    rule45 bench (length rs) then edit_rules K (wish_of e) (floor_of K opening rs) (full room (length rs) (held_by bench rs))
plain_verdict K opening room (undo bench) rs = rule45 bench (length rs) then plain_undo_rules bench rs
plain_verdict K opening room (put_back bench) rs = rule45 bench (length rs) then plain_end (plain_undo_rules bench (plain_put_back bench rs))

-- what a call does to the list. A refused one leaves it, but a put-back that stops keeps what was undone
unfoldable pub plain_step : Kind → List ℕ → ℕ → Call → List Rec → List Rec
plain_step K opening room (edit bench e) rs =
    cond (eqb (plain_verdict K opening room (edit bench e) rs).number 0) (plain_edit K opening bench (wish_of e) rs) rs
plain_step K opening room (undo bench) rs = cond (eqb (plain_verdict K opening room (undo bench) rs).number 0) (plain_undo bench rs) rs
plain_step K opening room (put_back bench) rs = cond (ltb 1 bench) rs (plain_put_back bench rs)

unfoldable pub plain_run : Kind → List ℕ → ℕ → List Call → List Rec → List Rec
plain_run K opening room [] rs = rs
plain_run K opening room (c ∷ cs) rs = plain_run K opening room cs (plain_step K opening room c rs)
