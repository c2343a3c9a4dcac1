-- M-108 on the plain list: each bench has a stack of its own, which no call of the other one touches. Definitions only.
use Rattle.std.specs.Prelude.{ℕ, ◌≡◌, cond, List, [], ◌∷◌, ◌++◌}
use Rattle.record.specs.declared.Rec.{Rec}
use Rattle.holding.specs.Held.{listed, is_of}
use Rattle.laying.specs.Kind.{Kind}
use Rattle.journal.specs.Wish.{Edit, wish_of}
use Rattle.journal.specs.Step.{record_of}
use Rattle.journal.specs.Calls.{Call, edit, undo, put_back}
use Rattle.journal.specs.Plain.{floor_of, latest_in, plain_verdict, plain_step}

-- the bench's own records, in order
unfoldable pub own_of : ℕ → List Rec → List Rec
own_of bench [] = []
own_of bench (r ∷ rs) = let rest = own_of bench rs in cond (is_of bench r) (r ∷ rest) rest

-- whose call it is
abbrev pub bench_of : Call → ℕ
bench_of (edit bench e) = bench
bench_of (undo bench) = bench
bench_of (put_back bench) = bench

pub record OwnStack (K : Kind) (opening : List ℕ) (room : ℕ) (rs : List Rec) : Type 0 where
  -- an edit that is not refused puts its record on the bench's stack
  pub edit_adds : (bench : ℕ) (e : Edit) → (plain_verdict K opening room (edit bench e) rs).number ≡ 0
      → own_of bench (plain_step K opening room (edit bench e) rs) ≡ own_of bench rs ++ (record_of K bench (floor_of K opening rs) (wish_of e) ∷ [])
  -- an undo that is not refused takes the last one off
  pub undo_takes : (bench : ℕ) → (plain_verdict K opening room (undo bench) rs).number ≡ 0
      → own_of bench rs ≡ own_of bench (plain_step K opening room (undo bench) rs) ++ (listed rs (latest_in bench rs) ∷ [])
  -- no call of another bench touches it
  pub untouched : (bench : ℕ) (c : Call) → (bench_of c ≡ bench → ⊥) → own_of bench (plain_step K opening room c rs) ≡ own_of bench rs
