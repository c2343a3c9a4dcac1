-- Sentences of the papers as plain propositions: what R and a half of it are, and two sentences about one call. Definitions only.
use Rattle.std.specs.Prelude.{ℕ, ◌+◌, ◌*◌, ◌≤◌, ◌<◌, ◌≡◌, length}
use Rattle.wire.specs.Bytes.{put, Bytes}
use Rattle.record.specs.Record.{size, made, record_bytes}
use Rattle.laying.specs.Kind.{Kind}
use Rattle.journal.specs.Wish.{Edit, wish_of}
use Rattle.journal.specs.Lawful.{old_word}
use Rattle.journal.specs.Step.{State, lent, done, most_records, fit_in, holds}
use Rattle.journal.specs.Calls.{edit, put_back, step, Accepts}

-- R, the records that fit, at most 4,096: so many lie in the journal, and no more do
pub record RecordsThatFit (room R : ℕ) : Type 0 where
  pub few : R ≤ most_records
  pub fit : size * R ≤ room
  pub most : (n : ℕ) → n ≤ most_records → size * n ≤ room → n ≤ R

-- R/2 rounded down: at most half of R, and less than one below it
pub record HalfRoundedDown (R h : ℕ) : Type 0 where
  pub most : 2 * h ≤ R
  pub least : R < 2 * h + 2

-- 01: old equal to new is still an edit: it leaves the floor as it is, and its record is kept
abbrev pub StillAnEdit : Kind → Type 0
StillAnEdit K = (s : State) (bench : ℕ) (e : Edit) → let old = old_word K s.floor (wish_of e) in
    Bytes s.floor → Accepts K s (edit bench e) → (wish_of e).new old ≡ old
    → step K (edit bench e) s
    ≡ done (lent s.floor (put s.journal (size * s.f) (record_bytes (made (wish_of e).tag bench (wish_of e).place old old))) (s.f + 1))

-- M-108: a put-back of a bench without records, where 1 to 6, 28 and 45 refuse nothing, is not refused, and leaves all as it is
abbrev pub NothingToPutBack : Kind → Type 0
NothingToPutBack K = (s : State) (bench : ℕ) → (K.rules s.floor).number ≡ 0 → s.f ≤ fit_in (length s.journal) → bench ≤ 1
    → holds bench s ≡ 0 → step K (put_back bench) s ≡ done s
