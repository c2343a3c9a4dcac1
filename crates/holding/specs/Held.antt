-- M-108: who holds which record: a bench's records, its latest one, whether that one is blocked (43), and a record taken out. `at` says
-- what record i is, in a journal or in a list, and f how many there are: the same words for both. Definitions only.
use Rattle.std.specs.Prelude.{ℕ, ◌+◌, ◌-◌, ◌*◌, Bool, cond, ◌&&◌, List, Option, Some, None, get_or, eqb, ltb}
use Rattle.std.proofs.Math.Seq.{slice}
use Rattle.verdict.specs.Lists.{tally}
use Rattle.verdict.specs.Lowest.{any_under, highest}
use Rattle.wire.specs.Bytes.{put}
use Rattle.record.specs.declared.Rec.{Rec}
use Rattle.record.specs.Record.{size, nothing, record_at}

-- record i of a list, and of a journal
abbrev pub listed : List Rec → ℕ → Rec
listed rs i = get_or rs i nothing

abbrev pub stored : List ℕ → ℕ → Rec
stored journal i = record_at journal (size * i)

-- a record is the bench's
unfoldable pub is_of : ℕ → Rec → Bool
is_of bench r = eqb r.bench bench

-- two records have the same tag and place
unfoldable pub same_field : Rec → Rec → Bool
same_field r q = eqb r.tag q.tag && eqb r.place q.place

-- the other one of benches 0 and 1
abbrev pub other : ℕ → ℕ
other bench = 1 - bench

module _ (at : ℕ → Rec) (f bench : ℕ) where
  -- how many records the bench holds
  unfoldable pub held : ℕ
  held = tally f (λ i. is_of bench (at i))

  -- which one is its latest
  unfoldable pub latest : ℕ
  latest = highest f (λ i. is_of bench (at i))

  -- its latest record, if it holds one
  unfoldable pub latest_held : Option ℕ
  latest_held = cond (eqb held 0) None (Some latest)

  -- 43: a later record of the other bench has the same tag and place as record i
  unfoldable pub blocked : ℕ → Bool
  blocked i = any_under f (λ j. ltb i j && is_of (other bench) (at j) && same_field (at i) (at j))

-- record i taken out: the later ones are moved down; bytes past them stay, and so do the last one's old bytes
unfoldable pub closed : List ℕ → ℕ → ℕ → List ℕ
closed journal i f = put journal (size * i) (slice (size * (i + 1)) (size * f) journal)
