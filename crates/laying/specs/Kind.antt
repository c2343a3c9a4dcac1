-- All that editing may know of a kind of floor, a record laid on a floor, and the test of 27. Definitions only.
use Rattle.std.specs.Prelude.{ℕ, Bool, ◌&&◌, List, ltb, eqb}
use Rattle.verdict.specs.declared.Answer.{Answer}
use Rattle.wire.specs.Bytes.{u32_at, put_u32}
use Rattle.record.specs.declared.Rec.{Rec}
use Rattle.record.specs.Record.{body}

pub record Kind : Type 0 where
  pub rules : List ℕ → Answer  -- of a floor: its own refusals, 1 to 6, with their places
  pub count : List ℕ → ℕ → ℕ  -- of a floor and a tag: how many places there are
  pub field : List ℕ → ℕ → ℕ → ℕ  -- of a floor, a tag and a place: where its four bytes lie
  pub allowed : ℕ → ℕ → ℕ → Bool  -- of a tag, old and new: what 27 asks of the bytes to be written, 22, 23 or the grid

-- a record laid on the floor: its new four bytes are written
unfoldable pub lay : Kind → List ℕ → Rec → List ℕ
lay K fl r = put_u32 fl (K.field fl r.tag r.place) r.new

-- 27 does not refuse: the tag, length and place are right, the floor's bytes are the old ones, and the new ones break neither 22, 23
-- nor the grid. A wrong tag has no place
unfoldable pub fits : Kind → List ℕ → Rec → Bool
fits K fl r =
    eqb r.len body && ltb r.place (K.count fl r.tag) && eqb (u32_at fl (K.field fl r.tag r.place)) r.old
    && K.allowed r.tag r.old r.new
