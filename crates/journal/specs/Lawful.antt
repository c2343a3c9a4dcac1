-- A record that can be laid on and taken back, and the laws that the session theorem asks of a kind of floor and of what counts as
-- accepted. Definitions only.
use Rattle.std.specs.Prelude.{ℕ, ◌<◌, ◌≡◌, true, List}
use Rattle.wire.specs.Bytes.{u32_at, Bytes}
use Rattle.record.specs.declared.Rec.{Rec}
use Rattle.record.specs.Record.{body}
use Rattle.laying.specs.Kind.{Kind, lay}
use Rattle.laying.specs.Fields.{field, field_of, Has, field_at, RightFloor, LawfulFields}
use Rattle.journal.specs.Wish.{Wish, Edit, wish_of}

-- a record that 27 lets through, and whose flip 27 will let through
pub record Fits (K : Kind) (fl : List ℕ) (r : Rec) : Type 0 where
  pub len : r.len ≡ body
  pub inside : Has K fl (field_of r)
  pub same : u32_at fl (field_at K fl (field_of r)) ≡ r.old
  pub kind : K.allowed r.tag r.old r.new ≡ true
  pub back : K.allowed r.tag r.new r.old ≡ true
  pub word : r.new < 4294967296

-- the four bytes that an edit would write over
abbrev pub old_word : Kind → List ℕ → Wish → ℕ
old_word K fl w = u32_at fl (field_at K fl (field w.tag w.place))

-- an edit writes a 32-bit word that 27 lets through, and so it does the word that was there
pub record Meant (K : Kind) (fl : List ℕ) (w : Wish) : Type 0 where
  pub kind : K.allowed w.tag (old_word K fl w) (w.new (old_word K fl w)) ≡ true
  pub back : K.allowed w.tag (w.new (old_word K fl w)) (old_word K fl w) ≡ true
  pub word : w.new (old_word K fl w) < 4294967296

-- wherever 21 and its own rule let it through
abbrev pub Granted : Kind → List ℕ → Wish → Type 0
Granted K fl w = Has K fl (field w.tag w.place) → w.may (old_word K fl w) ≡ true → Meant K fl w

-- what editing asks of a kind, for the floors that are A, "accepted"
pub record Lawful (K : Kind) (A : List ℕ → Type 0) : Type 0 where
  -- its fields are lawful
  pub fields : LawfulFields K
  -- an accepted floor is bytes, and has no refusal of its own
  pub bytes : (fl : List ℕ) → A fl → Bytes fl
  pub right : (fl : List ℕ) → A fl → RightFloor K fl
  -- a record that fits keeps the floor accepted
  pub keeps : (fl : List ℕ) (r : Rec) → A fl → Fits K fl r → A (lay K fl r)
  -- what the three edits write can be taken back
  pub edits : (fl : List ℕ) (e : Edit) → A fl → Granted K fl (wish_of e)
