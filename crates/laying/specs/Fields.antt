-- A field, which is a tag and a place, and the laws of a kind's fields. Definitions only.
use Rattle.std.specs.Prelude.{ℕ, ◌+◌, ◌≤◌, ◌<◌, ◌≡◌, ◌⊎◌, List, length}
use Rattle.record.specs.declared.Rec.{Rec}
use Rattle.laying.specs.Kind.{Kind, lay}

pub record Field : Type 0 where
  pub tag : ℕ
  pub place : ℕ

abbrev pub field : ℕ → ℕ → Field
field tag place = record { tag = tag; place = place }

-- the field that a record writes
abbrev pub field_of : Rec → Field
field_of r = field r.tag r.place

-- the floor has the field
abbrev pub Has : Kind → List ℕ → Field → Type 0
Has K fl x = x.place < K.count fl x.tag

-- where its four bytes lie
abbrev pub field_at : Kind → List ℕ → Field → ℕ
field_at K fl x = K.field fl x.tag x.place

-- four bytes from one place on and four from another share none
abbrev pub ShareNoByte : ℕ → ℕ → Type 0
ShareNoByte a b = (a + 4 ≤ b) ⊎ (b + 4 ≤ a)

-- 1 to 6 do not refuse the floor
abbrev pub RightFloor : Kind → List ℕ → Type 0
RightFloor K fl = (K.rules fl).number ≡ 0

-- what editing asks of a kind's fields, on every right floor
pub record LawfulFields (K : Kind) : Type 0 where
  -- a tag is a byte, a place a 32-bit word, and the four bytes lie in the floor
  pub tags : (fl : List ℕ) (x : Field) → RightFloor K fl → Has K fl x → x.tag < 256
  pub places : (fl : List ℕ) (x : Field) → RightFloor K fl → Has K fl x → x.place < 4294967296
  pub within : (fl : List ℕ) (x : Field) → RightFloor K fl → Has K fl x → field_at K fl x + 4 ≤ length fl
  -- fields of different tag or place share no byte
  pub apart : (fl : List ℕ) (x y : Field) → RightFloor K fl → Has K fl x → Has K fl y → (x ≡ y → ⊥) → ShareNoByte (field_at K fl x) (field_at K fl y)
  -- a record laid on leaves the floor right, and every field where it is
  pub right : (fl : List ℕ) (r : Rec) → RightFloor K fl → Has K fl (field_of r) → RightFloor K (lay K fl r)
  pub counts : (fl : List ℕ) (r : Rec) → RightFloor K fl → Has K fl (field_of r) → (tag : ℕ) → K.count (lay K fl r) tag ≡ K.count fl tag
  pub fields : (fl : List ℕ) (r : Rec) → RightFloor K fl → Has K fl (field_of r) → (x : Field) → field_at K (lay K fl r) x ≡ field_at K fl x
