-- The journal's record: tag (1 byte), length 13 (2 bytes, little-endian), bench (1 byte), place, old four bytes, new four bytes. Beside
-- the functions get_record and put_record this is the only file that knows a record's form. Definitions only.
use Rattle.std.specs.Prelude.{ℕ, ◌+◌, ◌*◌, ◌/◌, ◌%◌, ◌<◌, List, ◌∷◌, ◌++◌, get_or}
use Rattle.wire.specs.Bytes.{u32_at, u32_bytes}
use Rattle.record.specs.declared.Rec.{Rec}

-- 16 bytes a record
abbrev pub size : ℕ
size = 16

-- what its length field says
abbrev pub body : ℕ
body = 13

-- a record as a bench's edit makes it
abbrev pub made : ℕ → ℕ → ℕ → ℕ → ℕ → Rec
made tag bench place old new = record { tag = tag; len = body; bench = bench; place = place; old = old; new = new }

-- the record that takes it back: old and new exchanged
abbrev pub flip : Rec → Rec
flip r = record { tag = r.tag; len = r.len; bench = r.bench; place = r.place; old = r.new; new = r.old }

-- what stands for the records past the last
abbrev pub nothing : Rec
nothing = made 0 0 0 0 0

-- a record's bytes
unfoldable pub record_bytes : Rec → List ℕ
record_bytes r = r.tag ∷ r.len % 256 ∷ r.len / 256 % 256 ∷ r.bench ∷ (u32_bytes r.place ++ (u32_bytes r.old ++ u32_bytes r.new))

-- the record that stands at a place of the journal, whatever its tag and length
unfoldable pub record_at : List ℕ → ℕ → Rec
record_at s at = record {
  tag = get_or s at 0;
  len = get_or s (at + 1) 0 + 256 * get_or s (at + 2) 0;
  bench = get_or s (at + 3) 0;
  place = u32_at s (at + 4);
  old = u32_at s (at + 8);
  new = u32_at s (at + 12);
}

-- its numbers fit their bytes
pub record Sized (r : Rec) : Type 0 where
  pub tag : r.tag < 256
  pub len : r.len < 65536
  pub bench : r.bench < 256
  pub place : r.place < 4294967296
  pub old : r.old < 4294967296
  pub new : r.new < 4294967296
