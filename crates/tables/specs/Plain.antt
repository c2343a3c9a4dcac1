-- Rules 1 to 6 as plain statements about a file's bytes: no test, no search. proofs/Right.antt shows both ways. Definitions only.
use Rattle.std.specs.Prelude.{ℕ, ◌≤◌, ◌<◌, ◌≡◌, ◌≢◌, List, length, get_or}
use Rattle.wire.specs.Bytes.{u32_at}
use Rattle.tables.specs.Tables.{table_at, span_of, In}
use Rattle.tables.specs.Header.{magic, floor_tables}

-- 4: the six counts
pub record Counts (b : List ℕ) : Type 0 where
  pub vertices : u32_at b 72 ≤ 4096
  pub faces : u32_at b 80 ≤ 4096
  pub nodes : u32_at b 100 ≤ 8191
  pub adjacency : u32_at b 112 ≤ u32_at b 80
  pub edges : u32_at b 120 ≤ 12288
  pub perimeters : u32_at b 128 ≤ 12288

pub record SoundHeader (b : List ℕ) : Type 0 where
  -- 1
  pub long : 136 ≤ length b
  pub short : length b ≤ 1048576
  -- 2: "BWM V1.0"
  pub word : (i : ℕ) → i < 8 → get_or b i 0 ≡ get_or magic i 0
  -- 3: world_coords is 1
  pub world : u32_at b 8 ≡ 1
  -- 4
  pub counts : Counts b
  -- 5: every byte of a table lies past the header and in the file
  pub inside : (k : ℕ) → k < 9 → (i : ℕ) → In (span_of b (table_at floor_tables k)) i → (136 ≤ i) × (i < length b)
  -- 6: two tables share no byte
  pub apart : (j k : ℕ) → j < 9 → k < 9 → j ≢ k → (i : ℕ) → In (span_of b (table_at floor_tables j)) i → In (span_of b (table_at floor_tables k)) i → ⊥
