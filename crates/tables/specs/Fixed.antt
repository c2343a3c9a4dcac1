-- The fixed form of a floor's parts: the same header numbers, the tables from 136 on without gaps in order, every offset the running
-- position, empty tables too. Definitions only.
use Rattle.std.specs.Prelude.{ℕ, ◌+◌, ◌*◌, ◌≤◌, ◌<◌, ◌≡◌, List, [], ◌∷◌, ◌++◌, length, take}
use Rattle.wire.specs.Words.{bytes_of, joined, Words}
use Rattle.tables.specs.Tables.{table_at, width}
use Rattle.tables.specs.Header.{magic, floor_tables}
use Rattle.tables.specs.Parts.{Parts, table_of, count_of}

-- the running position: where table k starts
unfoldable pub start_of : Parts → ℕ → ℕ
start_of p k = 136 + 4 * length (joined (take k p.tables))

-- the header's numbers from 72 on
abbrev pub fields_of : Parts → List ℕ
fields_of p =
    p.vertices ∷ start_of p 0 ∷ p.faces ∷ start_of p 1 ∷ start_of p 2 ∷ start_of p 3 ∷ start_of p 4 ∷ p.nodes ∷ start_of p 5 ∷
    p.root ∷ p.adjacency ∷ start_of p 6 ∷ p.edges ∷ start_of p 7 ∷ p.perimeters ∷ start_of p 8 ∷ []

-- the form: rules 2 and 3 leave no choice for the first 12 bytes
unfoldable pub form_of : Parts → List ℕ
form_of p = magic ++ bytes_of (1 ∷ (p.floats ++ (fields_of p ++ joined p.tables)))

-- parts of the right sizes, as a file with a right header has
pub record Sized (p : Parts) : Type 0 where
  pub fifteen : length p.floats ≡ 15
  pub nine_tables : length p.tables ≡ 9
  pub sized : (k : ℕ) → k < 9 → length (table_of p k) ≡ count_of p k * width (table_at floor_tables k)
  pub vertices : p.vertices ≤ 4096
  pub faces : p.faces ≤ 4096
  pub nodes : p.nodes ≤ 8191
  pub adjacency : p.adjacency ≤ p.faces
  pub edges : p.edges ≤ 12288
  pub perimeters : p.perimeters ≤ 12288

-- and of 32-bit words
pub record Whole (p : Parts) : Type 0 where
  pub fit : Sized p
  pub root_word : p.root < 4294967296
  pub floats_words : Words p.floats
  pub tables_words : (k : ℕ) → k < 9 → Words (table_of p k)
