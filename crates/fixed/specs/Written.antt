-- The fixed form as it is written: its header from the counts and the root alone, and the form up to a table. Definitions only.
use Rattle.std.specs.Prelude.{ℕ, zero, suc, ◌+◌, ◌*◌, ◌≤◌, List, [], ◌∷◌, ◌++◌, get_or, take}
use Rattle.wire.specs.Words.{bytes_of, joined}
use Rattle.tables.specs.Tables.{table_at, width}
use Rattle.tables.specs.Header.{magic, floor_tables}
use Rattle.tables.specs.Parts.{Parts}
use Rattle.tables.specs.Fixed.{fields_of}
use Rattle.fixed.specs.declared.Numbers.{Numbers}

-- the counts and the root of some parts
unfoldable pub numbers_of : Parts → Numbers
numbers_of p = record {
  vertices = p.vertices;
  faces = p.faces;
  nodes = p.nodes;
  root = p.root;
  adjacency = p.adjacency;
  edges = p.edges;
  perimeters = p.perimeters;
}

-- how many entries table k has, by the counts
abbrev pub count_by : Numbers → ℕ → ℕ
count_by n k =
    get_or (n.vertices ∷ n.faces ∷ n.faces ∷ n.faces ∷ n.faces ∷ n.nodes ∷ n.adjacency ∷ n.edges ∷ n.perimeters ∷ []) k 0

-- the running position, by the counts
unfoldable pub start_by : Numbers → ℕ → ℕ
start_by n zero = 136
start_by n (suc k) = start_by n k + 4 * (count_by n k * width (table_at floor_tables k))

-- the header's numbers from 72 on, by the counts and the root
abbrev pub fields_by : Numbers → List ℕ
fields_by n =
    n.vertices ∷ start_by n 0 ∷ n.faces ∷ start_by n 1 ∷ start_by n 2 ∷ start_by n 3 ∷ start_by n 4 ∷ n.nodes ∷ start_by n 5 ∷
    n.root ∷ n.adjacency ∷ start_by n 6 ∷ n.edges ∷ start_by n 7 ∷ n.perimeters ∷ start_by n 8 ∷ []

-- the header with these floats, counts and root
unfoldable pub head_by : List ℕ → Numbers → List ℕ
head_by floats n = (magic ++ bytes_of (1 ∷ floats)) ++ bytes_of (fields_by n)

-- counts that rule 4 lets through
pub record Few (n : Numbers) : Type 0 where
  pub vertices : n.vertices ≤ 4096
  pub faces : n.faces ≤ 4096
  pub nodes : n.nodes ≤ 8191
  pub adjacency : n.adjacency ≤ 4096
  pub edges : n.edges ≤ 12288
  pub perimeters : n.perimeters ≤ 12288

-- the fixed form up to table k, not included
unfoldable pub form_up_to : Parts → ℕ → List ℕ
form_up_to p k = magic ++ bytes_of (1 ∷ (p.floats ++ (fields_of p ++ joined (take k p.tables))))
