-- The parts of a floor: its header's numbers and its tables, wherever the tables lie. Offsets are no parts. Definitions only.
use Rattle.std.specs.Prelude.{ℕ, ◌+◌, ◌*◌, ◌/◌, ◌%◌, List, [], ◌∷◌, map, get_or, set}
use Rattle.wire.specs.Bytes.{u32_at}
use Rattle.wire.specs.Words.{words_at}
use Rattle.tables.specs.Tables.{table_at, width}
use Rattle.tables.specs.Header.{floor_tables}
use Rattle.tables.specs.declared.Table.{Table}

-- the word for none, in whichever table: -1 as 32 bits
abbrev pub none32 : ℕ
none32 = 0xFFFF_FFFF

pub record Parts : Type 0 where
  pub floats : List ℕ  -- the header's fifteen, four use positions and the position, as words
  pub vertices : ℕ
  pub faces : ℕ
  pub nodes : ℕ
  pub root : ℕ
  pub adjacency : ℕ
  pub edges : ℕ
  pub perimeters : ℕ
  pub tables : List (List ℕ)  -- the nine, each a run of words

-- the words of a table
unfoldable pub table_words : List ℕ → Table → List ℕ
table_words b t = words_at b (u32_at b t.offset) (u32_at b t.count * width t)

-- the parts of a file
unfoldable pub parts_of : List ℕ → Parts
parts_of b = record {
  floats = words_at b 12 15;
  vertices = u32_at b 72;
  faces = u32_at b 80;
  nodes = u32_at b 100;
  root = u32_at b 108;
  adjacency = u32_at b 112;
  edges = u32_at b 120;
  perimeters = u32_at b 128;
  tables = map (table_words b) floor_tables;
}

-- table k, and how many entries it has
abbrev pub table_of : Parts → ℕ → List ℕ
table_of p k = get_or p.tables k []

abbrev pub count_of : Parts → ℕ → ℕ
count_of p k =
    get_or (p.vertices ∷ p.faces ∷ p.faces ∷ p.faces ∷ p.faces ∷ p.nodes ∷ p.adjacency ∷ p.edges ∷ p.perimeters ∷ []) k 0

-- word e of entry i of table k: where it stands in the table's run of words, and what it is
abbrev pub word_index : ℕ → ℕ → ℕ → ℕ
word_index k i e = i * width (table_at floor_tables k) + e

unfoldable pub word_of : Parts → ℕ → ℕ → ℕ → ℕ
word_of p k i e = get_or (table_of p k) (word_index k i e) 0

-- the words of the entries by their names: coordinate e of a vertex, corner e of a face, a face's material, the words of a node,
-- the adjacency entry of half-edge h, an edge entry's half-edge and transition, a perimeter entry
abbrev pub vertex_word : Parts → ℕ → ℕ → ℕ
vertex_word p i e = word_of p 0 i e

abbrev pub corner : Parts → ℕ → ℕ → ℕ
corner p f e = word_of p 1 f e

abbrev pub material : Parts → ℕ → ℕ
material p f = word_of p 2 f 0

abbrev pub node_word : Parts → ℕ → ℕ → ℕ
node_word p n e = word_of p 5 n e

abbrev pub adjacent_to : Parts → ℕ → ℕ
adjacent_to p h = word_of p 6 (h / 3) (h % 3)

abbrev pub edge_of : Parts → ℕ → ℕ
edge_of p i = word_of p 7 i 0

abbrev pub transition : Parts → ℕ → ℕ
transition p i = word_of p 7 i 1

abbrev pub loop_end : Parts → ℕ → ℕ
loop_end p j = word_of p 8 j 0

-- where word j of table k lies in a file: the only place where offsets are read
unfoldable pub word_place : List ℕ → ℕ → ℕ → ℕ
word_place b k j = u32_at b (table_at floor_tables k).offset + 4 * j

-- how many words table k has in a file
abbrev pub words_in : List ℕ → ℕ → ℕ
words_in b k = u32_at b (table_at floor_tables k).count * width (table_at floor_tables k)

-- the parts with one word of one table set, and with one of the header's floats set
unfoldable pub with_word : Parts → ℕ → ℕ → ℕ → Parts
with_word p k j w = record {
  floats = p.floats;
  vertices = p.vertices;
  faces = p.faces;
  nodes = p.nodes;
  root = p.root;
  adjacency = p.adjacency;
  edges = p.edges;
  perimeters = p.perimeters;
  tables = set p.tables k (set (table_of p k) j w);
}

unfoldable pub with_float : Parts → ℕ → ℕ → Parts
with_float p i w = record {
  floats = set p.floats i w;
  vertices = p.vertices;
  faces = p.faces;
  nodes = p.nodes;
  root = p.root;
  adjacency = p.adjacency;
  edges = p.edges;
  perimeters = p.perimeters;
  tables = p.tables;
}
