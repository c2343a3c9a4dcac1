-- A file's parts, by the places of its words: one law for every table. Assumes nothing.
use mathlib.Core.Path.{◌≡◌, refl, sym, ap}
use mathlib.Core.Logic.{◌⊎◌, inl, inr, ◌≢◌}
use mathlib.Core.List.{List, []}
use Prim.Native.Nat.{ℕ, suc, ◌+◌, ◌*◌, ◌≤◌, ◌<◌, max}
use native.Mathlib.Nat.{mul-le-mul_right, suc-mul}
use native.Mathlib.Omega.{arith}
use native.Mathlib.Decide.{dec_lt}
use lib.ListN.{length, get_or}
use Rattle.verdict.proofs.Bools.{decided}
use Rattle.verdict.proofs.Lists.{map_at_lem}
use Rattle.wire.specs.Bytes.{u32_at, Bytes}
use Rattle.wire.specs.Words.{Words}
use Rattle.wire.proofs.Numbers.{u32_small}
use Rattle.wire.proofs.Runs.{length_words, word_at, words_read}
use Rattle.tables.specs.Tables.{table, table_at, width, span_of, entry_at}
use Rattle.tables.specs.Header.{floor_tables, RightHeader}
use Rattle.tables.specs.Parts.{table_words, parts_of, table_of, count_of, word_index, word_of, word_place, words_in}
use Rattle.tables.specs.Fixed.{Sized, Whole}
use Rattle.tables.proofs.Spans.{table_in, tables_apart}
use Rattle.tables.proofs.Floor.{nine, in_words}
use Rattle.tables.proofs.Right.{header_met, rule5_met, rule6_met}

-- a word that code reads at a place, and what stands there
pub read_at : (b : List ℕ) {r at place w : ℕ} → r ≡ u32_at b at → at ≡ place → w ≡ u32_at b place → r ≡ w
read_at b e p q = rw (e, p) (sym q)

-- ---- a table's words and its count

pub table_is : (b : List ℕ) (k : ℕ) → k < 9 → table_of (parts_of b) k ≡ table_words b (table_at floor_tables k)
unfolding parts_of
table_is b k l = map_at_lem (table_words b) (table 0 0 0) [] floor_tables k l

pub count_is : (b : List ℕ) (k : ℕ) → k < 9 → count_of (parts_of b) k ≡ u32_at b (table_at floor_tables k).count
unfolding parts_of
count_is b = nine (λ k. count_of (parts_of b) k ≡ u32_at b (table_at floor_tables k).count) refl refl refl refl refl refl refl refl refl

table_length : (b : List ℕ) (k : ℕ) → k < 9 → length (table_of (parts_of b) k) ≡ count_of (parts_of b) k * width (table_at floor_tables k)
unfolding table_words
table_length b k l = rw (table_is b k l, count_is b k l) (length_words b _ _)

table_words_lem : (b : List ℕ) → Bytes b → (k : ℕ) → k < 9 → Words (table_of (parts_of b) k)
unfolding table_words
table_words_lem b y k l = rw (table_is b k l) (words_read b y _ _)

-- ---- the parts of a right header are of the right sizes

pub sized_of : (b : List ℕ) → RightHeader b → Sized (parts_of b)
unfolding parts_of
sized_of b r =
    let n = (header_met b r).counts in
    record {
      fifteen = length_words b 12 15;
      nine_tables = refl;
      sized = table_length b;
      vertices = n.vertices;
      faces = n.faces;
      nodes = n.nodes;
      adjacency = n.adjacency;
      edges = n.edges;
      perimeters = n.perimeters;
    }

pub whole_of : (b : List ℕ) → RightHeader b → Bytes b → Whole (parts_of b)
unfolding parts_of
whole_of b r y = record { fit = sized_of b r; root_word = u32_small b y 108; floats_words = words_read b y 12 15; tables_words = table_words_lem b y }

-- ---- where a table lies, in words

pub start_at : (b : List ℕ) (k : ℕ) → (span_of b (table_at floor_tables k)).start ≡ u32_at b (table_at floor_tables k).offset
unfolding span_of
start_at b k = refl

pub stop_at : (b : List ℕ) (k : ℕ) → k < 9 → (span_of b (table_at floor_tables k)).stop ≡ u32_at b (table_at floor_tables k).offset + 4 * words_in b k
unfolding span_of
stop_at b k l = ap (λ (x : ℕ). u32_at b (table_at floor_tables k).offset + x) (in_words (u32_at b (table_at floor_tables k).count) k l)

-- a table with a word lies in the file, past the header
pub table_inside : (b : List ℕ) → RightHeader b → (k : ℕ) → k < 9 → 0 < words_in b k
    → (136 ≤ u32_at b (table_at floor_tables k).offset) × (u32_at b (table_at floor_tables k).offset + 4 * words_in b k ≤ length b)
table_inside b r k l m =
    let h = table_in 9 floor_tables b 136 (rule5_met b r) k l (omega (arith, start_at b k, stop_at b k l)) in
    omega (arith, start_at b k, stop_at b k l)

-- two words of two tables share no byte
pub words_apart : (b : List ℕ) → RightHeader b → (j k : ℕ) → j < 9 → k < 9 → j ≢ k → (x y : ℕ) → x < words_in b j → y < words_in b k
    → (word_place b j x + 4 ≤ word_place b k y) ⊎ (word_place b k y + 4 ≤ word_place b j x)
unfolding word_place
words_apart b r j k lj lk ne x y mx my =
    decided (dec_lt (word_place b k y) (word_place b j x + 4))
    (λ p. decided (dec_lt (word_place b j x) (word_place b k y + 4))
    (λ q. absurd (tables_apart 9 floor_tables b (rule6_met b r) j k lj lk ne (max (word_place b j x) (word_place b k y))
    (record { from = omega (arith, start_at b j); to = omega (arith, stop_at b j lj) })
    (record { from = omega (arith, start_at b k); to = omega (arith, stop_at b k lk) })))
    (λ q. inr (omega arith)))
    (λ p. inl (omega arith))

-- ---- word e of entry i

pub word_is : (b : List ℕ) (k : ℕ) → k < 9 → (j : ℕ) → j < words_in b k → get_or (table_of (parts_of b) k) j 0 ≡ u32_at b (word_place b k j)
unfolding word_place table_words
word_is b k lk j l = rw (table_is b k lk) (word_at b (u32_at b (table_at floor_tables k).offset) (words_in b k) j l)

module _ (b : List ℕ) (k : ℕ) (lk : k < 9) (i : ℕ) (li : i < count_of (parts_of b) k) (e : ℕ) (le : e < width (table_at floor_tables k)) where
  pub index_in : word_index k i e < words_in b k
  index_in =
      let v = width (table_at floor_tables k) in
      let h : suc i * v ≤ words_in b k = mul-le-mul_right v (rw (count_is b k lk) at li) in
      omega (arith, suc-mul i v)

  pub place_is : word_place b k (word_index k i e) ≡ entry_at b (table_at floor_tables k) i + 4 * e
  unfolding word_place entry_at
  place_is = omega (arith, in_words i k lk)

  pub word_of_lem : word_of (parts_of b) k i e ≡ u32_at b (word_place b k (word_index k i e))
  unfolding word_of
  word_of_lem = word_is b k lk (word_index k i e) index_in

  pub word_read : {r at : ℕ} → r ≡ u32_at b at → at ≡ word_place b k (word_index k i e) → r ≡ word_of (parts_of b) k i e
  word_read p q = read_at b p q word_of_lem

-- one of the header's floats
pub float_is : (b : List ℕ) (i : ℕ) → i < 15 → get_or (parts_of b).floats i 0 ≡ u32_at b (12 + 4 * i)
unfolding parts_of
float_is b i l = word_at b 12 15 i l
