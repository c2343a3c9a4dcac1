-- The tables of a file, by the header fields that say where they lie: rules 5 and 6, for any list of tables. Definitions only.
use Rattle.std.specs.Prelude.{ℕ, ◌+◌, ◌*◌, ◌/◌, min, max, ◌≤◌, ◌<◌, ◌≡◌, Bool, ◌&&◌, ◌||◌, List, length, get_or, ltb}
use Rattle.verdict.specs.Lowest.{any_under}
use Rattle.verdict.specs.Verdict.{rule_of_each}
use Rattle.verdict.specs.declared.Answer.{Answer}
use Rattle.wire.specs.Bytes.{u32_at}
use Rattle.tables.specs.declared.Table.{Table}
use Rattle.tables.specs.declared.Span.{Span}

-- a table by the positions of its count and of its offset in the header, and the size of an entry
abbrev pub table : ℕ → ℕ → ℕ → Table
table c o s = record { count = c; offset = o; size = s }

-- table k of a list
abbrev pub table_at : List Table → ℕ → Table
table_at ts k = get_or ts k (table 0 0 0)

-- words in an entry
abbrev pub width : Table → ℕ
width t = t.size / 4

-- where a table lies: from its offset on, as many entries as its count
unfoldable pub span_of : List ℕ → Table → Span
span_of b t = record {
  start = u32_at b t.offset;
  stop = u32_at b t.offset + u32_at b t.count * t.size;
}

-- where entry i of a table lies
unfoldable pub entry_at : List ℕ → Table → ℕ → ℕ
entry_at b t i = u32_at b t.offset + i * t.size

-- not empty, and it starts under `head` or ends past `len`
unfoldable pub outside : ℕ → ℕ → Span → Bool
outside head len s = ltb s.start s.stop && (ltb s.start head || ltb len s.stop)

-- some byte lies in both; an empty table has none
unfoldable pub shares : Span → Span → Bool
shares s u = ltb (max s.start u.start) (min s.stop u.stop)

-- table k lies outside the file
unfoldable pub outside_at : ℕ → List Table → List ℕ → ℕ → Bool
outside_at head ts b k = outside head (length b) (span_of b (table_at ts k))

-- table k shares a byte with an earlier one
unfoldable pub shares_earlier : List Table → List ℕ → ℕ → Bool
shares_earlier ts b k = any_under k (λ j. shares (span_of b (table_at ts k)) (span_of b (table_at ts j)))

-- 5: a nonempty table starts under `head` or ends past the file; place the first such offset field. Of the first n tables
unfoldable pub rule5 : ℕ → ℕ → List Table → List ℕ → Answer
rule5 head n ts b = rule_of_each 5 n (outside_at head ts b) (λ k. (table_at ts k).offset)

-- 6: a nonempty table shares a byte with that of an earlier offset field; place the first such field. Of the first n tables
unfoldable pub rule6 : ℕ → List Table → List ℕ → Answer
rule6 n ts b = rule_of_each 6 n (shares_earlier ts b) (λ k. (table_at ts k).offset)

-- "byte i lies in a span", as a plain statement
pub record In (s : Span) (i : ℕ) : Type 0 where
  pub from : s.start ≤ i
  pub to : i < s.stop

-- a table's fields are numbers of the header, and its entries are a few whole words
pub record InHeader (t : Table) : Type 0 where
  pub count_from : 72 ≤ t.count
  pub count_in : t.count ≤ 132
  pub offset_from : 72 ≤ t.offset
  pub offset_in : t.offset ≤ 132
  pub size_some : 1 ≤ t.size
  pub size_small : t.size ≤ 44
  pub size_words : t.size ≡ 4 * width t
