-- The floor's header: its nine tables, and the reader's rules 1 to 6 in order. Definitions only.
use Rattle.std.specs.Prelude.{ℕ, ◌≡◌, Bool, not, ◌||◌, List, [], ◌∷◌, length, get_or, ltb, eqb}
use Rattle.verdict.specs.Lowest.{any_under}
use Rattle.verdict.specs.Verdict.{rule, ◌then◌, in_order}
use Rattle.verdict.specs.declared.Answer.{Answer}
use Rattle.wire.specs.Bytes.{u32_at}
use Rattle.tables.specs.Tables.{table, rule5, rule6}
use Rattle.tables.specs.declared.Table.{Table}

-- vertices, faces, materials, normals, distances, nodes, adjacency, edges, perimeters; materials, normals and distances count as faces
abbrev pub floor_tables : List Table
floor_tables =
    table 72 76 12 ∷ table 80 84 12 ∷ table 80 88 4 ∷ table 80 92 12 ∷ table 80 96 4 ∷ table 100 104 44 ∷
    table 112 116 12 ∷ table 120 124 8 ∷ table 128 132 4 ∷ []

-- "BWM V1.0"
abbrev pub magic : List ℕ
magic = 66 ∷ 87 ∷ 77 ∷ 32 ∷ 86 ∷ 49 ∷ 46 ∷ 48 ∷ []

-- a length under 136 or over 1,048,576
unfoldable pub wrong_length : ℕ → Bool
wrong_length n = ltb n 136 || ltb 1048576 n

-- byte k is not that of a word
unfoldable pub differs : List ℕ → List ℕ → ℕ → Bool
differs word b k = not (eqb (get_or b k 0) (get_or word k 0))

-- some of the first bytes is not that of a word
unfoldable pub starts_wrong : List ℕ → List ℕ → Bool
starts_wrong word b = any_under (length word) (differs word b)

-- 4, of one count field: over so many
unfoldable pub limit : List ℕ → ℕ → ℕ → Answer
limit b field most = rule 4 (ltb most (u32_at b field)) field

-- 1: length under 136 or over 1,048,576
unfoldable pub rule1 : List ℕ → Answer
rule1 b = rule 1 (wrong_length (length b)) 0

-- 2: first 8 bytes wrong
unfoldable pub rule2 : List ℕ → Answer
rule2 b = rule 2 (starts_wrong magic b) 0

-- 3: world_coords not 1
unfoldable pub rule3 : List ℕ → Answer
rule3 b = rule 3 (not (eqb (u32_at b 8) 1)) 8

-- 4: vertices or faces over 4,096, nodes over 8,191, A over faces, edges or perimeters over 12,288; place the first such count field
unfoldable pub rule4 : List ℕ → Answer
rule4 b =
    limit b 72 4096 then limit b 80 4096 then limit b 100 8191 then limit b 112 (u32_at b 80) then
    limit b 120 12288 then limit b 128 12288

-- the rules of the header's fields: what is asked of a file that is long enough to have a header
unfoldable pub field_rules : List ℕ → List Answer
field_rules b = rule2 b ∷ rule3 b ∷ rule4 b ∷ rule5 136 9 floor_tables b ∷ rule6 9 floor_tables b ∷ []

-- rules 1 to 6
unfoldable pub header_rules : List ℕ → List Answer
header_rules b = rule1 b ∷ field_rules b

unfoldable pub header_verdict : List ℕ → Answer
header_verdict b = in_order (header_rules b)

-- the file has a right header: what later rules and functions may go by
abbrev pub RightHeader : List ℕ → Type 0
RightHeader b = (header_verdict b).number ≡ 0
