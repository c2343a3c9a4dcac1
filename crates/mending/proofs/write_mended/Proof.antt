-- The header, then table by table. Assumes nothing.
use native.Mathlib.Omega.{arith}
use Prim.Native.Nat.{ℕ, ◌+◌, ◌*◌, ◌<◌, ◌≤◌}
use mathlib.Core.Path.{◌≡◌, refl, sym, subst}
use mathlib.Core.List.{List}
use lib.ListN.{length, take, drop}
use Rattle.wire.specs.Bytes.{u32_at, put, Bytes}
use Rattle.wire.specs.Words.{bytes_of}
use Rattle.tables.specs.Tables.{table_at}
use Rattle.tables.specs.Header.{floor_tables, RightHeader}
use Rattle.tables.specs.Parts.{Parts, parts_of, table_of, words_in}
use Rattle.tables.specs.Fixed.{Sized, form_of}
use Rattle.tables.proofs.Reform.{length_form}
use Rattle.fixed.specs.Written.{Few}
use Rattle.fixed.proofs.Parted.{few_numbers}
use Rattle.fixed.proofs.UpTo.{UpTo, up_start, up_room, up_next, up_done, form_long, copy_room, up_copied}
use Rattle.corners.specs.Corners.{relinked}
use Rattle.seams.specs.Mended.{mended}
use Rattle.mending.specs.Worked.{Worked}
use Rattle.mending.proofs.Form.{corners_table, adjacency_table, entries_table, ends_table}
use Rattle.mending.proofs.write_mended.Statement.{statement}
use Rattle.mending.proofs.write_mended.Tie as tie

-- the file, the mended floor, and the output as it was
abbrev file : tie.Start → List ℕ
file s = s.args.bytes.now

abbrev floor : tie.Start → Parts
floor s = mended (parts_of (file s))

abbrev old : tie.Start → List ℕ
old s = s.args.out.now

-- the form up to table k stands in the output
abbrev Has : tie.Start → List ℕ → ℕ → ℕ → Type 0
Has s out at k = UpTo (floor s) (old s) out at k

right : (s : tie.Start) → RightHeader (file s)
right s = s.requires.0.0.right

sized : (s : tie.Start) → Sized (floor s)
sized s = s.requires.0.2

room : (s : tie.Start) → length (form_of (floor s)) ≤ length (old s)
room s = s.requires.1

-- ---- from each call back to the header, and from there to the start

abbrev start : tie.After-write_head → tie.Start
start c = c.before.before.before.before.before

abbrev h0 : tie.After-copy_table-a → tie.After-write_head
h0 c = c.before.before.before.before

abbrev h1 : tie.After-put_corners-b → tie.After-write_head
h1 c = h0 c.before.before.before.before

abbrev h2 : tie.After-copy_table-c → tie.After-write_head
h2 c = h1 c.before.before.before.before

abbrev h3 : tie.After-copy_table-d → tie.After-write_head
h3 c = h2 c.before.before.before.before

abbrev h4 : tie.After-copy_table-f → tie.After-write_head
h4 c = h3 c.before.before.before.before

abbrev h5 : tie.After-copy_table-g → tie.After-write_head
h5 c = h4 c.before.before.before.before

abbrev h6 : tie.After-put_adjacency-h → tie.After-write_head
h6 c = h5 c.before.before.before.before

abbrev h7 : tie.After-put_entries-i → tie.After-write_head
h7 c = h6 c.before.before.before.before

-- ---- what stands in the output after each call

bytes_of_lem : (c : tie.After-write_head) → Bytes (file (start c))
bytes_of_lem c = record { byte = λ i. omega (arith, c.shared_slice_known-1.given i) }

has_head : (c : tie.After-write_head) → Has (start c) c.write_head.new.out 136 0
has_head c =
    let s = start c in
    up_start (floor s) (sized s) (old s) (room s) _ s.requires.0.1 (unfold mended relinked in c.write_head.ensures)

-- a table that stays, and one that is written afresh
copied : (c : tie.After-write_head) (k : ℕ) {out new : List ℕ} {at here : ℕ} → let s = start c in
    k < 9 → table_of (floor s) k ≡ table_of (parts_of (file s)) k → Has s out at k
    → (here ≡ at + 4 * words_in (file s) k) × (new ≡ put out at (take (4 * words_in (file s) k) (drop (u32_at (file s) (table_at floor_tables k).offset) (file s)))) → Has s new here (k + 1)
copied c k l is u e = let s = start c in up_copied (floor s) (sized s) (old s) (room s) (file s) (right s) k l is (bytes_of_lem c) u e

written : (s : tie.Start) (k : ℕ) {t out new : List ℕ} {at here : ℕ} → k < 9 → table_of (floor s) k ≡ t → Has s out at k
    → here ≡ at + 4 * length t → new ≡ put out at (bytes_of t) → Has s new here (k + 1)
written s k l is u n e = up_next (floor s) (sized s) (old s) (room s) k l is u n e

has_0 : (c : tie.After-copy_table-a) → Has (start (h0 c)) c.copy_table-a.new.out c.copy_table-a.result 1
has_0 c = copied (h0 c) 0 (omega arith) (unfold mended relinked in refl) (has_head (h0 c)) c.copy_table-a.ensures

has_1 : (c : tie.After-put_corners-b) → Has (start (h1 c)) c.put_corners-b.new.out c.put_corners-b.result 2
has_1 c = written (start (h1 c)) 1 (omega arith) (corners_table _) (has_0 c.before.before.before.before) c.put_corners-b.ensures.0 c.put_corners-b.ensures.1

has_2 : (c : tie.After-copy_table-c) → Has (start (h2 c)) c.copy_table-c.new.out c.copy_table-c.result 3
has_2 c = copied (h2 c) 2 (omega arith) (unfold mended relinked in refl) (has_1 c.before.before.before.before) c.copy_table-c.ensures

has_3 : (c : tie.After-copy_table-d) → Has (start (h3 c)) c.copy_table-d.new.out c.copy_table-d.result 4
has_3 c = copied (h3 c) 3 (omega arith) (unfold mended relinked in refl) (has_2 c.before.before.before.before) c.copy_table-d.ensures

has_4 : (c : tie.After-copy_table-f) → Has (start (h4 c)) c.copy_table-f.new.out c.copy_table-f.result 5
has_4 c = copied (h4 c) 4 (omega arith) (unfold mended relinked in refl) (has_3 c.before.before.before.before) c.copy_table-f.ensures

has_5 : (c : tie.After-copy_table-g) → Has (start (h5 c)) c.copy_table-g.new.out c.copy_table-g.result 6
has_5 c = copied (h5 c) 5 (omega arith) (unfold mended relinked in refl) (has_4 c.before.before.before.before) c.copy_table-g.ensures

has_6 : (c : tie.After-put_adjacency-h) → Has (start (h6 c)) c.put_adjacency-h.new.out c.put_adjacency-h.result 7
has_6 c = written (start (h6 c)) 6 (omega arith) (adjacency_table _) (has_5 c.before.before.before.before) c.put_adjacency-h.ensures.0 c.put_adjacency-h.ensures.1

has_7 : (c : tie.After-put_entries-i) → Has (start (h7 c)) c.put_entries-i.new.out c.put_entries-i.result 8
has_7 c = written (start (h7 c)) 7 (omega arith) (entries_table _) (has_6 c.before.before.before.before) c.put_entries-i.ensures.0 c.put_entries-i.ensures.1

-- ---- what each call asks for

write_head_requires : tie.Need-write_head-requires
write_head_requires c κs =
    let s = c.before.before.before.before in
    (right s, subst Few (sym s.requires.0.1) (few_numbers (floor s) (sized s)), omega (arith, room s, length_form (floor s) (sized s)))

copy_asks : (s : tie.Start) (k : ℕ) {out : List ℕ} {at : ℕ} → k < 9 → table_of (floor s) k ≡ table_of (parts_of (file s)) k → Has s out at k
    → RightHeader (file s) × (k < 9) × (at + 4 * words_in (file s) k ≤ length out)
copy_asks s k l is u = (right s, l, copy_room (floor s) (sized s) (old s) (room s) (file s) (right s) k l is u)

put_asks : (s : tie.Start) (k : ℕ) {t out : List ℕ} {at : ℕ} → k < 9 → table_of (floor s) k ≡ t → Has s out at k
    → Worked (file s) s.args.work.now s.args.e × (at ≤ 737372) × (at + 4 * length t ≤ length out)
put_asks s k l is u = let r = up_room (floor s) (sized s) (old s) (room s) k l u in (s.requires.0.0, r.0, rw is at r.1)

copy_table_requires : tie.Need-copy_table-a-requires
copy_table_requires c κs = let a = c.before.before.before in copy_asks (start a) 0 (omega arith) (unfold mended relinked in refl) (has_head a)

put_corners_requires : tie.Need-put_corners-b-requires
put_corners_requires c κs = let a = c.before.before.before in put_asks (start (h0 a)) 1 (omega arith) (corners_table _) (has_0 a)

copy_table_requires_2 : tie.Need-copy_table-c-requires
copy_table_requires_2 c κs = let a = c.before.before.before in copy_asks (start (h1 a)) 2 (omega arith) (unfold mended relinked in refl) (has_1 a)

copy_table_requires_3 : tie.Need-copy_table-d-requires
copy_table_requires_3 c κs = let a = c.before.before.before in copy_asks (start (h2 a)) 3 (omega arith) (unfold mended relinked in refl) (has_2 a)

copy_table_requires_4 : tie.Need-copy_table-f-requires
copy_table_requires_4 c κs = let a = c.before.before.before in copy_asks (start (h3 a)) 4 (omega arith) (unfold mended relinked in refl) (has_3 a)

copy_table_requires_5 : tie.Need-copy_table-g-requires
copy_table_requires_5 c κs = let a = c.before.before.before in copy_asks (start (h4 a)) 5 (omega arith) (unfold mended relinked in refl) (has_4 a)

put_adjacency_requires : tie.Need-put_adjacency-h-requires
put_adjacency_requires c κs = let a = c.before.before.before in put_asks (start (h5 a)) 6 (omega arith) (adjacency_table _) (has_5 a)

put_entries_requires : tie.Need-put_entries-i-requires
put_entries_requires c κs = let a = c.before.before.before in put_asks (start (h6 a)) 7 (omega arith) (entries_table _) (has_6 a)

put_ends_requires : tie.Need-put_ends-requires
put_ends_requires c κs = let a = c.before.before.before in put_asks (start (h7 a)) 8 (omega arith) (ends_table _) (has_7 a)

-- ---- the whole form

returns : tie.Need-returns
returns c =
    let e = c.before.before in
    let a = e.before.before.before.before in
    let s = start (h7 a) in
    up_done (floor s) (sized s) (old s) (room s) (written s 8 (omega arith) (ends_table _) (has_7 a) refl e.put_ends.ensures)

same_length : tie.Need-shape_of-out
same_length c = let s = start (h7 c.before.before.before.before.before.before) in form_long (floor s) (sized s) (old s) (room s) (returns c)

pub write_mended_spec : {M : Type 1} → statement M
write_mended_spec =
    tie.close (tie.spec write_head_requires copy_table_requires put_corners_requires copy_table_requires_2 copy_table_requires_3 copy_table_requires_4 copy_table_requires_5 put_adjacency_requires put_entries_requires put_ends_requires same_length returns)
