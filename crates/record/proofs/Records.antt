-- The laws of the journal's record: stored by four bytes and three numbers, read back, and untouched by a write behind it. Assumes nothing.
use mathlib.Core.Path.{◌≡◌, refl, sym, ◌∙◌}
use Prim.Native.Nat.{ℕ, ◌+◌, ◌*◌, ◌/◌, ◌%◌, ◌≤◌, ◌<◌}
use mathlib.Core.List.{List, [], ◌∷◌, ◌++◌}
use mathlib.Core.Logic.{inl}
use native.Mathlib.Omega.{arith}
use native.Mathlib.Nat.{add-zero, add_assoc}
use lib.ListN.{length, get_or, set, take}
use lib.Seq.{slice, length-slice, get_or-drop, get_or-take}
use Rattle.wire.specs.Bytes.{put, put_u32, u32_at, u32_bytes}
use Rattle.wire.proofs.Put.{length_put, put_below, put_in, put_append}
use Rattle.wire.proofs.Numbers.{four_stores, length_u32, length_put_u32, byte_other, u32_same, u32_other, u32_here}
use Rattle.record.specs.declared.Rec.{Rec}
use Rattle.record.specs.Record.{size, record_bytes, record_at, Sized}

-- the second part of what is put, at its place
append_at : (vs ws s : List ℕ) (at by : ℕ) → at + length vs ≡ by → put s at (vs ++ ws) ≡ put (put s at vs) by ws
append_at vs ws s at by e = rw (← e) (put_append vs ws s at)

-- as the code stores it: four bytes, then three numbers
pub put_record : (s : List ℕ) (at : ℕ) (r : Rec)
    → put_u32 (put_u32 (put_u32 (set (set (set (set s at r.tag) (at + 1) (r.len % 256)) (at + 2) (r.len / 256 % 256)) (at + 3) r.bench) (at + 4) r.place) (at + 8) r.old) (at + 12) r.new
    ≡ put s at (record_bytes r)
unfolding record_bytes
put_record s at r =
    let P = u32_bytes r.place in
    let O = u32_bytes r.old in
    let N = u32_bytes r.new in
    let h : List ℕ = r.tag ∷ r.len % 256 ∷ r.len / 256 % 256 ∷ r.bench ∷ [] in
    rw (four_stores s at r.tag (r.len % 256) (r.len / 256 % 256) r.bench)
    (sym (append_at h (P ++ (O ++ N)) s at (at + 4) refl
    ∙ append_at P (O ++ N) (put s at h) (at + 4) (at + 8) (omega (arith, length_u32 r.place))
    ∙ append_at O N (put (put s at h) (at + 4) P) (at + 8) (at + 12) (omega (arith, length_u32 r.old))))

pub length_record : (r : Rec) → length (record_bytes r) ≡ size
unfolding record_bytes u32_bytes
length_record r = refl

-- read back
pub record_at_put : (s : List ℕ) (at : ℕ) (r : Rec) → at + size ≤ length s → Sized r → record_at (put s at (record_bytes r)) at ≡ r
unfolding record_at
record_at_put s at r h z =
    let b : List ℕ = r.tag ∷ r.len % 256 ∷ r.len / 256 % 256 ∷ r.bench ∷ [] in
    let H : List ℕ = put s at b in
    let A : List ℕ = put_u32 H (at + 4) r.place in
    let B : List ℕ = put_u32 A (at + 8) r.old in
    let lH : length H ≡ length s = length_put b s at in
    let lA : length A ≡ length s = length_put_u32 H (at + 4) r.place ∙ lH in
    let lB : length B ≡ length s = length_put_u32 A (at + 8) r.old ∙ lA in
    let byte : (i : ℕ) → i < at + 4 → get_or (put_u32 B (at + 12) r.new) i 0 ≡ get_or H i 0 =
    λ i l. byte_other B (at + 12) r.new i (inl (omega arith)) ∙ byte_other A (at + 8) r.old i (inl (omega arith)) ∙ byte_other H (at + 4) r.place i (inl (omega arith)) in
    let e0 : get_or (put_u32 B (at + 12) r.new) at 0 ≡ r.tag = byte at (omega arith) ∙ rw add-zero at (put_in b s at 0 (omega arith) (omega arith)) in
    let e1 : get_or (put_u32 B (at + 12) r.new) (at + 1) 0 ≡ r.len % 256 = byte (at + 1) (omega arith) ∙ put_in b s at 1 (omega arith) (omega arith) in
    let e2 : get_or (put_u32 B (at + 12) r.new) (at + 2) 0 ≡ r.len / 256 % 256 = byte (at + 2) (omega arith) ∙ put_in b s at 2 (omega arith) (omega arith) in
    let eb : get_or (put_u32 B (at + 12) r.new) (at + 3) 0 ≡ r.bench = byte (at + 3) (omega arith) ∙ put_in b s at 3 (omega arith) (omega arith) in
    let e3 : u32_at (put_u32 B (at + 12) r.new) (at + 4) ≡ r.place =
    u32_other B (at + 12) r.new (at + 4) (inl (omega arith)) ∙ u32_other A (at + 8) r.old (at + 4) (inl (omega arith)) ∙ u32_here H (at + 4) r.place (omega arith) z.place in
    let e4 : u32_at (put_u32 B (at + 12) r.new) (at + 8) ≡ r.old =
    u32_other B (at + 12) r.new (at + 8) (inl (omega arith)) ∙ u32_here A (at + 8) r.old (omega arith) z.old in
    let e5 : u32_at (put_u32 B (at + 12) r.new) (at + 12) ≡ r.new = u32_here B (at + 12) r.new (omega arith) z.new in
    let el : r.len % 256 + 256 * (r.len / 256 % 256) ≡ r.len = omega (arith, z.len) in
    rw (← put_record s at r, four_stores s at r.tag (r.len % 256) (r.len / 256 % 256) r.bench, e0, e1, e2, eb, e3, e4, e5, el)

-- bytes that are the same are the same record
pub record_same : (s t : List ℕ) (at from : ℕ) → ((i : ℕ) → i < size → get_or s (at + i) 0 ≡ get_or t (from + i) 0) → record_at s at ≡ record_at t from
unfolding record_at
record_same s t at from h =
    let h0 : get_or s at 0 ≡ get_or t from 0 = simp add-zero at (h 0 (omega arith)) in
    rw (h0, h 1 (omega arith), h 2 (omega arith), h 3 (omega arith), word 4 (omega arith), word 8 (omega arith), word 12 (omega arith))
  where
    word : (d : ℕ) → d + 4 ≤ size → u32_at s (at + d) ≡ u32_at t (from + d)
    word d l = u32_same s t (at + d) (from + d) (λ j q. rw (add_assoc at d j, add_assoc from d j) (h (d + j) (omega arith)))

-- a write behind it
pub record_at_below : (vs s : List ℕ) (at i : ℕ) → i + size ≤ at → record_at (put s at vs) i ≡ record_at s i
record_at_below vs s at i h = record_same (put s at vs) s i i (λ j l. put_below vs s at (i + j) (omega arith))

-- a part of the bytes, copied to another place of the same bytes: the records in it are there now
pub record_moved : (s : List ℕ) (at from to d : ℕ) → to ≤ length s → at + to ≤ length s + from → from + d + size ≤ to
    → record_at (put s at (slice from to s)) (at + d) ≡ record_at s (from + d)
record_moved s at from to d h k l = record_same (put s at (slice from to s)) s (at + d) (from + d) byte
  where
    byte : (i : ℕ) → i < size → get_or (put s at (slice from to s)) (at + d + i) 0 ≡ get_or s (from + d + i) 0
    byte i q =
        let n = length-slice from to s h in
        rw (add_assoc at d i, add_assoc from d i)
        (put_in (slice from to s) s at (d + i) (omega arith) (omega arith) ∙ get_or-drop from (take to s) (d + i) 0 ∙ get_or-take to s (from + (d + i)) 0 (omega arith))

-- whose record was written, whatever its numbers
pub bench_put : (s : List ℕ) (at : ℕ) (r : Rec) → at + size ≤ length s → (record_at (put s at (record_bytes r)) at).bench ≡ r.bench
unfolding record_at record_bytes
bench_put s at r h = put_in (record_bytes r) s at 3 (omega (arith, length_record r)) (omega arith)
