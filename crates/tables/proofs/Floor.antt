-- The nine tables of a floor: their fields lie in the header, by one computed test; and what holds of nine numbers. Assumes nothing.
use mathlib.Core.Path.{◌≡◌, sym, ap, ◌∙◌}
use mathlib.Core.Bool.{Bool, ◌&&◌}
use Prim.Native.Nat.{ℕ, zero, suc, ◌*◌, ◌<◌, ◌≤◌, ◌^◌}
use native.Mathlib.Nat.{mul_assoc, mul_comm, mul-le-mul, lt_of_le_of_lt}
use native.Mathlib.Omega.{arith}
use lib.Dec.{T, leb, eqb, leb→le, eqb→eq}
use Rattle.verdict.proofs.Bools.{T_true, true_T, and_true}
use Rattle.verdict.proofs.Lists.{every_at}
use Rattle.tables.specs.Tables.{table_at, width, InHeader}
use Rattle.tables.specs.Header.{floor_tables}
use Rattle.tables.specs.declared.Table.{Table}

-- what holds of nine numbers
pub nine : (P : ℕ → Type 0) → P 0 → P 1 → P 2 → P 3 → P 4 → P 5 → P 6 → P 7 → P 8 → (k : ℕ) → k < 9 → P k
nine P p0 p1 p2 p3 p4 p5 p6 p7 p8 zero h = p0
nine P p0 p1 p2 p3 p4 p5 p6 p7 p8 (suc zero) h = p1
nine P p0 p1 p2 p3 p4 p5 p6 p7 p8 (suc (suc zero)) h = p2
nine P p0 p1 p2 p3 p4 p5 p6 p7 p8 (suc (suc (suc zero))) h = p3
nine P p0 p1 p2 p3 p4 p5 p6 p7 p8 (suc (suc (suc (suc zero)))) h = p4
nine P p0 p1 p2 p3 p4 p5 p6 p7 p8 (suc (suc (suc (suc (suc zero))))) h = p5
nine P p0 p1 p2 p3 p4 p5 p6 p7 p8 (suc (suc (suc (suc (suc (suc zero)))))) h = p6
nine P p0 p1 p2 p3 p4 p5 p6 p7 p8 (suc (suc (suc (suc (suc (suc (suc zero))))))) h = p7
nine P p0 p1 p2 p3 p4 p5 p6 p7 p8 (suc (suc (suc (suc (suc (suc (suc (suc zero)))))))) h = p8
nine P p0 p1 p2 p3 p4 p5 p6 p7 p8 (suc (suc (suc (suc (suc (suc (suc (suc (suc k))))))))) h = absurd (omega arith)

from_to : ℕ → ℕ → ℕ → Bool
from_to lo n hi = leb lo n && leb n hi

between : (lo n hi : ℕ) → T (from_to lo n hi) → (lo ≤ n) × (n ≤ hi)
unfolding from_to
between lo n hi t =
    let h = and_true (leb lo n) (leb n hi) (T_true _ t) in
    (leb→le lo n (true_T _ h.0), leb→le n hi (true_T _ h.1))

in_header : Table → Bool
in_header t = from_to 72 t.count 132 && (from_to 72 t.offset 132 && (from_to 1 t.size 44 && eqb t.size (4 * width t)))

in_header_lem : (t : Table) → T (in_header t) → InHeader t
unfolding in_header
in_header_lem t h =
    let a = and_true (from_to 72 t.count 132) (from_to 72 t.offset 132 && (from_to 1 t.size 44 && eqb t.size (4 * width t))) (T_true _ h) in
    let b = and_true (from_to 72 t.offset 132) (from_to 1 t.size 44 && eqb t.size (4 * width t)) a.1 in
    let c = and_true (from_to 1 t.size 44) (eqb t.size (4 * width t)) b.1 in
    let count = between 72 t.count 132 (true_T _ a.0) in
    let offset = between 72 t.offset 132 (true_T _ b.0) in
    let size = between 1 t.size 44 (true_T _ c.0) in
    record {
      count_from = count.0;
      count_in = count.1;
      offset_from = offset.0;
      offset_in = offset.1;
      size_some = size.0;
      size_small = size.1;
      size_words = eqb→eq t.size (4 * width t) (true_T _ c.1);
    }

pub floor_in_header : (k : ℕ) → k < 9 → InHeader (table_at floor_tables k)
unfolding in_header from_to
floor_in_header k h = in_header_lem _ (every_at in_header _ floor_tables tt k h)

-- so many entries fit a usize
pub product_fits : (n m : ℕ) → n < 2 ^ 32 → m ≤ 44 → n * m < 2 ^ 38
product_fits n m h l = lt_of_le_of_lt (mul-le-mul {n₂ = 2 ^ 32} {m₂ = 44} (omega arith) l) (omega arith)

-- entries of so many words are so many words
pub in_words : (n k : ℕ) → k < 9 → n * (table_at floor_tables k).size ≡ 4 * (n * width (table_at floor_tables k))
in_words n k l =
    let w = width (table_at floor_tables k) in
    ap (λ (x : ℕ). n * x) (floor_in_header k l).size_words ∙ sym (mul_assoc n 4 w) ∙ ap (λ (x : ℕ). x * w) (mul_comm n 4) ∙ mul_assoc 4 n w
