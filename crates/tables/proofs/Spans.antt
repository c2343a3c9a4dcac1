-- The laws of tables, for any list of tables: entries lie inside the file, and two tables share no byte. Assumes nothing.
use mathlib.Core.Path.{◌≡◌, refl}
use mathlib.Core.Logic.{◌≢◌}
use mathlib.Core.Bool.{true, false}
use mathlib.Core.List.{List}
use Prim.Native.Nat.{ℕ, suc, ◌+◌, ◌-◌, ◌*◌, ◌<◌, ◌≤◌, min, max}
use native.Mathlib.Nat.{mul-le-mul_right, suc-mul}
use native.Mathlib.Omega.{arith}
use native.Mathlib.Decide.{dec_lt}
use lib.Dec.{ltb}
use lib.ListN.{length}
use borrow.Author.Tests.{lt-ltb, le-ltb, ltb-true, ltb-false}
use Rattle.verdict.proofs.Bools.{clash, decided, and_no}
use Rattle.verdict.proofs.Lowest.{none_under}
use Rattle.verdict.proofs.Verdict.{each_met}
use Rattle.wire.specs.Bytes.{u32_at}
use Rattle.tables.specs.Tables.{table_at, span_of, entry_at, outside, outside_at, shares, shares_earlier, rule5, rule6, In}
use Rattle.tables.specs.declared.Span.{Span}
use Rattle.tables.specs.declared.Table.{Table}

-- ---- a span, and two

-- one that is not outside, and has a byte, lies between the header and the end; and the other way round
pub inside_of : (head len : ℕ) (s : Span) → outside head len s ≡ false → s.start < s.stop → (head ≤ s.start) × (s.stop ≤ len)
unfolding outside
inside_of head len s h l =
    decided (dec_lt s.start head) (λ q. clash (rw (lt-ltb _ _ l, lt-ltb _ _ q) refl) h)
    (λ q. decided (dec_lt len s.stop) (λ r. clash (rw (lt-ltb _ _ l, le-ltb s.start head (omega arith), lt-ltb _ _ r) refl) h) (λ r. omega arith))

pub inside_is : (head len : ℕ) (s : Span) → head ≤ s.start → s.stop ≤ len → outside head len s ≡ false
unfolding outside
inside_is head len s h l = rw (le-ltb s.start head h, le-ltb len s.stop l) (and_no (ltb s.start s.stop))

-- and by its bytes
pub inside_from : (len : ℕ) (s : Span) → ((i : ℕ) → In s i → (136 ≤ i) × (i < len)) → outside 136 len s ≡ false
unfolding outside
inside_from len s h =
    decided (dec_lt s.start s.stop)
    (λ l.
    let first = h s.start (record { from = omega arith; to = l }) in
    let last = h (s.stop - 1) (record { from = omega arith; to = omega arith }) in
    inside_is 136 len s first.0 (omega arith))
    (λ l. rw (le-ltb s.start s.stop (omega arith)))

-- `shares` is "some byte lies in both"
pub apart_of : (s u : Span) → shares s u ≡ false → (i : ℕ) → In s i → In u i → ⊥
unfolding shares
apart_of s u h i p q = omega (arith, ltb-false (max s.start u.start) (min s.stop u.stop) h, p.from, p.to, q.from, q.to)

pub meet_of : (s u : Span) → shares s u ≡ true → In s (max s.start u.start) × In u (max s.start u.start)
unfolding shares
meet_of s u h =
    let l = ltb-true (max s.start u.start) (min s.stop u.stop) h in
    (record { from = omega arith; to = omega arith }, record { from = omega arith; to = omega arith })

pub after_is : (s u : Span) → u.stop ≤ s.start → shares s u ≡ false
unfolding shares
after_is s u h = le-ltb (max s.start u.start) (min s.stop u.stop) (omega arith)

-- ---- the tables of a file

module _ (n : ℕ) (ts : List Table) (b : List ℕ) where
  -- a table that has an entry lies in the file, past the header
  pub table_in : (head : ℕ) → (rule5 head n ts b).number ≡ 0 → (k : ℕ) → k < n → (span_of b (table_at ts k)).start < (span_of b (table_at ts k)).stop
      → (head ≤ (span_of b (table_at ts k)).start) × ((span_of b (table_at ts k)).stop ≤ length b)
  unfolding rule5 outside_at
  table_in head z k l some = inside_of head (length b) (span_of b (table_at ts k)) (each_met 4 n (outside_at head ts b) _ z k l) some

  -- every entry of every table lies in the file, past the header
  pub entry_inside : (head : ℕ) → (rule5 head n ts b).number ≡ 0 → (k : ℕ) → k < n → (i : ℕ) → i < u32_at b (table_at ts k).count → 0 < (table_at ts k).size
      → (head ≤ entry_at b (table_at ts k) i) × (entry_at b (table_at ts k) i + (table_at ts k).size ≤ length b)
  unfolding span_of entry_at
  entry_inside head z k l i m pos =
      let end : suc i * (table_at ts k).size ≤ u32_at b (table_at ts k).count * (table_at ts k).size = mul-le-mul_right (table_at ts k).size m in
      let h = table_in head z k l (omega (arith, suc-mul i (table_at ts k).size)) in
      omega (arith, suc-mul i (table_at ts k).size)

  -- two tables share no byte
  earlier : (rule6 n ts b).number ≡ 0 → (j k : ℕ) → j < k → k < n → (i : ℕ) → In (span_of b (table_at ts k)) i → In (span_of b (table_at ts j)) i → ⊥
  unfolding rule6 shares_earlier
  earlier z j k l m =
      apart_of (span_of b (table_at ts k)) (span_of b (table_at ts j))
      (none_under (λ h. shares (span_of b (table_at ts k)) (span_of b (table_at ts h))) k (each_met 5 n (shares_earlier ts b) _ z k m) j l)

  pub tables_apart : (rule6 n ts b).number ≡ 0 → (j k : ℕ) → j < n → k < n → j ≢ k
      → (i : ℕ) → In (span_of b (table_at ts j)) i → In (span_of b (table_at ts k)) i → ⊥
  tables_apart z j k lj lk ne i p q = decided (dec_lt j k) (λ l. earlier z j k l lk i q p) (λ l. earlier z k j (omega arith) lj i p q)
