-- A fixed form written table by table, over any parts of the right sizes: tables that stay are copied from a file, others are written afresh.
-- Assumes nothing.
use Prim.Native.Nat.{ℕ, ◌+◌, ◌*◌, ◌≤◌, ◌<◌}
use native.Mathlib.Omega.{arith}
use mathlib.Core.Path.{◌≡◌, refl, sym, ap, ◌∙◌}
use mathlib.Core.List.{List}
use lib.ListN.{length, take, drop}
use Rattle.verdict.specs.Output.{over}
use Rattle.verdict.proofs.Output.{length_over}
use Rattle.wire.specs.Bytes.{u32_at, put, Bytes}
use Rattle.wire.specs.Words.{bytes_of}
use Rattle.wire.proofs.Runs.{length_bytes}
use Rattle.tables.specs.Tables.{table_at}
use Rattle.tables.specs.Header.{floor_tables, RightHeader}
use Rattle.tables.specs.Parts.{Parts, parts_of, table_of, words_in}
use Rattle.tables.specs.Fixed.{start_of, form_of, Sized}
use Rattle.tables.proofs.Reform.{start_more, start_mono, start_first, whole_length, form_most, length_form}
use Rattle.fixed.specs.Written.{numbers_of, head_by, form_up_to}
use Rattle.fixed.specs.declared.Numbers.{Numbers}
use Rattle.fixed.proofs.Parted.{over_put, up_length, up_all, head_of, up_more, table_words_lem, table_read}

-- out has the form of m up to table k over the start of o, and table k goes to `at`
pub record UpTo (m : Parts) (o out : List ℕ) (at k : ℕ) : Type 0 where
  pub form : out ≡ over (form_up_to m k) o
  pub next : at ≡ start_of m k

module _ (m : Parts) (h : Sized m) (o : List ℕ) (room : length (form_of m) ≤ length o) where
  -- the form ends where a tenth table would start
  start_room : (k : ℕ) → k ≤ 9 → (start_of m k ≤ length o) × (start_of m k ≤ 737372)
  start_room k l = let e = start_mono m h k 9 l in (omega (arith, whole_length m h, length_form m h), omega (arith, whole_length m h, form_most m h))

  table_long : (k : ℕ) → k < 9 → start_of m (k + 1) ≡ start_of m k + 4 * length (table_of m k)
  table_long k l = omega (arith, start_more m h k l, h.sized k l)

  pub up_start : (n : Numbers) {out : List ℕ} → n ≡ numbers_of m → out ≡ over (head_by m.floats n) o → UpTo m o out 136 0
  up_start n e q = record { form = head_of m h n o e q; next = sym (start_first m h) }

  -- there is room for table k
  pub up_room : (k : ℕ) {out : List ℕ} {at : ℕ} → k < 9 → UpTo m o out at k → (at ≤ 737372) × (at + 4 * length (table_of m k) ≤ length out)
  up_room k {out} l u =
      let e : length out ≡ length o = rw u.form (length_over (form_up_to m k) o (omega (arith, up_length m h k, (start_room k (omega arith)).0))) in
      (omega (arith, u.next, (start_room k (omega arith)).1), omega (arith, u.next, table_long k l, (start_room (k + 1) (omega arith)).0))

  -- table k written
  pub up_next : (k : ℕ) {t out new : List ℕ} {at here : ℕ} → k < 9 → table_of m k ≡ t → UpTo m o out at k
      → here ≡ at + 4 * length t → new ≡ put out at (bytes_of t) → UpTo m o new here (k + 1)
  up_next k l is u n e = record {
    form = rw (e, u.form, u.next, ← is)
        (over_put (form_up_to m k) o (bytes_of (table_of m k)) (start_of m k) (up_length m h k) (omega (arith, length_bytes (table_of m k), table_long k l, (start_room (k + 1) (omega arith)).0))
        ∙ ap (λ (d : List ℕ). over d o) (up_more m h k l));
    next = omega (arith, n, u.next, table_long k l, ap length is);
  }

  pub up_done : {out : List ℕ} {at : ℕ} → UpTo m o out at 9 → out ≡ over (form_of m) o
  up_done u = u.form ∙ ap (λ (d : List ℕ). over d o) (up_all m h)

  pub form_long : {out : List ℕ} → out ≡ over (form_of m) o → length out ≡ length o
  form_long e = rw e (length_over (form_of m) o room)

  -- a table that stays, copied from the file
  module _ (b : List ℕ) (r : RightHeader b) (k : ℕ) (l : k < 9) (is : table_of m k ≡ table_of (parts_of b) k) where
    words_are : length (table_of m k) ≡ words_in b k
    words_are = ap length is ∙ table_words_lem b r k l

    pub copy_room : {out : List ℕ} {at : ℕ} → UpTo m o out at k → at + 4 * words_in b k ≤ length out
    copy_room u = omega (arith, words_are, (up_room k l u).1)

    pub up_copied : Bytes b → {out new : List ℕ} {at here : ℕ} → UpTo m o out at k
        → (here ≡ at + 4 * words_in b k) × (new ≡ put out at (take (4 * words_in b k) (drop (u32_at b (table_at floor_tables k).offset) b))) → UpTo m o new here (k + 1)
    up_copied y {out} {new} {at} u e =
        up_next k l refl u (omega (arith, e.0, words_are)) (e.1 ∙ ap (put out at) (table_read b r y k l ∙ ap bytes_of (sym is)))
