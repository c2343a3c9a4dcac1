-- Area floors are a lawful kind for the floors that are editable, so demand 3 holds for them as it stands. Assumes nothing.
use mathlib.Core.Path.{◌≡◌, refl, ap}
use mathlib.Core.Bool.{true}
use Prim.Native.Nat.{ℕ, ◌+◌, ◌*◌, ◌<◌}
use mathlib.Core.List.{List, []}
use native.Mathlib.Omega.{arith}
use native.Mathlib.Decide.{ℕ_discrete}
use lib.ListN.{length, get_or}
use Rattle.verdict.proofs.Bools.{decided}
use Rattle.wire.specs.Bytes.{Bytes}
use Rattle.wire.proofs.Numbers.{bytes_put_u32}
use Rattle.tables.specs.Parts.{Parts, parts_of, word_index, word_of, transition, with_word, with_float}
use Rattle.tables.specs.Fixed.{Sized}
use Rattle.tables.proofs.Reading.{sized_of}
use Rattle.tables.proofs.Writing.{set_here, set_elsewhere, set_other_table}
use Rattle.record.specs.declared.Rec.{Rec}
use Rattle.laying.specs.Allowed.{linkable}
use Rattle.laying.specs.Kind.{lay}
use Rattle.laying.specs.Area.{area_floor}
use Rattle.laying.proofs.Area.{lay_right}
use Rattle.journal.specs.Lawful.{Fits, Lawful}
use Rattle.journal.specs.Step.{lent}
use Rattle.journal.specs.Calls.{Call, run}
use Rattle.journal.specs.Plain.{plain_run}
use Rattle.journal.specs.Demand.{Demand3}
use Rattle.journal.specs.Editable.{Editable}
use Rattle.journal.proofs.Lawful.{fits_ways, area_lawful}
use Rattle.journal.proofs.Demand.{demand3}

-- ---- the transitions after one word was set

module _ (p : Parts) (s : Sized p) where
  painted : (j w entry : ℕ) → transition (with_word p 2 j w) entry ≡ transition p entry
  unfolding word_of
  painted j w entry = ap (λ (t : List ℕ). get_or t (word_index 7 entry 1) 0) (set_other_table p 2 j w s.nine_tables (omega arith) 7 (λ e. omega arith))

  nudged : (i w entry : ℕ) → transition (with_float p i w) entry ≡ transition p entry
  unfolding word_of with_float
  nudged i w entry = refl

  linked_here : (entry w : ℕ) → entry < p.edges → transition (with_word p 7 (2 * entry + 1) w) entry ≡ w
  unfolding word_of
  linked_here entry w l =
      let e : word_index 7 entry 1 ≡ 2 * entry + 1 = omega arith in
      rw e (set_here p 7 (2 * entry + 1) w s.nine_tables (omega arith) (omega (arith, s.sized 7 (omega arith))))

  linked_other : (at w entry : ℕ) → (entry ≡ at → ⊥) → transition (with_word p 7 (2 * at + 1) w) entry ≡ transition p entry
  unfolding word_of
  linked_other at w entry n = set_elsewhere p 7 (2 * at + 1) w s.nine_tables (omega arith) (word_index 7 entry 1) (λ e. n (omega arith))

-- ---- what a record that fits keeps

keeps : (fl : List ℕ) (r : Rec) → Editable fl → Fits area_floor fl r → Editable (lay area_floor fl r)
keeps fl r a o = record { bytes = written; right = lay_right fl r a.right o.inside; linked = fits_ways fl r a.right o (λ face word i w h e. paint face word e) (λ at word i w h e. link at word i h e) (λ place word i w h e. nudge place word e) }
  where
    p : Parts
    p = parts_of fl

    s : Sized p
    s = sized_of fl a.right

    Linked : Parts → Type 0
    Linked q = (entry : ℕ) → entry < q.edges → linkable (transition q entry) ≡ true

    written : Bytes (lay area_floor fl r)
    written = unfold lay in bytes_put_u32 fl _ r.new a.bytes

    paint : (face word : ℕ) → parts_of (lay area_floor fl r) ≡ with_word p 2 face word → Linked (parts_of (lay area_floor fl r))
    paint face word e = rw e (λ entry l. rw (painted p s face word entry) (a.linked entry (unfold with_word in l)))

    link : (at word : ℕ) → at < p.edges → linkable word ≡ true → parts_of (lay area_floor fl r) ≡ with_word p 7 (2 * at + 1) word → Linked (parts_of (lay area_floor fl r))
    link at word i h e =
        rw e (λ entry l.
        decided (ℕ_discrete entry at) (λ z. rw (z, linked_here p s at word i) h)
        (λ n. rw (linked_other p s at word entry n) (a.linked entry (unfold with_word in l))))

    nudge : (place word : ℕ) → parts_of (lay area_floor fl r) ≡ with_float p place word → Linked (parts_of (lay area_floor fl r))
    nudge place word e = rw e (λ entry l. rw (nudged p s place word entry) (a.linked entry (unfold with_float in l)))

pub editable_lawful : Lawful area_floor Editable
editable_lawful = area_lawful Editable (λ fl a. a.bytes) (λ fl a. a.right) (λ fl entry a i. a.linked entry i) keeps

-- demand 3 for every editable floor, every journal and every run of calls
pub demand3_editable : (opening journal : List ℕ) → Editable opening → (cs : List Call)
    → Demand3 area_floor Editable opening (length journal) (run area_floor cs (lent opening journal 0)) (plain_run area_floor opening (length journal) cs [])
demand3_editable opening journal a cs = demand3 area_floor opening (length journal) Editable editable_lawful a journal refl cs
