-- The plain list alone: what every list that a run of calls makes has, and that an edit and an undo keep it. Assumes nothing.
use mathlib.Core.Path.{◌≡◌, ap}
use mathlib.Core.Bool.{true, false, ◌&&◌}
use Prim.Native.Nat.{ℕ, suc, ◌/◌, ◌≤◌, ◌<◌}
use mathlib.Core.List.{List, [], ◌∷◌, ◌++◌}
use native.Mathlib.Omega.{arith}
use native.Mathlib.Decide.{dec_lt, ℕ_discrete}
use lib.Dec.{eqb, ltb}
use lib.ListN.{length}
use borrow.Author.Tests.{eq-eqb, ne_eqb, lt-ltb, le-ltb, eqb-false}
use Rattle.verdict.specs.Verdict.{accepted}
use Rattle.verdict.specs.Lists.{tally}
use Rattle.verdict.proofs.Bools.{clash, decided, true_and, and_false}
use Rattle.verdict.proofs.Lists.{tally_none}
use Rattle.verdict.specs.Lowest.{IsHighest}
use Rattle.verdict.proofs.Lowest.{none_under, under_none}
use Rattle.verdict.proofs.Highest.{highest_is, highest_only}
use Rattle.verdict.proofs.Verdict.{then_both, passed, unbroken, met}
use Rattle.record.specs.declared.Rec.{Rec}
use Rattle.laying.specs.Kind.{Kind, lay}
use Rattle.laying.specs.Fields.{Field, field_of}
use Rattle.journal.specs.Lawful.{Lawful, Fits}
use Rattle.journal.specs.Replay.{Chain}
use Rattle.holding.specs.Held.{listed, is_of, same_field, other, held, latest, blocked}
use Rattle.journal.specs.Plain.{floor_of, held_by, latest_in, blocked_in, plain_undo_rules, plain_undo}
use Rattle.holding.proofs.Owners.{own_bit, other_bit, is_other}
use Rattle.journal.proofs.Replays.{chain_none, chain_snoc}
use Rattle.journal.proofs.TakenOut.{Out, out_of_list}
use Rattle.journal.proofs.Without.{length_more, listed_more, listed_last, held_more, length_without, listed_below, listed_above, held_without, held_all}

-- a list that could have come about, where R records fit: every record is a bench's, no bench holds more than its half, and each record
-- fits the floor before it
pub record Could (K : Kind) (opening : List ℕ) (R : ℕ) (rs : List Rec) : Type 0 where
  pub owners : (i : ℕ) → i < length rs → (listed rs i).bench ≤ 1
  pub halves : (bench : ℕ) → bench ≤ 1 → held_by bench rs ≤ R / 2
  pub chain : Chain (lay K) (Fits K) opening rs

module _ (K : Kind) (opening : List ℕ) (R : ℕ) where
  pub could_none : Could K opening R []
  unfolding held tally
  could_none = record { owners = λ i l. absurd (omega arith); halves = λ bench b. omega arith; chain = chain_none (lay K) (Fits K) opening }

  module _ (rs : List Rec) (k : Could K opening R rs) where
    -- the records fit the journal
    pub few : length rs ≤ R
    few = omega (arith, held_all rs 0 (omega arith) k.owners, k.halves 0 (omega arith), k.halves 1 (omega arith))

    -- a bench that holds less than its half has room for a record, whatever the other one did
    pub room_left : (bench : ℕ) → bench ≤ 1 → held_by bench rs < R / 2 → length rs < R
    room_left bench b l = omega (arith, held_all rs bench b k.owners, k.halves (other bench) (omega arith))

    -- an edit
    pub could_edit : (r : Rec) → r.bench ≤ 1 → held_by r.bench rs < R / 2 → Fits K (floor_of K opening rs) r → Could K opening R (rs ++ (r ∷ []))
    could_edit r b l fit = record {
      owners = λ i h. decided (dec_lt i (length rs)) (λ g. rw (listed_more rs r i g) (k.owners i g))
          (λ g. let e : i ≡ length rs = omega (arith, length_more rs r) in rw (e, listed_last rs r) b);
      halves = λ bench h. decided (ℕ_discrete r.bench bench)
          (λ e. rw (held_more rs r bench, ← e) (omega (arith, own_bit r)))
          (λ e. rw (held_more rs r bench) (omega (arith, other_bit r bench e, k.halves bench h)));
      chain = chain_snoc (lay K) (Fits K) rs r opening k.chain fit;
    }

-- ---- an undo

module _ (bench : ℕ) (rs : List Rec) where
  -- the bench's latest record, where it holds one
  pub latest_is : (held_by bench rs ≡ 0 → ⊥) → IsHighest (λ i. is_of bench (listed rs i)) (length rs) (latest_in bench rs)
  unfolding held latest
  latest_is z = highest_is (length rs) (λ i. is_of bench (listed rs i)) z

  -- what 26 and 43 let through
  pub record UndoMet : Type 0 where
    pub some : held_by bench rs ≡ 0 → ⊥
    pub free : blocked_in bench rs ≡ false

  pub undo_met : (plain_undo_rules bench rs).number ≡ 0 → UndoMet
  unfolding plain_undo_rules
  undo_met z =
      let p = passed _ _ z in
      record { some = eqb-false _ _ (unbroken 25 _ (length rs) p.0); free = unbroken 42 _ (length rs) p.1 }

-- records of which the test says no have different fields
pub fields_differ : (r q : Rec) → same_field r q ≡ false → field_of r ≡ field_of q → ⊥
unfolding same_field
fields_differ r q e f =
    clash (true_and (eqb r.tag q.tag) (eqb r.place q.place) (eq-eqb _ _ (ap (λ (x : Field). x.tag) f)) (eq-eqb _ _ (ap (λ (x : Field). x.place) f))) e

module _ (K : Kind) (opening : List ℕ) (R : ℕ) (bench : ℕ) (b : bench ≤ 1) (rs : List Rec) (k : Could K opening R rs) (m : UndoMet bench rs) where
  -- the bench's latest record shares its field with no later one
  pub none_later : (j : ℕ) → latest_in bench rs < j → j < length rs → field_of (listed rs (latest_in bench rs)) ≡ field_of (listed rs j) → ⊥
  unfolding blocked
  none_later j l h =
      let i = latest_in bench rs in
      let own = is_other bench (listed rs j) b (k.owners j h) ((latest_is bench rs m.some).above j l h) in
      let e = none_under (λ x. ltb i x && is_of (other bench) (listed rs x) && same_field (listed rs i) (listed rs x)) (length rs) m.free j h in
      fields_differ (listed rs i) (listed rs j) (and_false (ltb i j && is_of (other bench) (listed rs j)) (same_field (listed rs i) (listed rs j)) e (true_and (ltb i j) _ (lt-ltb i j l) own))

  module _ (A : List ℕ → Type 0) (L : Lawful K A) (acc : A opening) where
    -- so it is taken out as the theorem says
    pub undo_out : Out K A L opening rs (plain_undo bench rs) (listed rs (latest_in bench rs))
    undo_out = out_of_list K A L rs (latest_in bench rs) opening acc k.chain (latest_is bench rs m.some).under none_later

    pub could_undo : Could K opening R (plain_undo bench rs)
    could_undo = record {
      owners = λ j h. decided (dec_lt j i) (λ g. rw (listed_below rs i l j g) (k.owners j (omega (arith, l))))
          (λ g. rw (listed_above rs i l j (omega arith)) (k.owners (suc j) (omega (arith, length_without rs i l))));
      halves = λ x h. omega (arith, held_without rs i l x, k.halves x h);
      chain = undo_out.chain;
    }
      where
        i : ℕ
        i = latest_in bench rs

        l : i < length rs
        l = (latest_is bench rs m.some).under

-- ---- the last record of all: no later one can stand in its way, so its bench can undo

module _ (bench : ℕ) (rs : List Rec) (i : ℕ) (last : length rs ≡ suc i) (own : (listed rs i).bench ≡ bench) where
  own_last : is_of bench (listed rs i) ≡ true
  unfolding is_of
  own_last = eq-eqb (listed rs i).bench bench own

  latest_last : latest_in bench rs ≡ i
  unfolding latest
  latest_last = highest_only (length rs) (λ k. is_of bench (listed rs k)) i (record { under = omega arith; holds = own_last; above = λ j l m. absurd (omega arith) })

  pub last_met : UndoMet bench rs
  unfolding held blocked
  last_met = record {
    some = λ z. clash own_last (tally_none (length rs) (λ k. is_of bench (listed rs k)) z i (omega arith));
    free = rw latest_last (under_none (λ j. ltb i j && is_of (other bench) (listed rs j) && same_field (listed rs i) (listed rs j)) (length rs) (λ j l. rw (le-ltb i j (omega arith))));
  }

-- and what 26 and 43 let through they accept
pub met_undo : (bench : ℕ) (rs : List Rec) → UndoMet bench rs → plain_undo_rules bench rs ≡ accepted
unfolding plain_undo_rules
met_undo bench rs m = rw (ne_eqb (held_by bench rs) 0 m.some, m.free) (then_both (met 26 (length rs)) (met 43 (length rs)))
