-- What is found by search is what the words say, both ways: a bench that holds none, its latest record, and a record that is blocked.
-- Assumes nothing.
use mathlib.Core.Path.{◌≡◌}
use mathlib.Core.Bool.{Bool, true, ◌&&◌}
use Prim.Native.Nat.{ℕ}
use native.Mathlib.Decide.{ℕ_discrete}
use lib.Dec.{ltb, eqb}
use borrow.Author.Tests.{eq-eqb, ne_eqb, lt-ltb, ltb-true, eqb-true, eqb-false}
use Rattle.std.specs.declared.option.Option.TheVariants.{None, Some}
use Rattle.verdict.specs.Lowest.{lowest}
use Rattle.verdict.proofs.Bools.{and_true, true_and, decided}
use Rattle.verdict.proofs.Lists.{tally_none, none_tally}
use Rattle.verdict.proofs.Lowest.{some_under, found_under}
use Rattle.verdict.proofs.Highest.{highest_is, highest_only}
use Rattle.record.specs.declared.Rec.{Rec}
use Rattle.holding.specs.Held.{is_of, same_field, other, held, latest, latest_held, blocked}
use Rattle.holding.specs.Plain.{HoldsNone, IsLatest, Blocked}

-- the test of 43 that is made of record x
abbrev pub hindering : (ℕ → Rec) → ℕ → ℕ → ℕ → Bool
hindering at bench i x = ltb i x && is_of (other bench) (at x) && same_field (at i) (at x)

module _ (at : ℕ → Rec) (f bench : ℕ) where
  -- ---- none

  pub none_plain : held at f bench ≡ 0 → HoldsNone at f bench
  unfolding held is_of
  none_plain z j l e = eqb-false _ bench (tally_none f (λ i. is_of bench (at i)) z j l) e

  pub plain_none : HoldsNone at f bench → held at f bench ≡ 0
  unfolding held is_of
  plain_none h = none_tally f (λ i. is_of bench (at i)) (λ j l. ne_eqb _ bench (h j l))

  -- ---- the latest

  pub latest_plain : (held at f bench ≡ 0 → ⊥) → IsLatest at f bench (latest at f bench)
  unfolding held latest is_of
  latest_plain z =
      let h = highest_is f (λ i. is_of bench (at i)) z in
      record { under = h.under; own = eqb-true _ bench h.holds; last = λ j l m. eqb-false _ bench (h.above j l m) }

  pub plain_latest : (i : ℕ) → IsLatest at f bench i → latest at f bench ≡ i
  unfolding latest is_of
  plain_latest i h =
      highest_only f (λ k. is_of bench (at k)) i (record { under = h.under; holds = eq-eqb _ bench h.own; above = λ j l m. ne_eqb _ bench (h.last j l m) })

  -- a latest record is told just where the bench holds one
  pub held_some : (i : ℕ) → Some i ≡ latest_held at f bench → (held at f bench ≡ 0 → ⊥) × (i ≡ latest at f bench)
  unfolding latest_held
  held_some i e =
      decided (ℕ_discrete (held at f bench) 0) (λ z. absurd (let h : Some i ≡ None = rw (eq-eqb (held at f bench) 0 z) at e in cc))
      (λ ne. (ne, let h : Some i ≡ Some (latest at f bench) = rw (ne_eqb (held at f bench) 0 ne) at e in cc))

  pub held_none : None ≡ latest_held at f bench → held at f bench ≡ 0
  unfolding latest_held
  held_none e =
      decided (ℕ_discrete (held at f bench) 0) (λ z. z)
      (λ ne. absurd (let h : None ≡ Some (latest at f bench) = rw (ne_eqb (held at f bench) 0 ne) at e in cc))

  -- ---- 43

  pub blocked_plain : (i : ℕ) → blocked at f bench i ≡ true → Blocked at f bench i
  unfolding blocked is_of same_field
  blocked_plain i e =
      let h = found_under (hindering at bench i) f e in
      let j = lowest f (hindering at bench i) in
      let p = and_true (ltb i j && is_of (other bench) (at j)) (same_field (at i) (at j)) h.1 in
      let q = and_true (ltb i j) (is_of (other bench) (at j)) p.0 in
      let s = and_true (eqb (at i).tag (at j).tag) (eqb (at i).place (at j).place) p.1 in
      record { by = j; later = ltb-true i j q.0; under = h.0; owner = eqb-true _ _ q.1; tag = eqb-true _ _ s.0; place = eqb-true _ _ s.1 }

  pub plain_blocked : (i : ℕ) → Blocked at f bench i → blocked at f bench i ≡ true
  unfolding blocked is_of same_field
  plain_blocked i b =
      some_under (hindering at bench i) f b.by b.under
      (true_and (ltb i b.by && is_of (other bench) (at b.by)) (same_field (at i) (at b.by))
      (true_and (ltb i b.by) (is_of (other bench) (at b.by)) (lt-ltb i b.by b.later) (eq-eqb _ _ b.owner))
      (true_and (eqb (at i).tag (at b.by).tag) (eqb (at i).place (at b.by).place) (eq-eqb _ _ b.tag) (eq-eqb _ _ b.place)))
