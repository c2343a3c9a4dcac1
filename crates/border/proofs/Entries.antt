-- 17 and 18 and their plain statements: the edge entries are the borders, each once, and transitions are -1 to 63. Assumes nothing.
use mathlib.Core.Path.{◌≡◌, refl, sym, ◌∙◌}
use mathlib.Core.Bool.{Bool, true, false, not}
use mathlib.Core.Logic.{◌⊎◌, inl, inr}
use Prim.Native.Nat.{ℕ, ◌<◌, ◌≤◌}
use native.Mathlib.Omega.{arith}
use native.Mathlib.Decide.{dec_lt}
use lib.Dec.{eqb, ltb}
use borrow.Author.Tests.{lt-ltb, le-ltb, eq-eqb, ne_eqb, eqb-true, not-false}
use Rattle.verdict.specs.Lowest.{lowest, any_under}
use Rattle.verdict.specs.Verdict.{accepted, rule, rule_of_each}
use Rattle.verdict.proofs.Bools.{clash, test, decided, and_false, or_false, false_or, not_of_true}
use Rattle.verdict.proofs.Lowest.{none_under, under_none, some_under, found_under}
use Rattle.verdict.proofs.Verdict.{each_met, each_passes, then_both, passed, unbroken, met}
use Rattle.tables.specs.Parts.{none32, Parts, edge_of, transition}
use Rattle.pairs.specs.Halves.{halves, border}
use Rattle.pairs.proofs.Paired.{border_of, border_to}
use Rattle.border.specs.Loops.{stands_in, wrong_edge, missing, rule17, wrong_transition, rule18}
use Rattle.border.specs.Plain.{OneEntry, Bordered, Linked}

module _ (p : Parts) where
  -- ---- 17

  edge_border : (i : ℕ) → wrong_edge p i ≡ false → border p (edge_of p i) ≡ true
  unfolding wrong_edge
  edge_border i e = not-false (border p (edge_of p i)) (or_false (not (border p (edge_of p i))) (stands_in p i (edge_of p i)) e).0

  edge_new : (i : ℕ) → wrong_edge p i ≡ false → (j : ℕ) → j < i → edge_of p j ≡ edge_of p i → ⊥
  unfolding wrong_edge stands_in
  edge_new i e j l q =
      let t : ℕ → Bool = λ k. eqb (edge_of p k) (edge_of p i) in
      clash (eq-eqb (edge_of p j) (edge_of p i) q) (none_under t i (or_false (not (border p (edge_of p i))) (any_under i t) e).1 j l)

  one_entry : ((i : ℕ) → i < p.edges → wrong_edge p i ≡ false) → (h : ℕ) → stands_in p p.edges h ≡ true → OneEntry p h
  unfolding stands_in
  one_entry right h s =
      let a = lowest p.edges (λ i. eqb (edge_of p i) h) in
      let f = found_under (λ i. eqb (edge_of p i) h) p.edges s in
      let here = eqb-true (edge_of p a) h f.1 in
      record {
        at = a;
        below = f.0;
        here = here;
        only = λ i l e.
            decided (dec_lt a i) (λ m. absurd (edge_new i (right i l) a m (here ∙ sym e)))
            (λ m. decided (dec_lt i a) (λ n. absurd (edge_new a (right a f.0) i n (e ∙ sym here))) (λ n. omega arith));
      }

  not_missing : (h : ℕ) → missing p h ≡ false → border p h ≡ true → stands_in p p.edges h ≡ true
  unfolding missing
  not_missing h e b = not-false (stands_in p p.edges h) (and_false (border p h) (not (stands_in p p.edges h)) e b)

  -- rule 17 is unbroken exactly if the entries are the borders, each once
  pub bordered_of : (rule17 p).number ≡ 0 → Bordered p
  unfolding rule17
  bordered_of z =
      let q = passed (rule_of_each 17 p.edges (wrong_edge p) (λ i. i)) (rule 17 (any_under (halves p) (missing p)) p.edges) z in
      let right = each_met 16 p.edges (wrong_edge p) (λ i. i) q.0 in
      let all = none_under (missing p) (halves p) (unbroken 16 (any_under (halves p) (missing p)) p.edges q.1) in
      record {
        borders = λ i l. border_of p (edge_of p i) (edge_border i (right i l));
        once = λ h b. one_entry right h (not_missing h (all h b.inside) (border_to p h b));
      }

  wrong_no : Bordered p → (i : ℕ) → i < p.edges → wrong_edge p i ≡ false
  unfolding wrong_edge stands_in
  wrong_no b i l =
      let o = b.once (edge_of p i) (b.borders i l) in
      let t : ℕ → Bool = λ j. eqb (edge_of p j) (edge_of p i) in
      false_or (not (border p (edge_of p i))) (any_under i t) (not_of_true (border p (edge_of p i)) (border_to p (edge_of p i) (b.borders i l)))
      (under_none t i
      (λ j k. ne_eqb (edge_of p j) (edge_of p i) (λ (e : edge_of p j ≡ edge_of p i). omega (arith, o.only j (omega arith) e, o.only i l refl))))

  missing_no : Bordered p → (h : ℕ) → missing p h ≡ false
  unfolding missing stands_in
  missing_no b h =
      test (border p h)
      (λ y.
      let o = b.once h (border_of p h y) in
      rw (y, some_under (λ i. eqb (edge_of p i) h) p.edges o.at o.below (eq-eqb (edge_of p o.at) h o.here)))
      (λ y. rw y)

  pub bordered_to : Bordered p → rule17 p ≡ accepted
  unfolding rule17
  bordered_to b =
      then_both (each_passes 17 p.edges (wrong_edge p) (λ i. i) (wrong_no b))
      (rw (under_none (missing p) (halves p) (λ h l. missing_no b h)) (met 17 p.edges))

  -- ---- 18

  pub linked_of : (rule18 p).number ≡ 0 → Linked p
  unfolding rule18 wrong_transition
  linked_of z = record {
    each = λ i l.
        let e = each_met 17 p.edges (wrong_transition p) (λ k. k) z i l in
        let t = transition p i in
        decided (dec_lt 63 t)
        (λ m. inr (eqb-true t none32 (not-false (eqb t none32) (and_false (ltb 63 t) (not (eqb t none32)) e (lt-ltb 63 t m)))))
        (λ m. inl (omega arith));
  }

  pub linked_to : Linked p → rule18 p ≡ accepted
  unfolding rule18 wrong_transition
  linked_to r = each_passes 18 p.edges (wrong_transition p) (λ k. k) (λ i l. by i (r.each i l))
    where
      by : (i : ℕ) → (transition p i ≤ 63) ⊎ (transition p i ≡ none32) → wrong_transition p i ≡ false
      by i (inl l) = rw (le-ltb 63 (transition p i) l)
      by i (inr e) = rw e
