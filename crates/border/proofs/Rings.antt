-- 19 and its plain statement: edges in closed loops, and every edge entry in exactly one of them. Assumes nothing.
use mathlib.Core.Path.{◌≡◌, refl, ap, subst, sym, ◌∙◌}
use mathlib.Core.Bool.{false, not, ◌||◌}
use mathlib.Core.Logic.{⊎_elim}
use Prim.Native.Nat.{ℕ, zero, suc, ◌+◌, ◌-◌, ◌<◌, ◌≤◌}
use native.Mathlib.Omega.{arith}
use native.Mathlib.Nat.{eq-or-lt_of_le, le_of_suc-le-suc}
use native.Mathlib.Decide.{dec_lt}
use lib.Dec.{eqb, ltb}
use borrow.Author.Tests.{eq-eqb, ltb-true, ltb-false, eqb-true, not-false}
use Rattle.verdict.specs.Verdict.{accepted, rule, rule_of_each}
use Rattle.verdict.proofs.Bools.{decided, or_false, not_of_true}
use Rattle.verdict.proofs.Lowest.{none_under, under_none}
use Rattle.verdict.proofs.Verdict.{each_met, each_passes, then_both, passed, unbroken, met}
use Rattle.tables.specs.Parts.{Parts, edge_of, loop_end}
use Rattle.pairs.specs.Halves.{from, to}
use Rattle.border.specs.Loops.{loop_start, after, open_at, open_run, wrong_loop, rule19}
use Rattle.border.specs.Plain.{OneLoop, ClosedChain, Looped}
use Rattle.border.proofs.Loops.{after_step, after_last, loop_run}

-- ---- a closed chain

module _ (p : Parts) (s t : ℕ) where
  meets : (i : ℕ) → open_at p s t i ≡ false → to p (edge_of p i) ≡ from p (edge_of p (after s t i))
  unfolding open_at
  meets i e =
      let a = to p (edge_of p i) in
      let b = from p (edge_of p (after s t i)) in
      eqb-true a b (not-false (eqb a b) e)

  not_open : (i : ℕ) → to p (edge_of p i) ≡ from p (edge_of p (after s t i)) → open_at p s t i ≡ false
  unfolding open_at
  not_open i e =
      let a = to p (edge_of p i) in
      let b = from p (edge_of p (after s t i)) in
      not_of_true (eqb a b) (eq-eqb a b e)

  joined : open_run p s t ≡ false → (i : ℕ) → s ≤ i → i < t → to p (edge_of p i) ≡ from p (edge_of p (after s t i))
  unfolding open_run
  joined h i l b =
      let e : s + (i - s) ≡ i = omega arith in
      meets i (subst (λ (k : ℕ). open_at p s t k ≡ false) e (none_under (λ k. open_at p s t (s + k)) (t - s) h (i - s) (omega arith)))

  pub closed_of : open_run p s t ≡ false → ClosedChain p s t
  closed_of h = record {
    step = λ i l b.
        joined h i l (omega arith) ∙ ap (λ (k : ℕ). from p (edge_of p k)) (after_step s t i (λ (e : i + 1 ≡ t). omega arith));
    last = λ i l b. joined h i l (omega arith) ∙ ap (λ (k : ℕ). from p (edge_of p k)) (after_last s t i b);
  }

  pub closed_to : ClosedChain p s t → open_run p s t ≡ false
  unfolding open_run
  closed_to r = under_none (λ k. open_at p s t (s + k)) (t - s) (λ k l. not_open (s + k) (by (s + k) (omega arith) (omega arith)))
    where
      by : (i : ℕ) → s ≤ i → i < t → to p (edge_of p i) ≡ from p (edge_of p (after s t i))
      by i l b =
          decided (dec_lt (i + 1) t)
          (λ d. r.step i l d ∙ ap (λ (k : ℕ). from p (edge_of p k)) (sym (after_step s t i (λ (e : i + 1 ≡ t). omega arith))))
          (λ d. let e : i + 1 ≡ t = omega arith in r.last i l e ∙ ap (λ (k : ℕ). from p (edge_of p k)) (sym (after_last s t i e)))

-- ---- the loops

module _ (p : Parts) where
  -- what one loop that is right tells
  record RightLoop (j : ℕ) : Type 0 where
    rises : loop_start p j < loop_end p j
    ends : loop_end p j ≤ p.edges
    chain : ClosedChain p (loop_start p j) (loop_end p j)

  right_loop : (j : ℕ) → wrong_loop p j ≡ false → RightLoop j
  unfolding wrong_loop
  right_loop j e =
      let s = loop_start p j in
      let t = loop_end p j in
      let q = or_false (not (ltb s t) || ltb p.edges t) (open_run p s t) e in
      let r = or_false (not (ltb s t)) (ltb p.edges t) q.0 in
      record {
        rises = ltb-true s t (not-false (ltb s t) r.0);
        ends = ltb-false p.edges t r.1;
        chain = closed_of p s t q.1;
      }

  loop_right : (j : ℕ) → RightLoop j → wrong_loop p j ≡ false
  loop_right j r = sym (loop_run p j (loop_start p j) (loop_end p j) refl refl r.rises r.ends) ∙ closed_to p (loop_start p j) (loop_end p j) r.chain

  -- rule 19 is unbroken exactly if the edges are in closed loops
  pub looped_of : (rule19 p).number ≡ 0 → Looped p
  unfolding rule19
  looped_of z =
      let last = eqb (loop_start p p.perimeters) p.edges in
      let q = passed (rule_of_each 19 p.perimeters (wrong_loop p) (λ j. j)) (rule 19 (not last) p.perimeters) z in
      let right = each_met 18 p.perimeters (wrong_loop p) (λ j. j) q.0 in
      record {
        rising = λ j l. (right_loop j (right j l)).rises;
        within = λ j l. (right_loop j (right j l)).ends;
        closed = λ j l. (right_loop j (right j l)).chain;
        full = eqb-true (loop_start p p.perimeters) p.edges (not-false last (unbroken 18 (not last) p.perimeters q.1));
      }

  pub looped_to : Looped p → rule19 p ≡ accepted
  unfolding rule19
  looped_to r =
      then_both
      (each_passes 19 p.perimeters (wrong_loop p) (λ j. j) (λ j l. loop_right j (record { rises = r.rising j l; ends = r.within j l; chain = r.closed j l })))
      (rw (eq-eqb (loop_start p p.perimeters) p.edges r.full) (met 19 p.perimeters))

  -- every edge entry lies in exactly one loop
  module _ (r : Looped p) where
    ends_rise : (k j : ℕ) → j < k → k ≤ p.perimeters → loop_end p j ≤ loop_start p k
    unfolding loop_start
    ends_rise zero j l b = absurd (omega arith)
    ends_rise (suc k) j l b =
        ⊎_elim (λ (q : j ≡ k). subst (λ (i : ℕ). loop_end p j ≤ loop_end p i) q (omega arith))
        (λ (q : j < k). omega (arith, ends_rise k j q (omega arith), r.rising k (omega arith))) (eq-or-lt_of_le (le_of_suc-le-suc l))

    one : (i j : ℕ) → j < p.perimeters → loop_start p j ≤ i → i < loop_end p j → OneLoop p i
    one i j b a e = record {
      at = j;
      below = b;
      after = a;
      before = e;
      only = λ k l c d.
          decided (dec_lt k j) (λ x. absurd (omega (arith, ends_rise j k x (omega arith))))
          (λ x. decided (dec_lt j k) (λ y. absurd (omega (arith, ends_rise k j y (omega arith)))) (λ y. omega arith));
    }

    find : (n i : ℕ) → n ≤ p.perimeters → i < loop_start p n → OneLoop p i
    unfolding loop_start
    find zero i b l = absurd (omega arith)
    find (suc n) i b l =
        decided (dec_lt i (loop_start p n)) (λ q. find n i (omega arith) q) (λ q. one i n (omega arith) (omega arith) l)

    pub one_loop : (i : ℕ) → i < p.edges → OneLoop p i
    one_loop i l = find p.perimeters i (omega arith) (omega (arith, r.full))
