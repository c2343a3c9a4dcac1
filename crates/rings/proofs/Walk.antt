-- A ring never gets stuck: until it is back at its start vertex an unused border starts where the last ended. So each ring is closed,
-- and together they use every border exactly once. Assumes nothing but what its sections take: balance, and that borders are half-edges.
use Prim.Native.Nat.{ℕ, zero, suc, ◌+◌, ◌<◌, ◌≤◌}
use native.Mathlib.Omega.{arith}
use native.Mathlib.Nat.{le_of_suc-le-suc}
use native.Mathlib.Decide.{dec_lt}
use mathlib.Core.Path.{◌≡◌, refl, sym, ap, subst, ◌∙◌}
use mathlib.Core.Bool.{true, false, ◌&&◌}
use mathlib.Core.List.{List, [], ◌∷◌, ◌++◌, append_assoc, append-nil}
use lib.ListN.{length, get_or}
use lib.Dec.{eqb}
use borrow.Author.Tests.{ne_eqb, eqb-true, eqb-false, lt-ltb, le-ltb}
use Rattle.verdict.specs.Lists.{bit, times}
use Rattle.verdict.proofs.Bools.{test, decided, and_true}
use Rattle.verdict.proofs.Lowest.{lowest_is}
use Rattle.verdict.proofs.Lists.{bit_le, bit_same, tally_within, none_tally}
use Rattle.wire.specs.Words.{joined}
use Rattle.rings.specs.Rings.{Web, unused, unused_at, first, onward, ring, next_ring, rings}
use Rattle.rings.specs.Plain.{Chain, EachRing}
use Rattle.rings.specs.Walk.{left, starts, Good, Off, Even}
use Rattle.rings.proofs.Counts.{tally_some}
use Rattle.rings.proofs.Unused.{times_more, left_more, starts_more, finishes_more}
use Rattle.rings.proofs.Heads.{at_is, onward_is}
use Rattle.rings.proofs.Runs.{chain_first}

module _ (w : Web) where
  -- ---- the two searches, where they find one

  first_free : (l : List ℕ) → first w l < w.halves → unused w l (first w l) ≡ true
  unfolding first
  first_free l b = (lowest_is (unused w l) w.halves).holds b

  first_none : (l : List ℕ) → w.halves ≤ first w l → left w l ≡ 0
  unfolding first left
  first_none l b = none_tally w.halves (unused w l) (λ k lt. (lowest_is (unused w l) w.halves).before k (omega arith))

  pub onward_free : (l : List ℕ) (v : ℕ) → onward w l v < w.halves → (unused w l (onward w l v) ≡ true) × (w.from (onward w l v) ≡ v)
  onward_free l v b = at_is w l v (onward w l v) ((onward_is w l v).holds b)

  pub onward_in : (l : List ℕ) (v : ℕ) → 0 < starts w l v → onward w l v < w.halves
  unfolding onward unused_at starts
  onward_in l v s = tally_some w.halves (λ h. unused w l h && eqb (w.from h) v) s

  -- ---- the two definitions, a step at a time

  pub ring_last : (v d : ℕ) (l : List ℕ) (h : ℕ) → eqb (w.to h) v ≡ true → ring w v (suc d) l h ≡ h ∷ []
  unfolding ring
  ring_last v d l h e = rw e

  pub ring_more : (v d : ℕ) (l : List ℕ) (h : ℕ) → eqb (w.to h) v ≡ false
      → ring w v (suc d) l h ≡ h ∷ ring w v d (l ++ (h ∷ [])) (onward w (l ++ (h ∷ [])) (w.to h))
  unfolding ring
  ring_more v d l h e = rw e

  pub rings_done : (d : ℕ) (l : List ℕ) → w.halves ≤ first w l → rings w (suc d) l ≡ []
  unfolding rings
  rings_done d l b = rw (le-ltb (first w l) w.halves b)

  pub rings_more : (d : ℕ) (l : List ℕ) → first w l < w.halves → rings w (suc d) l ≡ next_ring w l ∷ rings w d (l ++ next_ring w l)
  unfolding rings next_ring
  rings_more d l b = rw (lt-ltb (first w l) w.halves b)

  -- ---- what holds along the way

  pub good_more : (l : List ℕ) (h : ℕ) → unused w l h ≡ true → Good w l → Good w (l ++ (h ∷ []))
  unfolding Good unused
  good_more l h free g x =
      let f = and_true (w.border h) (eqb (times h l) 0) free in
      test (eqb h x)
      (λ y.
      let e = eqb-true h x y in
      let new : times x l ≡ 0 = subst (λ (k : ℕ). times k l ≡ 0) e (eqb-true (times h l) 0 f.1) in
      let is : bit (w.border x) ≡ 1 = subst (λ (k : ℕ). bit (w.border k) ≡ 1) e (ap bit f.0) in
      omega (arith, times_more x h l, bit_le (eqb h x)))
      (λ y. omega (arith, times_more x h l, ap bit y, g x))

  off_start : (v : ℕ) (l : List ℕ) → Even w l → Off w v v l
  unfolding Off Even
  off_start v l e x = omega (arith, e x)

  off_home : (v c : ℕ) (l : List ℕ) → c ≡ v → Off w v c l → Even w l
  unfolding Off Even
  off_home v c l e o x = omega (arith, o x, ap (λ (k : ℕ). bit (eqb k x)) e)

  pub off_more : (v : ℕ) (l : List ℕ) (h : ℕ) → h < w.halves → unused w l h ≡ true → Off w v (w.from h) l → Off w v (w.to h) (l ++ (h ∷ []))
  unfolding Off
  off_more v l h lt free o x = omega (arith, o x, starts_more w l h lt free x, finishes_more w l h lt free x)

  -- away from the start vertex there is a way on
  pub off_on : (v c : ℕ) (l : List ℕ) → eqb c v ≡ false → Off w v c l → 0 < starts w l c
  unfolding Off
  off_on v c l y o = omega (arith, o c, bit_same c, ap bit (ne_eqb v c (λ (z : v ≡ c). eqb-false c v y (sym z))))

  -- ---- a ring

  -- a walk from vertex v stands before border h
  pub record State (v h : ℕ) (l : List ℕ) : Type 0 where
    pub inside : h < w.halves
    pub free : unused w l h ≡ true
    pub off : Off w v (w.from h) l
    pub good : Good w l

  -- it never gets stuck: if h does not end at v, there is an unused border that starts where h ends
  pub state_more : (v h : ℕ) (l : List ℕ) → State v h l → eqb (w.to h) v ≡ false
      → State v (onward w (l ++ (h ∷ [])) (w.to h)) (l ++ (h ∷ [])) × (w.from (onward w (l ++ (h ∷ [])) (w.to h)) ≡ w.to h)
  state_more v h l s y =
      let used = l ++ (h ∷ []) in
      let off = off_more v l h s.inside s.free s.off in
      let b = onward_in used (w.to h) (off_on v (w.to h) used y off) in
      let f = onward_free used (w.to h) b in
      (record { inside = b; free = f.0; off = subst (λ (c : ℕ). Off w v c used) (sym f.1) off; good = good_more l h s.free s.good }, f.1)

  -- where a ring starts
  pub state_first : (l : List ℕ) → Even w l → Good w l → first w l < w.halves → State (w.from (first w l)) (first w l) l
  state_first l e g b = record { inside = b; free = first_free l b; off = off_start (w.from (first w l)) l e; good = g }

  pub record Walked (v c : ℕ) (l r : List ℕ) : Type 0 where
    pub some : 0 < length r
    pub chain : Chain w c r v
    pub even : Even w (l ++ r)
    pub good : Good w (l ++ r)
    pub fewer : left w (l ++ r) + length r ≡ left w l
    pub early : (i : ℕ) → suc i < length r → w.to (get_or r i 0) ≡ v → ⊥

  walked_last : (v h : ℕ) (l : List ℕ) → State v h l → w.to h ≡ v → Walked v (w.from h) l (h ∷ [])
  unfolding Chain
  walked_last v h l s e = record {
    some = omega arith;
    chain = (refl, e);
    even = off_home v (w.to h) (l ++ (h ∷ [])) e (off_more v l h s.inside s.free s.off);
    good = good_more l h s.free s.good;
    fewer = omega (arith, left_more w l h s.inside s.free);
    early = λ i b q. omega arith;
  }

  walked_more : (v h : ℕ) (l r : List ℕ) → State v h l → (w.to h ≡ v → ⊥) → Walked v (w.to h) (l ++ (h ∷ [])) r → Walked v (w.from h) l (h ∷ r)
  unfolding Chain
  walked_more v h l r s out k =
      let e : (l ++ (h ∷ [])) ++ r ≡ l ++ (h ∷ r) = append_assoc l (h ∷ []) r in
      let n : left w ((l ++ (h ∷ [])) ++ r) ≡ left w (l ++ (h ∷ r)) = ap (left w) e in
      record {
        some = omega arith;
        chain = (refl, k.chain);
        even = subst (Even w) e k.even;
        good = subst (Good w) e k.good;
        fewer = omega (arith, left_more w l h s.inside s.free, k.fewer);
        early = later;
      }
    where
      later : (i : ℕ) → suc i < length (h ∷ r) → w.to (get_or (h ∷ r) i 0) ≡ v → ⊥
      later zero b q = out q
      later (suc i) b q = k.early i (le_of_suc-le-suc b) q

  -- from border h to the start vertex v, with d no less than the number of unused borders
  pub walk : (v d : ℕ) (l : List ℕ) (h : ℕ) → State v h l → left w l ≤ d → Walked v (w.from h) l (ring w v d l h)
  walk v zero l h s few = absurd (omega (arith, left_more w l h s.inside s.free))
  walk v (suc d) l h s few =
      let used = l ++ (h ∷ []) in
      let on = onward w used (w.to h) in
      test (eqb (w.to h) v)
      (λ y. rw (ring_last v d l h y) (walked_last v h l s (eqb-true (w.to h) v y)))
      (λ y.
      let m = state_more v h l s y in
      let ih = walk v d used on m.0 (omega (arith, left_more w l h s.inside s.free)) in
      rw (ring_more v d l h y) (walked_more v h l (ring w v d used on) s (eqb-false (w.to h) v y) (subst (λ (c : ℕ). Walked v c used (ring w v d used on)) m.1 ih)))

  -- ---- all rings

  pub record Finished (l : List ℕ) (rs : List (List ℕ)) : Type 0 where
    pub each : EachRing w rs
    pub good : Good w (l ++ joined rs)
    pub none : left w (l ++ joined rs) ≡ 0

  -- no ring more
  finished_none : (l : List ℕ) → Good w l → left w l ≡ 0 → Finished l []
  unfolding joined EachRing
  finished_none l g z = record { each = tt; good = rw append-nil g; none = rw append-nil z }

  -- a ring, and the rest
  finished_more : (v : ℕ) (l r : List ℕ) (rs : List (List ℕ)) → Walked v v l r → Finished (l ++ r) rs → Finished l (r ∷ rs)
  unfolding joined EachRing
  finished_more v l r rs k f =
      let e : (l ++ r) ++ joined rs ≡ l ++ (r ++ joined rs) = append_assoc l r (joined rs) in
      let s = chain_first w v v r k.some k.chain in
      record {
        each =
            (record { some = k.some; closed = subst (λ (c : ℕ). Chain w c r c) (sym s) k.chain; early = λ i b q. k.early i b (q ∙ s) }, f.each);
        good = subst (Good w) e f.good;
        none = sym (ap (left w) e) ∙ f.none;
      }

  pub within : (l : List ℕ) → left w l ≤ w.halves
  unfolding left
  within l = tally_within w.halves (unused w l)

  pub finish : (d : ℕ) (l : List ℕ) → Even w l → Good w l → left w l ≤ d → Finished l (rings w d l)
  unfolding rings next_ring
  finish zero l e g few = finished_none l g (omega arith)
  finish (suc d) l e g few =
      let h = first w l in
      let v = w.from h in
      let one = ring w v w.halves l h in
      decided (dec_lt h w.halves)
      (λ b.
      let k = walk v w.halves l h (state_first l e g b) (within l) in
      let ih = finish d (l ++ one) k.even k.good (omega (arith, k.fewer, k.some)) in
      rw (rings_more d l b) (finished_more v l one (rings w d (l ++ one)) k ih))
      (λ b. rw (rings_done d l (omega arith)) (finished_none l g (first_none l (omega arith))))
