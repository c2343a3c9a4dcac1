-- BALANCE: where no two half-edges run the same way, as many borders start at a vertex as end there. Each face has for each of its
-- corners one half-edge that leaves it and one that arrives, and of two partners one leaves where the other arrives. Assumes nothing.
use Prim.Native.Nat.{ℕ, zero, suc, ◌+◌, ◌*◌, ◌/◌, ◌%◌, ◌<◌, ◌≤◌}
use native.Mathlib.Omega.{arith}
use mathlib.Core.Path.{◌≡◌, refl, sym, ap, ap₂, subst, ◌∙◌}
use mathlib.Core.Bool.{Bool, true, false, not, ◌&&◌}
use lib.Dec.{eqb, ltb}
use borrow.Author.Tests.{lt-ltb, eq-eqb, eqb-true, not-true}
use Rattle.verdict.specs.Lists.{bit, tally}
use Rattle.verdict.proofs.Bools.{and_true, true_and, not_of_false, and_no}
use Rattle.verdict.proofs.Lists.{tally_same}
use Rattle.tables.specs.Parts.{Parts, corner}
use Rattle.pairs.specs.Halves.{halves, from, to, partner, border}
use Rattle.pairs.specs.Plain.{Apart}
use Rattle.pairs.proofs.Paired.{partner_found, partner_twice, partner_in}
use Rattle.rings.proofs.Counts.{tally_split, tally_map}

-- three more
three : (f : ℕ) (t : ℕ → Bool) → tally (3 * suc f) t ≡ bit (t (suc (suc (3 * f)))) + (bit (t (suc (3 * f))) + (bit (t (3 * f)) + tally (3 * f) t))
unfolding tally
three f t = let e : 3 * suc f ≡ suc (suc (suc (3 * f))) = omega arith in subst (λ (n : ℕ). tally n t ≡ tally (suc (suc (suc (3 * f)))) t) (sym e) refl

and_swap : (a b : Bool) → (a && b) ≡ (b && a)
and_swap true true = refl
and_swap true false = refl
and_swap false true = refl
and_swap false false = refl

module _ (p : Parts) where
  from_at : (h f e : ℕ) → h / 3 ≡ f → h % 3 ≡ e → from p h ≡ corner p f e
  unfolding from
  from_at h f e a b = ap₂ (corner p) a b

  to_at : (h f e : ℕ) → h / 3 ≡ f → (h % 3 + 1) % 3 ≡ e → to p h ≡ corner p f e
  unfolding to
  to_at h f e a b = ap₂ (corner p) a b

  -- of all half-edges of faces, as many leave a vertex as arrive there
  faces_even : (v f : ℕ) → tally (3 * f) (λ h. eqb (from p h) v) ≡ tally (3 * f) (λ h. eqb (to p h) v)
  unfolding tally
  faces_even v zero = refl
  faces_even v (suc f) =
      let at : ℕ → ℕ = λ c. bit (eqb c v) in
      let a0 = ap at (from_at (3 * f) f 0 (omega arith) (omega arith)) in
      let a1 = ap at (from_at (suc (3 * f)) f 1 (omega arith) (omega arith)) in
      let a2 = ap at (from_at (suc (suc (3 * f))) f 2 (omega arith) (omega arith)) in
      let b0 = ap at (to_at (3 * f) f 1 (omega arith) (omega arith)) in
      let b1 = ap at (to_at (suc (3 * f)) f 2 (omega arith) (omega arith)) in
      let b2 = ap at (to_at (suc (suc (3 * f))) f 0 (omega arith) (omega arith)) in
      omega (arith, faces_even v f, three f (λ h. eqb (from p h) v), three f (λ h. eqb (to p h) v))

  -- a half-edge with a partner is no border
  has_inner : (h : ℕ) → partner p h < halves p → border p h ≡ false
  unfolding border
  has_inner h l = rw (lt-ltb (partner p h) (halves p) l) (and_no (ltb h (halves p)))

  module _ (r : Apart p) (v : ℕ) where
    -- the partners of those with end a at v have their end b there
    cross : (a b : ℕ → ℕ) → ((h : ℕ) → partner p h < halves p → b (partner p h) ≡ a h)
        → tally (halves p) (λ h. eqb (a h) v && not (border p h)) ≤ tally (halves p) (λ h. eqb (b h) v && not (border p h))
    cross a b turns =
        tally_map (halves p) (halves p) (λ h. eqb (a h) v && not (border p h)) (λ h. eqb (b h) v && not (border p h)) (partner p)
        (λ k l e.
        let g = and_true (eqb (a k) v) (not (border p k)) e in
        let has = partner_in p k l (not-true (border p k) g.1) in
        let back : partner p (partner p k) < halves p = rw (partner_twice p r k l has) l in (
          has,
          true_and (eqb (b (partner p k)) v) (not (border p (partner p k))) (eq-eqb (b (partner p k)) v (turns k has ∙ eqb-true (a k) v g.0))
              (not_of_false (border p (partner p k)) (has_inner (partner p k) back)),
        ))
        (λ j k lj lk ej ek same.
        let hj = partner_in p j lj (not-true (border p j) (and_true (eqb (a j) v) (not (border p j)) ej).1) in
        let hk = partner_in p k lk (not-true (border p k) (and_true (eqb (a k) v) (not (border p k)) ek).1) in
        sym (partner_twice p r j lj hj) ∙ ap (partner p) same ∙ partner_twice p r k lk hk)

    pub balance : tally (halves p) (λ h. border p h && eqb (from p h) v) ≡ tally (halves p) (λ h. border p h && eqb (to p h) v)
    balance =
        let n = halves p in
        let out = cross (from p) (to p) (λ h l. (partner_found p h l).back) in
        let back = cross (to p) (from p) (λ h l. (partner_found p h l).there) in
        let starts = tally_split n (λ h. eqb (from p h) v) (border p) in
        let ends = tally_split n (λ h. eqb (to p h) v) (border p) in
        let e = tally_same n (λ h. border p h && eqb (from p h) v) (λ h. eqb (from p h) v && border p h) (λ k l. and_swap (border p k) (eqb (from p k) v)) in
        let f = tally_same n (λ h. border p h && eqb (to p h) v) (λ h. eqb (to p h) v && border p h) (λ k l. and_swap (border p k) (eqb (to p k) v)) in
        omega (arith, faces_even v p.adjacency)
