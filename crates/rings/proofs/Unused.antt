-- How many borders are unused, how many of them start at a vertex and how many end there; and what one step changes. Assumes nothing.
use Prim.Native.Nat.{ℕ, ◌+◌, ◌<◌}
use native.Mathlib.Omega.{arith}
use mathlib.Core.Path.{◌≡◌, refl, sym, ap, ◌∙◌}
use mathlib.Core.Bool.{Bool, true, false, not, ◌&&◌}
use mathlib.Core.List.{List, [], ◌∷◌, ◌++◌}
use lib.Dec.{eqb}
use borrow.Author.Tests.{eq-eqb, ne_eqb, eqb-true, eqb-false}
use Rattle.verdict.specs.Lists.{bit, times, tally}
use Rattle.verdict.proofs.Bools.{test, and_no, and_yes}
use Rattle.verdict.proofs.Lists.{times_append, tally_same}
use Rattle.rings.specs.Rings.{Web, unused}
use Rattle.rings.specs.Walk.{left, starts, finishes}
use Rattle.rings.proofs.Counts.{tally_but}

and_turn : (a b c : Bool) → ((a && b) && c) ≡ ((a && c) && b)
and_turn false b c = refl
and_turn true true c = sym (and_yes c)
and_turn true false c = sym (and_no c)

and_group : (a b c : Bool) → (a && (b && c)) ≡ ((a && b) && c)
and_group true b c = refl
and_group false b c = refl

pub times_more : (x h : ℕ) (l : List ℕ) → times x (l ++ (h ∷ [])) ≡ times x l + bit (eqb h x)
unfolding times
times_more x h l = omega (arith, times_append x l (h ∷ []))

module _ (w : Web) where
  -- after h is used
  not_again : (l : List ℕ) (h x : ℕ) → eqb (times x (l ++ (h ∷ []))) 0 ≡ (eqb (times x l) 0 && not (eqb x h))
  not_again l h x =
      test (eqb x h)
      (λ y.
      let b : bit (eqb h x) ≡ 1 = ap bit (eq-eqb h x (sym (eqb-true x h y))) in
      rw y (ne_eqb (times x (l ++ (h ∷ []))) 0 (λ (z : times x (l ++ (h ∷ [])) ≡ 0). omega (arith, times_more x h l)) ∙ sym (and_no (eqb (times x l) 0))))
      (λ y.
      let b : bit (eqb h x) ≡ 0 = ap bit (ne_eqb h x (λ (z : h ≡ x). eqb-false x h y (sym z))) in
      let e : times x (l ++ (h ∷ [])) ≡ times x l = omega (arith, times_more x h l) in
      rw y (ap (λ (k : ℕ). eqb k 0) e ∙ sym (and_yes (eqb (times x l) 0))))

  unused_more : (l : List ℕ) (h x : ℕ) → unused w (l ++ (h ∷ [])) x ≡ (unused w l x && not (eqb x h))
  unfolding unused
  unused_more l h x = ap (λ (b : Bool). w.border x && b) (not_again l h x) ∙ and_group (w.border x) (eqb (times x l) 0) (not (eqb x h))

  module _ (l : List ℕ) (h : ℕ) (lt : h < w.halves) (free : unused w l h ≡ true) where
    pub left_more : left w l ≡ left w (l ++ (h ∷ [])) + 1
    unfolding left
    left_more =
        let e = tally_same w.halves (unused w (l ++ (h ∷ []))) (λ j. unused w l j && not (eqb j h)) (λ k b. unused_more l h k) in
        omega (arith, tally_but w.halves h (unused w l) lt free)

    -- of those that pass q as well
    pub passing_more : (q : ℕ → Bool) → tally w.halves (λ x. unused w l x && q x) ≡ tally w.halves (λ x. unused w (l ++ (h ∷ [])) x && q x) + bit (q h)
    passing_more q =
        test (q h)
        (λ y.
        let e = tally_same w.halves (λ x. unused w (l ++ (h ∷ [])) x && q x) (λ x. (unused w l x && q x) && not (eqb x h))
        (λ k b. ap (λ (u : Bool). u && q k) (unused_more l h k) ∙ and_turn (unused w l k) (not (eqb k h)) (q k)) in
        let here : (unused w l h && q h) ≡ true = rw (free, y) in
        omega (arith, tally_but w.halves h (λ x. unused w l x && q x) lt here, ap bit y))
        (λ y.
        let e = tally_same w.halves (λ x. unused w (l ++ (h ∷ [])) x && q x) (λ x. unused w l x && q x)
        (λ k b. ap (λ (u : Bool). u && q k) (unused_more l h k) ∙ other k y) in
        omega (arith, ap bit y))
      where
        other : (k : ℕ) → q h ≡ false → ((unused w l k && not (eqb k h)) && q k) ≡ (unused w l k && q k)
        other k y =
            test (eqb k h)
            (λ z. let no : q k ≡ false = ap q (eqb-true k h z) ∙ y in rw (no, and_no (unused w l k), and_no (unused w l k && not (eqb k h))))
            (λ z. rw (z, and_yes (unused w l k)))

    pub starts_more : (v : ℕ) → starts w l v ≡ starts w (l ++ (h ∷ [])) v + bit (eqb (w.from h) v)
    unfolding starts
    starts_more v = passing_more (λ x. eqb (w.from x) v)

    pub finishes_more : (v : ℕ) → finishes w l v ≡ finishes w (l ++ (h ∷ [])) v + bit (eqb (w.to h) v)
    unfolding finishes
    finishes_more v = passing_more (λ x. eqb (w.to x) v)
