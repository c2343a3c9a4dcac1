-- All rings of a web in balance: each is closed, and every border stands in the edge list exactly once. Assumes nothing.
use Prim.Native.Nat.{ℕ}
use native.Mathlib.Omega.{arith}
use mathlib.Core.Path.{◌≡◌, sym, ap, ◌∙◌}
use mathlib.Core.Bool.{Bool, ◌&&◌}
use mathlib.Core.List.{[]}
use lib.Dec.{eqb}
use borrow.Author.Tests.{eqb-false}
use Rattle.verdict.specs.Lists.{bit, times}
use Rattle.verdict.proofs.Bools.{test, and_false, and_yes}
use Rattle.verdict.proofs.Lists.{tally_same, tally_none}
use Rattle.wire.specs.Words.{joined}
use Rattle.rings.specs.Rings.{Web, unused, all_rings, edge_list}
use Rattle.rings.specs.Plain.{EachRing}
use Rattle.rings.specs.Walk.{Balanced, left, starts, finishes, Good, Even}
use Rattle.rings.proofs.Walk.{Finished, within, finish}

module _ (w : Web) (b : Balanced w) where
  -- before the first ring
  fresh : (h : ℕ) → unused w [] h ≡ w.border h
  unfolding unused times
  fresh h = and_yes (w.border h)

  pub even_none : Even w []
  unfolding Even starts finishes
  even_none v =
      tally_same w.halves (λ h. unused w [] h && eqb (w.from h) v) (λ h. w.border h && eqb (w.from h) v) (λ k l. ap (λ (u : Bool). u && eqb (w.from k) v) (fresh k)) ∙
      b.even v ∙
      tally_same w.halves (λ h. w.border h && eqb (w.to h) v) (λ h. unused w [] h && eqb (w.to h) v) (λ k l. ap (λ (u : Bool). u && eqb (w.to k) v) (sym (fresh k)))

  pub good_none : Good w []
  unfolding Good times
  good_none x = omega arith

  all_finished : Finished w [] (all_rings w)
  unfolding all_rings
  all_finished = finish w w.halves [] even_none good_none (within w [])

  -- every ring is closed
  pub all_rings_lem : EachRing w (all_rings w)
  all_rings_lem = all_finished.each

  -- the edge list holds each border once, and nothing else
  pub each_once : (h : ℕ) → times h (edge_list w) ≡ bit (w.border h)
  unfolding edge_list Good left unused
  each_once h =
      let l = joined (all_rings w) in
      let g = all_finished.good h in
      test (w.border h)
      (λ y.
      let no = tally_none w.halves (unused w l) all_finished.none h (b.inside h y) in
      let some : times h l ≡ 0 → ⊥ = eqb-false (times h l) 0 (and_false (w.border h) (eqb (times h l) 0) no y) in
      omega (arith, ap bit y))
      (λ y. omega (arith, ap bit y))
