-- How many edges and loops there are at most: no more edges than half-edges, no more loops than edges. Assumes nothing.
use Prim.Native.Nat.{ℕ, zero, suc, ◌+◌, ◌≤◌}
use native.Mathlib.Omega.{arith}
use native.Mathlib.Decide.{dec_lt}
use mathlib.Core.List.{List, [], ◌∷◌, ◌++◌}
use lib.ListN.{length, length-append}
use Rattle.verdict.proofs.Bools.{decided}
use Rattle.wire.specs.Words.{joined}
use Rattle.rings.specs.Rings.{Web, first, ring, next_ring, rings, ends_from, all_rings, edge_list, end_list}
use Rattle.rings.specs.Plain.{EachRing}
use Rattle.rings.specs.Walk.{left, Good, Even, Balanced}
use Rattle.rings.proofs.Walk.{state_first, walk, rings_done, rings_more, within}
use Rattle.rings.proofs.Complete.{even_none, good_none, all_rings_lem}

module _ (w : Web) where
  -- the rings that are left use unused borders only, each once
  rings_room : (d : ℕ) (l : List ℕ) → Even w l → Good w l → left w l ≤ d → length (joined (rings w d l)) ≤ left w l
  unfolding joined rings next_ring
  rings_room zero l e g k = omega arith
  rings_room (suc d) l e g k =
      let r = ring w (w.from (first w l)) w.halves l (first w l) in
      decided (dec_lt (first w l) w.halves)
      (λ b.
      let j = walk w (w.from (first w l)) w.halves l (first w l) (state_first w l e g b) (within w l) in
      let more = rings_room d (l ++ r) j.even j.good (omega (arith, j.fewer, j.some)) in
      rw (rings_more w d l b) (omega (arith, j.fewer, more, length-append r (joined (rings w d (l ++ r))))))
      (λ b. rw (rings_done w d l (omega arith)) (omega arith))

  pub edge_few : Balanced w → length (edge_list w) ≤ w.halves
  unfolding edge_list all_rings
  edge_few b = omega (arith, rings_room w.halves [] (even_none w b) (good_none w b) (within w []), within w [])

  -- no ring is empty
  ends_few : (s : ℕ) (rs : List (List ℕ)) → EachRing w rs → length (ends_from s rs) ≤ length (joined rs)
  unfolding ends_from joined EachRing
  ends_few s [] e = omega arith
  ends_few s (r ∷ rs) e = omega (arith, ends_few (s + length r) rs e.1, length-append r (joined rs), e.0.some)

  pub end_few : Balanced w → length (end_list w) ≤ length (edge_list w)
  unfolding end_list edge_list
  end_few b = ends_few 0 (all_rings w) (all_rings_lem w b)
