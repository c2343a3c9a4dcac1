-- Laws that the code of rules 17 to 19 goes by: how many entries there may be, a transition, where a loop starts, what follows an edge in
-- its run, and when a loop is wrong. Assumes nothing.
use mathlib.Core.Path.{◌≡◌, refl, ap}
use mathlib.Core.Bool.{true, false, not}
use mathlib.Core.List.{List}
use Prim.Native.Nat.{ℕ, zero, suc, ◌+◌, ◌-◌, ◌<◌, ◌≤◌}
use native.Mathlib.Omega.{arith}
use native.Mathlib.Numerals.{add-one}
use lib.Dec.{eqb}
use borrow.Author.Tests.{eq-eqb, ne_eqb, lt-ltb, le-ltb}
use Rattle.tables.specs.Header.{RightHeader}
use Rattle.tables.specs.Parts.{none32, Parts, parts_of, transition, loop_end}
use Rattle.tables.proofs.Reading.{sized_of}
use Rattle.border.specs.Loops.{wrong_transition, loop_start, after, open_run, wrong_loop}

-- the counts of a right header
pub few_edges : (b : List ℕ) → RightHeader b → (parts_of b).edges ≤ 12288
few_edges b r = (sized_of b r).edges

pub few_loops : (b : List ℕ) → RightHeader b → (parts_of b).perimeters ≤ 12288
few_loops b r = (sized_of b r).perimeters

-- a transition up to 63, and one past it
module _ (p : Parts) (i t : ℕ) (own : t ≡ transition p i) where
  pub transition_room : t ≤ 63 → false ≡ wrong_transition p i
  unfolding wrong_transition
  transition_room l = rw (← own, le-ltb 63 t l)

  pub transition_past : 63 < t → not (eqb t none32) ≡ wrong_transition p i
  unfolding wrong_transition
  transition_past l = rw (← own, lt-ltb 63 t l)

module _ (p : Parts) where
  pub start_first : (j : ℕ) → j ≡ 0 → 0 ≡ loop_start p j
  unfolding loop_start
  start_first j e = rw e

  pub start_later : (j : ℕ) → (j ≡ 0 → ⊥) → loop_end p (j - 1) ≡ loop_start p j
  unfolding loop_start
  start_later zero ne = absurd (ne refl)
  start_later (suc j) ne = ap (loop_end p) (omega arith)

  -- the end of a loop is the start of the next
  pub start_next : (j : ℕ) → loop_start p (j + 1) ≡ loop_end p j
  unfolding loop_start
  start_next j = rw add-one

module _ (s t : ℕ) where
  pub after_step : (i : ℕ) → (i + 1 ≡ t → ⊥) → after s t i ≡ i + 1
  unfolding after
  after_step i ne = rw (ne_eqb (i + 1) t ne)

  pub after_last : (i : ℕ) → i + 1 ≡ t → after s t i ≡ s
  unfolding after
  after_last i e = rw (eq-eqb (i + 1) t e)

-- a perimeter entry by where its run starts and ends
module _ (p : Parts) (j s t : ℕ) (start : s ≡ loop_start p j) (end : t ≡ loop_end p j) where
  pub loop_falls : t ≤ s → true ≡ wrong_loop p j
  unfolding wrong_loop
  loop_falls l = rw (← start, ← end, le-ltb s t l)

  pub loop_past : s < t → p.edges < t → true ≡ wrong_loop p j
  unfolding wrong_loop
  loop_past l m = rw (← start, ← end, lt-ltb s t l, lt-ltb p.edges t m)

  pub loop_run : s < t → t ≤ p.edges → open_run p s t ≡ wrong_loop p j
  unfolding wrong_loop
  loop_run l m = rw (← start, ← end, lt-ltb s t l, le-ltb p.edges t m)
