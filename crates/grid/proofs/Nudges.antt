-- Laws of the nudge: when it may be made, that it is exact, that zero is written as positive zero. Assumes nothing.
use mathlib.Core.Path.{◌≡◌, refl, sym, ap, ◌∙◌}
use Prim.Native.Nat.{ℕ, ◌<◌}
use native.Mathlib.Omega.{arith}
use native.Mathlib.Nat.{le_trans}
use mathlib.Core.Bool.{true, false, ◌&&◌}
use lib.IntN.{ℤ, pos, nat_abs, ◌+ℤ◌, +ℤ_assoc}
use lib.Dec.{lit≤}
use lib.Ieee.{binary32, round, add, of_bits, to_bits}
use lib.Ieee.Bits.{of_bits-fits, of_bits-to_bits, to_bits-of_bits, to_bits-lt}
use borrow.Author.Tests.{leb-true, le-leb, lt-leb}
use Rattle.verdict.proofs.Bools.{and_true, and_no}
use Rattle.grid.specs.Grid.{finite, on_grid, scaled, grid_float, within, largest_step, may_nudge, nudge_bits}
use Rattle.grid.specs.Plain.{OnGrid, PermittedStep, MayNudge}
use Rattle.grid.proofs.Grid.{on_grid_lem, grid_on, grid_finite, finite_number, grid_float_on, grid_float_scaled, grid_float_fits, add_grid, minus_zero, grid_unique}

-- ---- the test is the plain proposition
module _ (b : ℕ) (n : ℤ) where
  pub may : may_nudge b n ≡ true → MayNudge b n
  unfolding may_nudge
  may h =
      let x = of_bits binary32 b in
      let t = and_true (within largest_step n && on_grid x) (within 65536 (scaled x +ℤ n)) h in
      let u = and_true (within largest_step n) (on_grid x) t.0 in
      record { step = leb-true (nat_abs n) largest_step u.0; on = on_grid_lem x u.1; to = leb-true (nat_abs (scaled x +ℤ n)) 65536 t.1 }

  pub may_back : MayNudge b n → may_nudge b n ≡ true
  unfolding may_nudge
  may_back m = simp (le-leb (nat_abs n) largest_step m.step, grid_on m.on, le-leb (nat_abs (scaled (of_bits binary32 b) +ℤ n)) 65536 m.to)

  -- test by test
  pub no_step : within largest_step n ≡ false → may_nudge b n ≡ false
  unfolding may_nudge
  no_step h = simp h

  pub step_refused : (PermittedStep n → ⊥) → may_nudge b n ≡ false
  step_refused far = no_step (lt-leb (nat_abs n) largest_step (omega arith))

  pub no_grid : on_grid (of_bits binary32 b) ≡ false → may_nudge b n ≡ false
  unfolding may_nudge
  no_grid h = rw (h, and_no (within largest_step n))

  pub by_sum : within largest_step n ≡ true → on_grid (of_bits binary32 b) ≡ true → may_nudge b n ≡ within 65536 (scaled (of_bits binary32 b) +ℤ n)
  unfolding may_nudge
  by_sum h k = simp (h, k)

  -- ---- the f32 sum is the float of the sum
  pub nudge_sum : MayNudge b n → add binary32 (of_bits binary32 b) (grid_float n) ≡ grid_float (scaled (of_bits binary32 b) +ℤ n)
  nudge_sum m = add_grid n m.on (le_trans m.step (lit≤ tt))

  -- ---- what it writes: the float of the sum, exactly; on the grid, so finite; 32 bits
  pub nudge_float : of_bits binary32 (nudge_bits b n) ≡ grid_float (scaled (of_bits binary32 b) +ℤ n)
  unfolding nudge_bits
  nudge_float = of_bits-to_bits binary32 _ (grid_float_fits (scaled (of_bits binary32 b) +ℤ n))

  pub nudge_on : MayNudge b n → OnGrid (of_bits binary32 (nudge_bits b n))
  nudge_on m = rw nudge_float (grid_float_on (scaled (of_bits binary32 b) +ℤ n) m.to)

  pub nudge_exact : MayNudge b n → scaled (of_bits binary32 (nudge_bits b n)) ≡ scaled (of_bits binary32 b) +ℤ n
  nudge_exact m = rw nudge_float (grid_float_scaled (scaled (of_bits binary32 b) +ℤ n) m.to)

  pub nudge_finite : may_nudge b n ≡ true → finite (of_bits binary32 (nudge_bits b n)) ≡ true
  nudge_finite h = grid_finite (nudge_on (may h))

  -- zero is written as positive zero
  pub nudge_zero : scaled (of_bits binary32 b) +ℤ n ≡ pos 0 → nudge_bits b n ≡ 0
  unfolding nudge_bits
  nudge_zero h = ap (λ (z : ℤ). to_bits binary32 (grid_float z)) h ∙ zero_bits
    where
      zero_bits : to_bits binary32 (grid_float (pos 0)) ≡ 0
      zero_bits = unfold to_bits grid_float round in refl

  pub nudge_lt : nudge_bits b n < 4294967296
  unfolding nudge_bits
  nudge_lt = to_bits-lt binary32 (grid_float (scaled (of_bits binary32 b) +ℤ n)) (grid_float_fits (scaled (of_bits binary32 b) +ℤ n))

-- ---- TWO NUDGES, one after the other, are one nudge by the sum, where the sum is a permitted step
module _ (b : ℕ) (n m : ℤ) (p : MayNudge b n) (q : MayNudge (nudge_bits b n) m) where
  sum_to : scaled (of_bits binary32 (nudge_bits b n)) +ℤ m ≡ scaled (of_bits binary32 b) +ℤ (n +ℤ m)
  sum_to = ap (λ (z : ℤ). z +ℤ m) (nudge_exact b n p) ∙ +ℤ_assoc (scaled (of_bits binary32 b)) n m

  pub nudge_both : PermittedStep (n +ℤ m) → MayNudge b (n +ℤ m)
  nudge_both h = record { step = h; on = p.on; to = rw sum_to at q.to }

  -- the same bits, zero's sign too, whatever the sum
  pub nudge_twice : nudge_bits (nudge_bits b n) m ≡ nudge_bits b (n +ℤ m)
  unfolding nudge_bits
  nudge_twice = ap (λ (z : ℤ). to_bits binary32 (grid_float z)) (unfold nudge_bits in sum_to)

-- ---- one pattern for each number: bits on the grid are those of their scaled number, but for minus zero's
pub bits_unique : (b : ℕ) → b < 4294967296 → OnGrid (of_bits binary32 b) → (b ≡ 2147483648 → ⊥) → to_bits binary32 (grid_float (scaled (of_bits binary32 b))) ≡ b
bits_unique b h g n = ap (to_bits binary32) (grid_unique g (of_bits-fits binary32 b) (λ e. n (sym written ∙ ap (to_bits binary32) e ∙ minus))) ∙ written
  where
    written : to_bits binary32 (of_bits binary32 b) ≡ b
    written = to_bits-of_bits binary32 b h (finite_number (of_bits binary32 b) (grid_finite g))

    minus : to_bits binary32 minus_zero ≡ 2147483648
    minus = unfold to_bits in refl
