-- Laws of half-edges in chains by their two ends, however many chains there are and however the ends are mixed: one half-edge more, and the
-- walk along a chain to those that run from a to b. Assumes nothing.
use Prim.Native.Nat.{ℕ, ◌+◌, ◌<◌, ◌≤◌}
use native.Mathlib.Omega.{arith}
use mathlib.Core.Path.{◌≡◌}
use mathlib.Core.Bool.{true, false}
use mathlib.Core.List.{List}
use Rattle.std.specs.Prelude.{Option, Some}
use lib.ListN.{length}
use Rattle.verdict.specs.Memory.{work_size, past, SamePast}
use Rattle.wire.specs.Bytes.{u16_at}
use Rattle.chains.specs.Chains.{one_more, last_place, before_place, Chained, with_last}
use Rattle.chains.proofs.Chains.{drop_last, chained_as}
use Rattle.chains.proofs.Walk.{Walk, walk_start, walk_step}
use Rattle.tables.specs.Parts.{Parts}
use Rattle.pairs.specs.Halves.{from, to, runs}
use Rattle.pairs.specs.Chains.{chains, ends_key}
use Rattle.pairs.proofs.Paired.{runs_true}

-- rule 15's chains stand in the work memory
pub past_last : (w y : List ℕ) (v h : ℕ) → v < chains → h < 12288 → y ≡ with_last chains w v h → SamePast y w
unfolding past
past_last w y v h l m q = rw q (drop_last work_size chains w v h l (omega arith))

-- the walk along the chain of those from a to b
abbrev pub Run : (ℕ → ℕ → ℕ) → Parts → ℕ → ℕ → ℕ → ℕ → Type 0
Run mix p a b s g = Walk (ends_key mix p) (runs p a b) (mix a b) s g

module _ (n : ℕ) (mix : ℕ → ℕ → ℕ) (p : Parts) where
  -- one half-edge more, as code puts it
  pub half_chained : (w y : List ℕ) (h v a b : ℕ) → h < 12288 → before_place n h + 2 ≤ length w → Chained n (ends_key mix p) w h → a ≡ from p h → b ≡ to p h
      → (v ≡ mix a b) × (v < n) → y ≡ with_last n w v h → Chained n (ends_key mix p) y (h + 1)
  half_chained w y h v a b few long c e f g q = chained_as (ends_key mix p) n w y h v g.1 (omega arith) long c (rw (g.0, e, f)) q

  module _ (a b s : ℕ) where
    -- those that run the same way stand in one chain
    same_chain : (k : ℕ) → k < s → runs p a b k ≡ true → ends_key mix p k ≡ mix a b
    same_chain k l y = let q = runs_true p a b k y in rw (q.0, q.1)

    module _ (w : List ℕ) (c : Chained n (ends_key mix p) w s) where
      pub run_start : (v g : ℕ) → (v ≡ mix a b) × (v < n) → g ≡ u16_at w (last_place v) → Run mix p a b s g
      run_start v g e q =
          let f = e.0 in
          walk_start n (ends_key mix p) (runs p a b) (mix a b) s w c same_chain g (omega (arith, e.1)) (rw f at q)

      pub run_step : (o : Option ℕ) (h r : ℕ) → o ≡ Some h → Run mix p a b s (one_more o) → r ≡ u16_at w (before_place n h) → runs p a b h ≡ false
          → Run mix p a b s r × (r < one_more o)
      run_step o h r z i q ne = walk_step n (ends_key mix p) (runs p a b) (mix a b) s w c same_chain o h r z i q ne
