-- Rules 15 and 16 as one group: what the code found, joined in order. Assumes nothing.
use mathlib.Core.Path.{◌≡◌}
use Prim.Native.Nat.{ℕ, ◌≤◌}
use native.Mathlib.Omega.{arith}
use Rattle.verdict.specs.Lowest.{lowest}
use Rattle.verdict.specs.Verdict.{rule_of_each}
use Rattle.verdict.proofs.Lowest.{lowest_is}
use Rattle.verdict.proofs.Verdict.{Proper, each_proper, then_proper}
use Rattle.tables.specs.Parts.{Parts}
use Rattle.pairs.specs.Halves.{halves, repeats, wrong_adjacent, rule15, rule16, rules15to16}
use Rattle.pairs.specs.Plain.{Apart}
use Rattle.pairs.proofs.Paired.{apart_of}

module _ (p : Parts) where
  -- 15 is met, so no two half-edges run the same way
  pub repeat_none : (twice : ℕ) → twice ≡ lowest (halves p) (repeats p) → halves p ≤ twice → Apart p
  repeat_none twice e l = apart_of p (λ h b. (lowest_is (repeats p) (halves p)).before h (omega (arith, e)))

  -- ---- where the group accepts, it accepts at place 0

  pub pairs_proper : Proper (rules15to16 p)
  unfolding rules15to16 rule15 rule16
  pairs_proper =
      then_proper (rule_of_each 15 (halves p) (repeats p) (λ h. h)) (rule_of_each 16 (halves p) (wrong_adjacent p) (λ h. h))
      (each_proper 14 (halves p) (repeats p) (λ h. h)) (each_proper 15 (halves p) (wrong_adjacent p) (λ h. h))
