-- The rewriter's verdict: where it accepts, the floor is accepted and the output has room. Assumes nothing.
use mathlib.Core.Path.{◌≡◌, ◌∙◌}
use mathlib.Core.List.{List}
use Prim.Native.Nat.{ℕ, ◌≤◌}
use lib.ListN.{length}
use lib.Dec.{ltb}
use borrow.Author.Tests.{ltb-false, le-ltb}
use Rattle.verdict.specs.Verdict.{rule, accepted}
use Rattle.verdict.proofs.Verdict.{passed, unbroken, then_next, then_both, met, rule_proper}
use Rattle.floor.specs.Reader.{reader_verdict}
use Rattle.floor.specs.Rewrite.{fixed_form, rewrite_verdict}

module _ (b : List ℕ) (room out : ℕ) where
  pub rewrite_passed : (rewrite_verdict b room out).number ≡ 0 → ((reader_verdict b room).number ≡ 0) × (length (fixed_form b) ≤ out)
  unfolding rewrite_verdict
  rewrite_passed z =
      let h = passed (reader_verdict b room) (rule 40 (ltb out (length (fixed_form b))) 0) z in
      (h.0, ltb-false out (length (fixed_form b)) (unbroken 39 (ltb out (length (fixed_form b))) 0 h.1))

  -- a rewriter that accepts answers 0 at 0
  pub rewrite_accepts : (rewrite_verdict b room out).number ≡ 0 → rewrite_verdict b room out ≡ accepted
  unfolding rewrite_verdict
  rewrite_accepts z =
      let r = rule 40 (ltb out (length (fixed_form b))) 0 in
      let h = passed (reader_verdict b room) r z in
      then_next (reader_verdict b room) r h.0 ∙ (rule_proper 39 (ltb out (length (fixed_form b))) 0).at_0 h.1

  pub rewrite_met : reader_verdict b room ≡ accepted → length (fixed_form b) ≤ out → rewrite_verdict b room out ≡ accepted
  unfolding rewrite_verdict
  rewrite_met e l = then_both e (rw (le-ltb out (length (fixed_form b)) l) (met 40 0))
