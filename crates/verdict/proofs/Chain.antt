-- Verdicts that a function makes one after another, step by step: for the proofs of such functions. Assumes nothing.
use mathlib.Core.Path.{◌≡◌, ◌∙◌}
use mathlib.Core.Bool.{Bool}
use Prim.Native.Nat.{ℕ}
use lib.Dec.{ltb}
use Rattle.verdict.specs.Lowest.{lowest}
use Rattle.verdict.specs.Verdict.{rule, rule_of_each, ◌then◌}
use Rattle.verdict.specs.declared.Answer.{Answer}
use Rattle.verdict.proofs.Verdict.{then_assoc}

-- one rule more, after those so far; and after those so far that stand behind others
pub next : {a A x X r : Answer} → a ≡ A → x ≡ X → r ≡ (a then x) → r ≡ (A then X)
next p q e = rw (e, p, q)

pub next_in : (so A : Answer) {a x X r : Answer} → a ≡ (so then A) → x ≡ X → r ≡ (a then x) → r ≡ (so then (A then X))
next_in so A p q e = next p q e ∙ then_assoc so A _

-- a rule by its test
pub tested : (number place : ℕ) {t T : Bool} → t ≡ T → rule number t place ≡ rule number T place
tested number place e = rw e

-- a rule of each, by the lowest that breaks it
pub each_by : (number : ℕ) (p : ℕ → Bool) (f : ℕ → ℕ) {n N k at : ℕ} → n ≡ N → k ≡ lowest n p → at ≡ f k → rule number (ltb k n) at ≡ rule_of_each number N p f
unfolding rule_of_each
each_by number p f e l a = rw (a, l, e)
