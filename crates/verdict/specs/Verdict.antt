-- Verdicts: the words in which document 01's tables of refusals are written down. A verdict is an answer, a number and a place;
-- 0 at 0 accepts. Rules are joined in the order of the paper by `then`, and the answer is that of the first rule that is broken.
use Rattle.std.specs.Prelude.{ℕ, ◌<◌, ◌≤◌, ◌≡◌, ◌≢◌, Bool, cond, List, [], ◌∷◌, length, get_or, eqb, ltb}
use Rattle.verdict.specs.Lowest.{lowest}
use Rattle.verdict.specs.declared.Answer.{Answer}

infixl 20 ◌then◌
abbrev pub refused : ℕ → ℕ → Answer
refused number place = record { number = number; place = place }

abbrev pub accepted : Answer
accepted = refused 0 0

-- what a rule answers by itself: its number and the place, if it is broken
unfoldable pub rule : ℕ → Bool → ℕ → Answer
rule number broken place = cond broken (refused number place) accepted

-- a rule that n things in order are to meet: broken by the lowest of which the test holds, at that one's place
unfoldable pub rule_of_each : ℕ → ℕ → (ℕ → Bool) → (ℕ → ℕ) → Answer
rule_of_each number n broken place = rule number (ltb (lowest n broken) n) (place (lowest n broken))

-- one verdict, and where it accepts the next
unfoldable pub ◌then◌ : Answer → Answer → Answer
a then b = cond (eqb a.number 0) b a

-- a number that an answer gives beside its verdict: 0 on refusal
abbrev pub if_accepted : Answer → ℕ → ℕ
if_accepted a n = cond (eqb a.number 0) n 0

-- the verdicts of a list, one after another
unfoldable pub in_order : List Answer → Answer
in_order [] = accepted
in_order (a ∷ rest) = a then in_order rest

-- "the first broken rule in order", as a plain statement: the verdicts before one accept, that one does not, and it is the answer;
-- or all accept, and so does the answer
pub record FirstBroken (rules : List Answer) (a : Answer) : Type 0 where
  pub at : ℕ
  pub within : at ≤ length rules
  pub before : (j : ℕ) → j < at → (get_or rules j accepted).number ≡ 0
  pub broken : at < length rules → (get_or rules at accepted).number ≢ 0
  pub answer : a ≡ get_or rules at accepted
