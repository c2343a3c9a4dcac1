-- The laws of verdicts. Assumes nothing.
use mathlib.Core.Path.{◌≡◌, refl, sym, ◌∙◌, ap}
use mathlib.Core.Bool.{Bool, true, false}
use mathlib.Core.List.{List, [], ◌∷◌, ◌++◌}
use Prim.Native.Nat.{ℕ, zero, suc, ◌<◌, ◌≤◌}
use native.Mathlib.Omega.{arith}
use native.Mathlib.Decide.{ℕ_discrete, dec_lt}
use lib.Dec.{ltb}
use lib.ListN.{get_or}
use borrow.Author.Tests.{eq-eqb, ne_eqb, ltb-false, le-ltb, lt-ltb}
use Rattle.verdict.specs.Lowest.{lowest}
use Rattle.verdict.specs.Verdict.{accepted, rule, rule_of_each, ◌then◌, in_order, FirstBroken}
use Rattle.verdict.specs.declared.Answer.{Answer}
use Rattle.verdict.proofs.Bools.{decided, test}
use Rattle.verdict.proofs.Lowest.{lowest_is, lowest_all, lowest_same_lem}

-- a verdict that accepts, and one that does not
pub then_next : (a b : Answer) → a.number ≡ 0 → (a then b) ≡ b
unfolding ◌then◌
then_next a b z = rw (eq-eqb a.number 0 z)

pub then_stop : (a : Answer) → (a.number ≡ 0 → ⊥) → (b : Answer) → (a then b) ≡ a
unfolding ◌then◌
then_stop a z b = rw (ne_eqb a.number 0 z)

-- verdicts are joined in any grouping
pub then_assoc : (a b c : Answer) → ((a then b) then c) ≡ (a then (b then c))
then_assoc a b c =
    decided (ℕ_discrete a.number 0) (λ z. rw (then_next a b z, then_next a (b then c) z))
    (λ z. rw (then_stop a z b, then_stop a z c, then_stop a z (b then c)))

-- what accepts as a whole accepts in each part, and the other way round
pub passed : (a b : Answer) → (a then b).number ≡ 0 → (a.number ≡ 0) × (b.number ≡ 0)
passed a b h = decided (ℕ_discrete a.number 0) (λ z. (z, rw (then_next a b z) at h)) (λ z. absurd (z (rw (then_stop a z b) at h)))

pub then_both : {a b : Answer} → a ≡ accepted → b ≡ accepted → (a then b) ≡ accepted
then_both {a} {b} p q = then_next a b (ap (λ (x : Answer). x.number) p) ∙ q

-- a number alone says which of two verdicts is the answer's
pub then_number : (a b c d : Answer) → a.number ≡ c.number → b.number ≡ d.number → (a then b).number ≡ (c then d).number
then_number a b c d p q =
    decided (ℕ_discrete a.number 0) (λ z. rw (then_next a b z, then_next c d (sym p ∙ z)) q)
    (λ z. rw (then_stop a z b, then_stop c (λ y. z (p ∙ y)) d) p)

-- ---- a rule

-- that accepts is not broken
pub unbroken : (n : ℕ) (t : Bool) (p : ℕ) → (rule (suc n) t p).number ≡ 0 → t ≡ false
unfolding rule
unbroken n true p z = absurd (omega arith)
unbroken n false p z = refl

pub met : (n p : ℕ) → rule n false p ≡ accepted
unfolding rule
met n p = refl

-- of each: no thing breaks it
pub each_met : (r n : ℕ) (p : ℕ → Bool) (f : ℕ → ℕ) → (rule_of_each (suc r) n p f).number ≡ 0 → (k : ℕ) → k < n → p k ≡ false
unfolding rule_of_each
each_met r n p f z k l =
    (lowest_is p n).before k (omega (arith, ltb-false (lowest n p) n (unbroken r (ltb (lowest n p) n) (f (lowest n p)) z)))

pub each_passes : (r n : ℕ) (p : ℕ → Bool) (f : ℕ → ℕ) → ((k : ℕ) → k < n → p k ≡ false) → rule_of_each r n p f ≡ accepted
unfolding rule_of_each
each_passes r n p f h = rw (lowest_all p n h, le-ltb n n (omega arith)) (met r (f n))

-- of each: two tests that agree make one rule
pub each_same : (r n : ℕ) (p q : ℕ → Bool) (f : ℕ → ℕ) → ((k : ℕ) → k < n → p k ≡ q k) → rule_of_each r n p f ≡ rule_of_each r n q f
unfolding rule_of_each
each_same r n p q f h = rw (lowest_same_lem n p q h)

-- of each: by where a loop stopped
pub each_hit : (r n : ℕ) (p : ℕ → Bool) (f : ℕ → ℕ) (j : ℕ) → j ≡ lowest n p → j < n → rule r true (f j) ≡ rule_of_each r n p f
unfolding rule_of_each
each_hit r n p f j e l = rw (← e, lt-ltb j n l)

pub each_none : (r n : ℕ) (p : ℕ → Bool) (f : ℕ → ℕ) (j : ℕ) → j ≡ lowest n p → n ≤ j → rule r false 0 ≡ rule_of_each r n p f
unfolding rule_of_each rule
each_none r n p f j e l = rw (← e, le-ltb j n l)

-- of each: the number does not depend on the place
pub each_number : (r n : ℕ) (p : ℕ → Bool) (f g : ℕ → ℕ) → (rule_of_each r n p f).number ≡ (rule_of_each r n p g).number
unfolding rule_of_each rule
each_number r n p f g = test (ltb (lowest n p) n) (λ e. rw e) (λ e. rw e)

-- ---- "the first broken rule in order"

-- a verdict that accepts has place 0: so it is with every rule, and where two such are joined
pub record Proper (a : Answer) : Type 0 where
  pub at_0 : a.number ≡ 0 → a ≡ accepted

pub rule_proper : (n : ℕ) (t : Bool) (p : ℕ) → Proper (rule (suc n) t p)
unfolding rule
rule_proper n true p = record { at_0 = λ z. absurd (omega arith) }
rule_proper n false p = record { at_0 = λ z. refl }

pub each_proper : (r n : ℕ) (p : ℕ → Bool) (f : ℕ → ℕ) → Proper (rule_of_each (suc r) n p f)
unfolding rule_of_each
each_proper r n p f = rule_proper r (ltb (lowest n p) n) (f (lowest n p))

pub then_proper : (a b : Answer) → Proper a → Proper b → Proper (a then b)
then_proper a b p q = record { at_0 = λ z. let h = passed a b z in then_both (p.at_0 h.0) (q.at_0 h.1) }

-- nothing more to ask
pub then_last : (a : Answer) → Proper a → (a then accepted) ≡ a
then_last a p = decided (ℕ_discrete a.number 0) (λ z. then_next a accepted z ∙ sym (p.at_0 z)) (λ z. then_stop a z accepted)

-- the verdicts of two lists one after the other
pub order_append : (l m : List Answer) → in_order (l ++ m) ≡ (in_order l then in_order m)
unfolding in_order
order_append [] m = sym (then_next accepted (in_order m) refl)
order_append (a ∷ l) m = ap (λ (r : Answer). a then r) (order_append l m) ∙ sym (then_assoc a (in_order l) (in_order m))

-- verdicts in order answer with the first broken rule ..
pub first_broken : (rules : List Answer) → FirstBroken rules (in_order rules)
unfolding in_order
first_broken [] = record { at = 0; within = omega arith; before = λ j l. absurd (omega arith); broken = λ l. absurd (omega arith); answer = refl }
first_broken (a ∷ rest) =
    let r = first_broken rest in
    decided (ℕ_discrete a.number 0)
    (λ z. record { at = suc r.at; within = omega (arith, r.within); before = by z r; broken = λ l. r.broken (omega arith); answer = then_next a (in_order rest) z ∙ r.answer })
    (λ z. record { at = 0; within = omega arith; before = λ j l. absurd (omega arith); broken = λ l. z; answer = then_stop a z (in_order rest) })
  where
    by : a.number ≡ 0 → (r : FirstBroken rest (in_order rest)) → (j : ℕ) → j < suc r.at → (get_or (a ∷ rest) j accepted).number ≡ 0
    by z r zero l = z
    by z r (suc j) l = r.before j (omega arith)

-- .. and no other answer does: two answers that a verdict admits are equal
pub first_only : (rules : List Answer) (a b : Answer) → FirstBroken rules a → FirstBroken rules b → a ≡ b
first_only rules a b f g =
    decided (dec_lt f.at g.at) (λ l. absurd (f.broken (omega (arith, g.within)) (g.before f.at l)))
    (λ m. decided (dec_lt g.at f.at) (λ l. absurd (g.broken (omega (arith, f.within)) (f.before g.at l)))
    (λ n. let e : f.at ≡ g.at = omega arith in f.answer ∙ ap (λ (k : ℕ). get_or rules k accepted) e ∙ sym g.answer))
