-- Whose record it is: the bench's, another's, exactly one of the two. Assumes nothing.
use mathlib.Core.Path.{◌≡◌, ap}
use mathlib.Core.Bool.{true, false}
use Prim.Native.Nat.{ℕ, ◌+◌, ◌-◌, ◌≤◌}
use native.Mathlib.Omega.{arith}
use native.Mathlib.Decide.{dec_lt}
use borrow.Author.Tests.{eq-eqb, ne_eqb, eqb-false}
use Rattle.verdict.specs.Lists.{bit}
use Rattle.verdict.proofs.Bools.{decided}
use Rattle.verdict.proofs.Lists.{bit_same}
use Rattle.record.specs.declared.Rec.{Rec}
use Rattle.holding.specs.Held.{is_of, other}

pub own_bit : (r : Rec) → bit (is_of r.bench r) ≡ 1
unfolding is_of
own_bit r = bit_same r.bench

pub other_bit : (r : Rec) (bench : ℕ) → (r.bench ≡ bench → ⊥) → bit (is_of bench r) ≡ 0
unfolding is_of
other_bit r bench n = ap bit (ne_eqb r.bench bench n)

-- a record of one of the two benches that is not the one's is the other's
pub is_other : (bench : ℕ) (r : Rec) → bench ≤ 1 → r.bench ≤ 1 → is_of bench r ≡ false → is_of (other bench) r ≡ true
unfolding is_of
is_other bench r b l e = let n = eqb-false r.bench bench e in eq-eqb r.bench (1 - bench) (omega arith)

-- exactly one of the two
pub one_owner : (bench : ℕ) (r : Rec) → bench ≤ 1 → r.bench ≤ 1 → bit (is_of bench r) + bit (is_of (other bench) r) ≡ 1
unfolding is_of
one_owner bench r b l =
    decided (dec_lt r.bench 1)
    (λ h. decided (dec_lt bench 1)
    (λ g. rw (eq-eqb r.bench bench (omega arith), ne_eqb r.bench (1 - bench) (λ e. omega arith)))
    (λ g. rw (ne_eqb r.bench bench (λ e. omega arith), eq-eqb r.bench (1 - bench) (omega arith))))
    (λ h. decided (dec_lt bench 1)
    (λ g. rw (ne_eqb r.bench bench (λ e. omega arith), eq-eqb r.bench (1 - bench) (omega arith)))
    (λ g. rw (eq-eqb r.bench bench (omega arith), ne_eqb r.bench (1 - bench) (λ e. omega arith))))
