-- The powers of ten in code; and a number of 32 bits reads back from its digits. Assumes nothing.
use mathlib.Core.Path.{◌≡◌, refl, sym, ap, ◌∙◌}
use mathlib.Core.Bool.{true, false}
use mathlib.Core.List.{List, [], ◌∷◌}
use Prim.Native.Nat.{ℕ, ◌+◌, ◌^◌, ◌<◌, ◌≤◌}
use native.Mathlib.Omega.{arith}
use native.Mathlib.Nat.{add_comm}
use native.Mathlib.Decide.{dec_lt}
use lib.Dec.{eqb, leb, ltb}
use lib.ListN.{get_or}
use borrow.Author.Tests.{eqb-true, ltb-true, ltb-false, le-leb, lt-leb}
use Rattle.std.proofs.lemmas.List.Sums.{prefix_len_is}
use Rattle.verdict.specs.Lowest.{lowest, any_under, all_under}
use Rattle.verdict.proofs.Bools.{decided}
use Rattle.verdict.proofs.Lowest.{all_true, lowest_is}
use Rattle.text.specs.Scan.{run}
use Rattle.text.proofs.RunLaws.{run_is_prefix}
use Rattle.number.specs.Count.{value}
use Rattle.number.proofs.NumberTrip.{fixed_value}
use Rattle.inspect.specs.Line.{has_up_to, digit_count, decimal}

abbrev pub powers : List ℕ
powers = 10 ∷ 100 ∷ 1000 ∷ 10000 ∷ 100000 ∷ 1000000 ∷ 10000000 ∷ 100000000 ∷ 1000000000 ∷ []

all_powers : all_under 9 (λ k. eqb (get_or powers k 0) (10 ^ (k + 1))) ≡ true
unfolding all_under any_under lowest
all_powers = refl

power_at : (n k : ℕ) → k < 9 → ltb n (get_or powers k 0) ≡ has_up_to n k
unfolding has_up_to
power_at n k l = ap (ltb n) (eqb-true _ _ (all_true (λ j. eqb (get_or powers j 0) (10 ^ (j + 1))) 9 all_powers k l))

-- how many powers are at most n, counted up to the first that is not
pub reached : (n : ℕ) → run (λ p. leb p n) powers ≡ lowest 9 (has_up_to n)
reached n =
    let l = lowest_is (has_up_to n) 9 in
    sym (run_is_prefix (λ p. leb p n) powers)
    ∙ prefix_len_is (λ p. leb p n) powers (lowest 9 (has_up_to n)) 0 l.within (λ k m. on k (power_at n k (omega (arith, l.within)) ∙ l.before k m))
    (λ m. off (lowest 9 (has_up_to n)) (power_at n _ m ∙ l.holds m))
  where
    on : (k : ℕ) → ltb n (get_or powers k 0) ≡ false → leb (get_or powers k 0) n ≡ true
    on k e = le-leb (get_or powers k 0) n (ltb-false n (get_or powers k 0) e)

    off : (k : ℕ) → ltb n (get_or powers k 0) ≡ true → leb (get_or powers k 0) n ≡ false
    off k e = lt-leb (get_or powers k 0) n (ltb-true n (get_or powers k 0) e)

pub reached_most : (n : ℕ) → lowest 9 (has_up_to n) ≤ 9
reached_most n = (lowest_is (has_up_to n) 9).within

pub few_digits : (n : ℕ) → digit_count n ≤ 10
unfolding digit_count
few_digits n = omega (arith, (lowest_is (has_up_to n) 9).within)

-- a number of 32 bits has at most so many digits as are counted
enough : (n : ℕ) → n < 4294967296 → n < 10 ^ digit_count n
unfolding digit_count has_up_to
enough n l =
    let k = lowest 9 (has_up_to n) in
    decided (dec_lt k 9) (λ m. by k ((lowest_is (has_up_to n) 9).holds m)) (λ m. last k (omega (arith, (lowest_is (has_up_to n) 9).within)))
  where
    by : (k : ℕ) → has_up_to n k ≡ true → n < 10 ^ (1 + k)
    by k t = rw (add_comm 1 k) (ltb-true n (10 ^ (k + 1)) t)

    last : (k : ℕ) → k ≡ 9 → n < 10 ^ (1 + k)
    last k e = rw e (omega arith)

pub decimal_reads : (n : ℕ) → n < 4294967296 → value 0 (decimal n) ≡ n
unfolding decimal
decimal_reads n l = fixed_value (digit_count n) n (enough n l)
