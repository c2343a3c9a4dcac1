-- The words one after the other.
use Rattle.std.proofs.Common.{ℕ, ◌-◌, ◌+◌, ◌<◌, ◌≡◌, Bool, true, false, length, get_or, drop, MatchBool, rules, tests, arith, refl, subst, ◌∙◌}
use Rattle.std.specs.List.{HoldsAt, AllWithin, range_with_len}
use Rattle.std.proofs.lemmas.Iterator.{cases_from_all, YieldsList-from_range}
use Rattle.std.proofs.lemmas.List.FromFn.{length-range_with_len, get_or-range_with_len}
use Rattle.number.specs.Number.{number_of}
use Rattle.text.specs.Scan.{words}
use Rattle.text.specs.Reading.{Line, nth}
use Rattle.layout.specs.Grammar.{numbers}
use Rattle.layout.proofs.LineLaws.{numbers_from, numbers_stop}
use Rattle.layout.proofs.lines.are_numbers.Goals as goal

-- word i is a number, or is none
abbrev Told : Line → Bool → ℕ → Type 0
Told l t i = (number_of (nth l i)).ok ≡ t

all_numbers : (l : Line) (k n : ℕ) (r : Bool) → n ≡ length l
    → MatchBool r (AllWithin (Told l true) (range_with_len k (n - k)) 0 (length (range_with_len k (n - k)))) ((i : ℕ) × (i < length (range_with_len k (n - k))) × HoldsAt (Told l false) (range_with_len k (n - k)) i)
    → r ≡ numbers (drop k l)
all_numbers l k n true e h =
    numbers_from l k (λ i m q.
    let at : get_or (range_with_len k (n - k)) (i - k) 0 ≡ i = get_or-range_with_len k (n - k) (i - k) 0 (omega arith) ∙ omega arith in
    subst (Told l true) at (h (i - k) 0 (omega arith) (omega (arith, length-range_with_len k (n - k)))))
all_numbers l k n false e h =
    let q : h.0 < n - k = omega (arith, length-range_with_len k (n - k), h.1) in
    numbers_stop l k (k + h.0) (omega arith) (omega arith) (subst (Told l false) (get_or-range_with_len k (n - k) h.0 0 q) (h.2 0))

pub returns : goal.returns
returns c =
    let l = words c.args.l.now in
    all_numbers l c.args.k c.args.n _ c.requires
    (cases_from_all _ _ _ (Told l true) (Told l false) c.all.ensures.ran (YieldsList-from_range c.args.k c.args.n _ refl refl) (λ x q k. search (rules, tests)) (λ x q k. search (rules, tests)))
