use Rattle.std.proofs.Common.{◌+◌, ap, ℕ, drop, rules, tests}
use Rattle.letters.specs.Class.{is_digit}
use Rattle.text.proofs.Counted.{count_is_run}
use Rattle.number.specs.Number.{count}
use Rattle.number.proofs.digits.Goals as goal

pub returns : goal.returns
unfolding count
returns c = ap (λ (n : ℕ). c.args.at + n) (count_is_run is_digit (drop c.args.at c.args.w.now) _ _ _ (cc) c.take_while.ensures.closure c.take_while.ensures.done c.count.ensures.ran (λ b t q k. search (rules, tests)))
