use Rattle.std.proofs.Common.{◌+◌, ap, ℕ, drop, rules, tests}
use Rattle.letters.specs.Class.{is_gap}
use Rattle.text.specs.Scan.{apart}
use Rattle.text.proofs.Counted.{count_is_run}
use Rattle.text.proofs.skip_word.Goals as goal

pub returns : goal.returns
returns c = ap (λ (n : ℕ). c.args.at + n) (count_is_run (apart is_gap) (drop c.args.at c.args.l.now) _ _ _ (cc) c.take_while.ensures.closure c.take_while.ensures.done c.count.ensures.ran (λ b t q k. search (rules, tests)))
