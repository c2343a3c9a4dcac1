use Rattle.std.proofs.Common.{◌∙◌, leb, ℕ, arith, rules, tests}
use Rattle.text.proofs.Counted.{count_is_run}
use Rattle.inspect.proofs.Digits.{powers, reached, reached_most}
use Rattle.inspect.proofs.first_under.Goals as goal

pub returns : goal.returns
returns c =
    let e = count_is_run (λ (p : ℕ). leb p c.args.n) powers _ _ _ (cc) c.take_while.ensures.closure c.take_while.ensures.done c.count.ensures.ran (λ b t q k. search (rules, tests)) ∙ reached c.args.n in
    (e, omega (arith, e, reached_most c.args.n))
