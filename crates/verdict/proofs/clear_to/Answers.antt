-- What `fill` leaves is the zeros.
use Rattle.std.proofs.Common.{◌≡◌, ◌∙◌, ap, ◌++◌, List, ℕ, length, take, drop, replicate}
use Rattle.std.proofs.lemmas.List.{length-take-le}
use Rattle.verdict.specs.Memory.{cleared_to}
use Rattle.verdict.proofs.clear_to.Goals as goal

pub returns : goal.returns
unfolding cleared_to
returns c =
    let w = c.args.work.now in
    let n : length (take c.args.n w) ≡ c.args.n = length-take-le c.args.n w c.requires in
    ap (λ (z : List ℕ). z ++ drop c.args.n w) (c.fill.ensures.after (λ y e. e) ∙ ap (λ (m : ℕ). replicate m 0) n)
