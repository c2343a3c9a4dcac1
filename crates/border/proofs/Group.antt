-- Rules 17 to 19 as one group: what the code found, joined in order. Assumes nothing.
use mathlib.Core.Bool.{not}
use lib.Dec.{eqb}
use Rattle.verdict.specs.Lowest.{any_under}
use Rattle.verdict.specs.Verdict.{rule, rule_of_each, ◌then◌}
use Rattle.verdict.proofs.Verdict.{Proper, rule_proper, each_proper, then_proper}
use Rattle.tables.specs.Parts.{Parts}
use Rattle.pairs.specs.Halves.{halves}
use Rattle.border.specs.Loops.{wrong_edge, missing, wrong_transition, loop_start, wrong_loop, rule17, rule18, rule19, rules17to19}

module _ (p : Parts) where
  -- ---- where the group accepts, it accepts at place 0

  edges_proper : Proper (rule17 p)
  unfolding rule17
  edges_proper =
      then_proper (rule_of_each 17 p.edges (wrong_edge p) (λ i. i)) (rule 17 (any_under (halves p) (missing p)) p.edges)
      (each_proper 16 p.edges (wrong_edge p) (λ i. i)) (rule_proper 16 (any_under (halves p) (missing p)) p.edges)

  links_proper : Proper (rule18 p)
  unfolding rule18
  links_proper = each_proper 17 p.edges (wrong_transition p) (λ i. i)

  rings_proper : Proper (rule19 p)
  unfolding rule19
  rings_proper =
      let full = not (eqb (loop_start p p.perimeters) p.edges) in
      then_proper (rule_of_each 19 p.perimeters (wrong_loop p) (λ j. j)) (rule 19 full p.perimeters)
      (each_proper 18 p.perimeters (wrong_loop p) (λ j. j)) (rule_proper 18 full p.perimeters)

  pub loops_proper : Proper (rules17to19 p)
  unfolding rules17to19
  loops_proper = then_proper (rule17 p then rule18 p) (rule19 p) (then_proper (rule17 p) (rule18 p) edges_proper links_proper) rings_proper
