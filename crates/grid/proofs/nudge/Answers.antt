-- The bits that `moved` answers, where `may_nudge` says so.
use Rattle.std.proofs.Common.{rules, ap, ◌∙◌}
use Rattle.std.proofs.lemmas.Option.{IfSome_then}
use Rattle.std.proofs.lemmas.Int.{to_z-of_z}
use mir.Syntax.{w64}
use Rattle.grid.specs.Grid.{may_nudge}
use Rattle.grid.proofs.Answers.{nudged_by}
use Rattle.grid.proofs.nudge.Goals as goal

pub returns : goal.returns
returns c = nudged_by _ _ _ _ (c.may_nudge.ensures ∙ ap (may_nudge _) (to_z-of_z w64 _ c.ranges.n)) c.then.ensures.variant (IfSome_then c.then.result c.then.ensures.some (λ x p. search rules))
