-- What the header and the shape leave for the tree.
use Rattle.verdict.proofs.Results.{accepts}
use Rattle.floor.proofs.Meaning.{shape_met}
use Rattle.floor.proofs.rules_1_to_14.Goals as goal

pub tree_verdict-requires-clause-sound : goal.tree_verdict-requires-clause-sound
tree_verdict-requires-clause-sound c =
    let q = shape_met _ (accepts c.in_ok-header_verdict.ensures) (accepts c.in_ok-shape_verdict.ensures) in
    (q.mesh.finite, q.mesh.cornered, q.closed)
