-- The first pinched face is the lowest. Assumes nothing.
use Rattle.std.proofs.Common.{rules, tests}
use Rattle.tables.specs.Parts.{parts_of}
use Rattle.mesh.specs.Faces.{wrong_corners}
use Rattle.corners.specs.Corners.{recornered}
use Rattle.verdict.proofs.Found.{find_is_first}
use Rattle.mates.proofs.first_pinched.Goals as goal

pub returns : goal.returns
returns c = find_is_first (wrong_corners (recornered (parts_of c.args.bytes.now))) _ _ _ _ c.find.ensures.ran (λ x b q k. search (rules, tests))
