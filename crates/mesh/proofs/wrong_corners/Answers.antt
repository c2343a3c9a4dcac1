-- What `any` answers, where each look answers the test.
use Rattle.std.proofs.Common.{rules, tests}
use Rattle.tables.specs.Parts.{parts_of}
use Rattle.mesh.specs.Faces.{wrong_corner, wrong_corners}
use Rattle.verdict.proofs.Found.{any_is_any_under}
use Rattle.mesh.proofs.wrong_corners.Goals as goal

pub returns : goal.returns
unfolding wrong_corners
returns c = any_is_any_under (wrong_corner (parts_of c.args.bytes.now) c.args.f) _ _ _ _ c.any.ensures.ran (λ x b q k. search (rules, tests))
