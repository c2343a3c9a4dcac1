-- What `all` answers, where each look answers the test.
use Rattle.std.proofs.Common.{rules, tests}
use Rattle.tables.specs.Parts.{parts_of}
use Rattle.tree.specs.Boxes.{holds_corner, holds_face}
use Rattle.verdict.proofs.Found.{all_is_all_under}
use Rattle.tree.proofs.holds_face.Goals as goal

pub returns : goal.returns
unfolding holds_face
returns c =
    let s = c.requires in
    rw (← s.below.3) (all_is_all_under (holds_corner (parts_of c.args.bytes.now) c.args.n c.args.f) _ _ _ _ c.all.ensures.ran (λ x b q k. search (rules, tests)))
