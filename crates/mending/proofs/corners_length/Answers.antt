-- A record for each corner changed. Assumes nothing.
use Rattle.std.proofs.Common.{rules, tests, arith, ◌*◌}
use Rattle.tables.specs.Parts.{parts_of}
use Rattle.tables.proofs.Reading.{sized_of}
use Rattle.seams.specs.Changes.{changed, corner_record}
use Rattle.mending.proofs.Puts.{listed_counted}
use Rattle.mending.proofs.Records.{corner_long, corners_total}
use Rattle.mending.proofs.corners_length.Goals as goal

pub returns : goal.returns
returns c =
    let p = parts_of c.args.bytes.now in
    corners_total p (3 * c.count_of-n.result) (omega (arith, c.count_of-n.ensures.0)) (sized_of _ c.requires.right).faces
    (listed_counted (changed p) (corner_record p) 15 (corner_long p) _ _ _ _ c.count.ensures.ran c.filter.ensures.source c.filter.ensures.closure (λ x b q k. search (rules, tests)))
