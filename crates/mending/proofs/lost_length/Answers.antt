-- A record for each transition lost. Assumes nothing.
use Rattle.std.proofs.Common.{rules, tests, arith}
use Rattle.tables.specs.Parts.{parts_of}
use Rattle.seams.specs.Changes.{lost_record}
use Rattle.mending.proofs.Puts.{listed_counted}
use Rattle.mending.proofs.Records.{gone, lost_long, lost_total}
use Rattle.mending.proofs.lost_length.Goals as goal

pub returns : goal.returns
returns c =
    let p = parts_of c.args.bytes.now in
    lost_total p c.halves_of-n.result (omega (arith, c.halves_of-n.ensures.0)) (omega (arith, c.halves_of-n.ensures))
    (listed_counted (gone p) lost_record 7 lost_long _ _ _ _ c.count.ensures.ran c.filter.ensures.source c.filter.ensures.closure (λ x b q k. search (rules, tests)))
