-- The one that runs the opposite way is kept, or that there is none. Assumes nothing.
use Rattle.std.proofs.Common.{arith, sym, ◌∙◌, ◌<◌, ◌≤◌}
use Rattle.tables.specs.Parts.{parts_of}
use Rattle.pairs.specs.Halves.{halves}
use Rattle.pairs.proofs.Halves.{few_walkable}
use Rattle.corners.specs.Corners.{recornered}
use Rattle.mates.proofs.Runs.{halves_same}
use Rattle.mates.proofs.Mates.{opposite_found, mate_kept}
use Rattle.mates.proofs.mate_of.Goals as goal

pub returns : goal.returns
returns c =
    let p = parts_of c.args.bytes.now in
    let s = c.requires.right_header in
    let few : halves (recornered p) ≤ 12288 = omega (arith, halves_same p, few_walkable c.args.bytes.now s.0) in
    let inside : c.args.h < halves (recornered p) = omega (arith, halves_same p, s.2) in
    let found = opposite_found _ _ _ _ _ _ c.from_of-a.ensures.0 c.to_of-b.ensures.0 (c.halves_of-n.ensures.0 ∙ sym (halves_same _)) c.find_run.ensures in
    rw c.unwrap_or.ensures (mate_kept _ few _ inside c.find_run.result s.3 found)
