-- An equal vertex under it has the same lowest; where there is none, it is the lowest itself. Assumes nothing.
use Rattle.std.proofs.Common.{arith, ◌∙◌, ◌<◌}
use Rattle.tables.proofs.Reading.{sized_of}
use Rattle.corners.proofs.Corners.{top_at}
use Rattle.mates.proofs.Points.{lowest_found, lowest_itself}
use Rattle.mates.proofs.lowest_by.Goals as goal

few : (c : goal.In-Some) → c.in-Some.u < 4096
few c =
    let s = c.requires.right_header in
    let u = lowest_found _ s.1 _ _ s.2 c.find_same.ensures _ c.in-Some.is in
    omega (arith, u.0, s.2, (sized_of c.args.bytes.now s.0).vertices)

pub overflow_mul-u : goal.overflow_mul-u
overflow_mul-u c = omega (arith, few c)

pub overflow_add-u : goal.overflow_add-u
overflow_add-u c = omega (arith, few c)

pub u16_at-requires : goal.u16_at-requires
u16_at-requires c = omega (arith, few c, c.requires.mapped.0)

pub returns-in-Some : goal.returns-in-Some
returns-in-Some c =
    let s = c.requires.right_header in
    let u = lowest_found _ s.1 _ _ s.2 c.find_same.ensures _ c.in-Some.is in
    c.u16_at.ensures.0 ∙ top_at _ _ ∙ c.requires.mapped.1.at c.in-Some.u u.0 ∙ u.1

pub returns : goal.returns
returns c =
    let s = c.requires.right_header in
    lowest_itself _ s.1 _ _ s.2 c.find_same.ensures c.in_default.is
