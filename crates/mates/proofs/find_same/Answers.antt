-- The walk begins at the last of the chain, ends at an equal vertex, and goes on where the vertex is no equal one. Assumes nothing.
use Rattle.std.proofs.Common.{arith, sym, ◌∙◌, ◌<◌}
use Rattle.chains.specs.Chains.{one_more}
use Rattle.chains.proofs.Walk.{at_some, walk_found, walk_none}
use Rattle.tables.specs.Parts.{parts_of}
use Rattle.tables.proofs.Reading.{sized_of}
use Rattle.mates.proofs.Points.{Look, vertex_words, look_start, look_step}
use Rattle.mates.proofs.find_same.Goals as goal

pub loop-next-init : goal.loop-next-init
loop-next-init c =
    let s = c.requires in
    let words = vertex_words c.args.bytes.now s.right_header.0 (record { byte = λ i. omega (arith, c.type_inv.bytes i) }) in
    look_start _ s.right_header.1 words _ s.right_header.2 _ s.chained.1 _ _ c.point_key.ensures c.last_of-next.ensures.0

pub returns-then-is_same : goal.returns-then-is_same
returns-then-is_same c = walk_found _ c.loop-next.invariant _ c.in-Some.is (sym c.is_same.ensures ∙ c.if-is_same.true)

pub before_of-next-requires : goal.before_of-next-requires
before_of-next-requires c =
    let p = at_some _ _ c.in-Some.is in
    omega (arith, p, c.loop-next.invariant.within, c.requires.right_header.2, (sized_of c.args.bytes.now c.requires.right_header.0).vertices, c.requires.chained.0)

-- one step along the chain
stepped : (c : goal.After-before_of-next)
    → Look (parts_of c.args.bytes.now) c.args.v (one_more c.before_of-next.result) × (one_more c.before_of-next.result < one_more c.loop-next.next)
stepped c =
    let s = c.requires in
    let words = vertex_words c.args.bytes.now s.right_header.0 (record { byte = λ i. omega (arith, c.type_inv.bytes i) }) in
    look_step _ s.right_header.1 words _ s.right_header.2 _ s.chained.1 _ _ _ c.in-Some.is c.loop-next.invariant c.before_of-next.ensures.0 (sym c.is_same.ensures ∙ c.if-is_same.false)

pub loop-next-smaller : goal.loop-next-smaller
loop-next-smaller c = (stepped c).1

pub loop-next-preserved : goal.loop-next-preserved
loop-next-preserved c = (stepped c).0

pub returns : goal.returns
returns c = walk_none _ c.loop-next.invariant c.in_default.is
