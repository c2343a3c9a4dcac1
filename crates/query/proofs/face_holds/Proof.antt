-- The triangle of the three corners. Assumes nothing.
use borrow.Author.Rules.{rules}
use mathlib.Core.Path.{◌∙◌}
use Rattle.wire.proofs.Signed.{read_is, read_within}
use Rattle.query.proofs.Reaches.{triangle}
use Rattle.query.proofs.face_holds.Statement.{statement}
use Rattle.query.proofs.face_holds.Tie as tie

-- all eight numbers are small; by hand, as the search is slow here
in_triangle_requires : tie.Need-in_triangle-requires
in_triangle_requires c κs =
    let three = c.before.before.before.before.before.before.before.before in
    let s = three.before.before.before.before in
    let i = three.flat_corner-a.ensures.1 in
    let j = three.flat_corner-b.ensures.1 in
    let k = three.flat_corner-c.ensures.1 in (
      read_within i.0 tt,
      read_within i.1 tt,
      read_within j.0 tt,
      read_within j.1 tt,
      read_within k.0 tt,
      read_within k.1 tt,
      read_within s.requires.1.x tt,
      read_within s.requires.1.y tt,
    )

returns : tie.Need-returns
returns c =
    let three = c.before.before.before.before.before.before.before.before.before in
    let s = three.before.before.before.before in
    let i = three.flat_corner-a.ensures in
    let j = three.flat_corner-b.ensures in
    let k = three.flat_corner-c.ensures in
    triangle _ s.args.at.x s.args.at.y _
    (read_is i.1.0 tt ∙ i.0.0) (read_is i.1.1 tt ∙ i.0.1)
    (read_is j.1.0 tt ∙ j.0.0) (read_is j.1.1 tt ∙ j.0.1)
    (read_is k.1.0 tt ∙ k.0.0) (read_is k.1.1 tt ∙ k.0.1)
    (read_is s.requires.1.x tt) (read_is s.requires.1.y tt) _ c.in_triangle.ensures

pub face_holds_spec : {M : Type 1} → statement M
face_holds_spec = tie.close (tie.spec (λ c κs. search rules) (λ c κs. search rules) (λ c κs. search rules) in_triangle_requires returns)
