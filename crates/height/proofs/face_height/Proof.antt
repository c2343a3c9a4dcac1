-- The height over the face's three corners. Assumes nothing.
use native.Mathlib.Omega.{arith}
use mathlib.Core.Path.{◌∙◌}
use Rattle.wire.proofs.Signed.{read_is, read_within}
use Rattle.height.proofs.Answers.{holds_made, height_made}
use Rattle.height.proofs.face_height.Statement.{statement}
use Rattle.height.proofs.face_height.Tie as tie

corner_at_requires : tie.Need-corner_at-a-requires
corner_at_requires c κs = let h = c.requires in (h.0, h.1, omega arith)

corner_at_requires_2 : tie.Need-corner_at-b-requires
corner_at_requires_2 c κs = let h = c.requires in (h.0, h.1, omega arith)

corner_at_requires_3 : tie.Need-corner_at-c-requires
corner_at_requires_3 c κs = let h = c.requires in (h.0, h.1, omega arith)

height_of_requires : tie.Need-height_of-requires
height_of_requires c κs =
    let i = c.corner_at-a.ensures in
    let j = c.corner_at-b.ensures in
    let k = c.corner_at-c.ensures in
    let h = c.requires in
    (i.1, j.1, k.1, read_within h.2 tt, read_within h.3 tt, holds_made _ _ _ _ i.0 j.0 k.0 (read_is h.2 tt) (read_is h.3 tt) h.4)

returns : tie.Need-returns
returns c =
    let d = c.before in
    let h = d.requires in
    let r = c.height_of.ensures in (
      read_is r.1 tt
          ∙ height_made _ _ _ _ d.corner_at-a.ensures.0 d.corner_at-b.ensures.0 d.corner_at-c.ensures.0 (read_is h.2 tt) (read_is h.3 tt) r.0,
      read_within r.1 tt,
    )

pub face_height_spec : {M : Type 1} → statement M
face_height_spec = tie.close (tie.spec corner_at_requires corner_at_requires_2 corner_at_requires_3 height_of_requires returns)
