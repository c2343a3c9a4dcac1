-- The corner as the file has it is a vertex, and the map has its lowest. Assumes nothing.
use borrow.Author.Rules.{rules}
use Prim.Native.Nat.{ℕ, ◌<◌}
use mathlib.Core.Path.{sym, ap, subst, ◌∙◌}
use Rattle.tables.specs.Parts.{parts_of}
use Rattle.tables.proofs.Reading.{sized_of}
use Rattle.corners.specs.Corners.{lowest_same}
use Rattle.corners.proofs.Corners.{mended_corner}
use Rattle.mates.proofs.corner_of.Statement.{statement}
use Rattle.mates.proofs.corner_of.Tie as tie

lowest_of_requires : tie.Need-lowest_of-requires
lowest_of_requires c κs =
    let s = c.before.before.before in
    let p = parts_of s.args.bytes.now in
    let r = s.requires.0 in
    ((r.0, subst (λ (v : ℕ). v < p.vertices) (sym c.corner_of.ensures.0) (r.1.under _ _ r.2 r.3)), s.requires.1)

returns : tie.Need-returns
returns c =
    let s = c.before.before.before.before in
    let r = s.requires.0 in
    c.lowest_of.ensures.0 ∙ ap (lowest_same (parts_of s.args.bytes.now)) c.corner_of.ensures.0
    ∙ sym (mended_corner _ (sized_of s.args.bytes.now r.0) _ _ r.2 r.3)

pub corner_of_spec : {M : Type 1} → statement M
corner_of_spec = tie.close (tie.spec (λ c κs. search rules) lowest_of_requires returns)
