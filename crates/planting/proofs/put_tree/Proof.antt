-- The range of all faces, if there are any. Assumes nothing.
use borrow.Author.Rules.{rules}
use native.Mathlib.Omega.{arith}
use mathlib.Core.Path.{sym, ◌∙◌}
use Rattle.tables.specs.Parts.{parts_of}
use Rattle.planting.proofs.Writing.{tree_length, tree_none, tree_some}
use Rattle.planting.proofs.put_tree.Statement.{statement}
use Rattle.planting.proofs.put_tree.Tie as tie

returns : tie.Need-returns-then-faces-eq0
returns c = tree_none _ _ _ (sym c.face_count-faces.ensures.0 ∙ c.if-faces-eq0.true)

put_range_requires : tie.Need-put_range-requires
put_range_requires c κs =
    let f = c.face_count-faces in
    let s = c.before.before.before.before.before in
    let long = tree_length (parts_of s.args.bytes.now) (omega (arith, f.ensures)) in
    (s.requires.0, record { some = omega (arith, f.ensures); faces = omega (arith, f.ensures); few = omega (arith, f.ensures); nodes = omega (arith, f.ensures); room = omega (arith, f.ensures, long, s.requires.2) })

returns_2 : tie.Need-returns
returns_2 c =
    let f = c.face_count-faces in
    tree_some _ _ _ f.result f.ensures.0 f.ensures.1 (omega arith) c.put_range.ensures.1

pub put_tree_spec : {M : Type 1} → statement M
put_tree_spec = tie.close (tie.spec (λ c κs. search rules) returns put_range_requires (λ c. search rules) (λ c. search rules) (λ c. search rules) (λ c. search rules) (search rules) returns_2)
