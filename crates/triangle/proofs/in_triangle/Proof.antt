-- `triangle::in_triangle` meets its contract. Assumes nothing.
use borrow.Author.Rules.{sfits_of}
use mathlib.Core.Path.{◌≡◌, ◌∙◌}
use lib.IntN.{ℤ}
use Rattle.wire.proofs.Signed.{args4}
use Rattle.triangle.specs.Triangle.{in_triangle, sides}
use Rattle.triangle.proofs.Machine.{passed, crossed}
use Rattle.triangle.proofs.in_triangle.Statement.{statement}
use Rattle.triangle.proofs.in_triangle.Tie as tie

-- the four results, stored and passed on
four : {a a' d d' e e' f f' : ℤ} → a ≡ a' → d ≡ d' → e ≡ e' → f ≡ f' → sides a d e f ≡ sides a' d' e' f'
four p q r t = rw (p, q, r, t)

cross_of_requires : tie.Need-cross_of-area-requires
cross_of_requires c κs = let h = c.requires in passed h.0 h.1 h.2 h.3 h.4 h.5

cross_of_requires_2 : tie.Need-cross_of-d-requires
cross_of_requires_2 c κs = let h = c.requires in passed h.0 h.1 h.2 h.3 h.6 h.7

cross_of_requires_3 : tie.Need-cross_of-e-requires
cross_of_requires_3 c κs = let h = c.requires in passed h.2 h.3 h.4 h.5 h.6 h.7

cross_of_requires_4 : tie.Need-cross_of-f-requires
cross_of_requires_4 c κs = let h = c.requires in passed h.4 h.5 h.0 h.1 h.6 h.7

returns : tie.Need-returns
unfolding in_triangle
returns c =
    let h = c.requires in
    let area = c.cross_of-area in
    let d = c.cross_of-d in
    let e = c.cross_of-e in
    let f = c.cross_of-f in
    c.sides_of.ensures
    ∙ args4 sides _ _ _ _ (sfits_of area.type_inv) (sfits_of d.type_inv) (sfits_of e.type_inv) (sfits_of f.type_inv)
    ∙ four
    (crossed h.0 h.1 h.2 h.3 h.4 h.5 area.ensures).same
    (crossed h.0 h.1 h.2 h.3 h.6 h.7 d.ensures).same
    (crossed h.2 h.3 h.4 h.5 h.6 h.7 e.ensures).same
    (crossed h.4 h.5 h.0 h.1 h.6 h.7 f.ensures).same

pub in_triangle_spec : {M : Type 1} → statement M
in_triangle_spec =
    tie.close
    (tie.spec cross_of_requires cross_of_requires_2 cross_of_requires_3 cross_of_requires_4 (λ c κs. tt) returns)
