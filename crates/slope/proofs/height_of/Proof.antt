-- The exact height's numerator and denominator, divided. Assumes nothing.
use borrow.Author.Rules.{rules}
use mathlib.Core.Path.{◌≡◌, sym, subst, ◌∙◌}
use lib.IntN.{ℤ, pos}
use lib.Signed.{◌<ℤ◌}
use Rattle.wire.specs.Signed.{Within}
use Rattle.wire.proofs.Signed.{read, read_is, read_within, within_more}
use Rattle.whole.proofs.Order.{pos_>0}
use Rattle.slope.specs.Height.{area, lifted, denominator}
use Rattle.slope.proofs.Meaning.{some_denominator, height_small}
use Rattle.slope.proofs.Machine.{area_made, lifted_made, numerator_made, denominator_made, height_made}
use Rattle.slope.proofs.height_of.Statement.{statement}
use Rattle.slope.proofs.height_of.Tie as tie

-- the area and what it is to divide, as the locals hold them
area_is : (c : tie.After-beside-area) → let s = c.args in read c.beside-area.result ≡ area s.a s.b s.c
area_is c = let h = c.requires in area_made _ _ _ h.2.x h.2.y c.beside-area.ensures.0 c.beside-area.ensures.1

lifted_is : (c : tie.After-lifted_of-n) → let s = c.args in read c.lifted_of-n.result ≡ lifted s.a s.b s.c s.x s.y
lifted_is c = let h = c.requires in lifted_made _ _ _ h.3 h.4 c.lifted_of-n.ensures.0 c.lifted_of-n.ensures.1

turned_requires_2 : tie.Need-turned-requires-2
turned_requires_2 c κs = read_within (within_more c.beside-area.ensures.1 tt) tt

-- the divisor, as it is passed on
divisor_is : (c : tie.After-turned-2) → let s = c.args in read c.turned-2.result ≡ pos (denominator s.a s.b s.c)
divisor_is c = denominator_made _ _ _ (area_is c.before.before.before) c.turned-2.ensures.0 c.turned-2.ensures.1

rounded_down_requires : tie.Need-rounded_down-requires
rounded_down_requires c κs =
    let s = c.before.before.before.before.before.before in
    let some = some_denominator s.args.a s.args.b s.args.c s.args.x s.args.y s.requires.5 in
    (read_within c.turned.ensures.1 tt, read_within c.turned-2.ensures.1 tt, subst (λ (z : ℤ). pos 0 <ℤ z) (sym (divisor_is c)) (pos_>0 _ some))

returns : tie.Need-returns
returns c =
    let d = c.before in
    let s = d.before.before.before.before.before.before in
    let h = s.requires in
    let n = numerator_made _ _ _ _ _ (area_is d.before.before.before) (lifted_is d.before.before) d.turned.ensures.0 d.turned.ensures.1 in
    let e = height_made _ _ _ _ _ n (divisor_is d) c.rounded_down.ensures in
    let w : Within 65536 c.rounded_down.result = subst (Within 65536) (sym e) (height_small _ _ _ _ _ h.5 h.0 h.1 h.2) in
    (read_is w tt ∙ e, read_within w tt)

pub height_of_spec : {M : Type 1} → statement M
height_of_spec = tie.close (tie.spec (λ c κs. search rules) (λ c κs. search rules) (λ c κs. search rules) turned_requires_2 rounded_down_requires returns)
