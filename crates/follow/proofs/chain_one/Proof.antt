-- A border goes before the chain of its vertex. Assumes nothing.
use borrow.Author.Rules.{rules}
use native.Mathlib.Omega.{arith}
use Prim.Native.Nat.{◌<◌}
use mathlib.Core.Path.{refl, sym, ap, ◌∙◌}
use Rattle.follow.specs.Memory.{most_vertices, most_halves, head_in}
use Rattle.follow.specs.Ready.{web_in}
use Rattle.follow.specs.Steps.{Small}
use Rattle.follow.proofs.Floors.{small_of, asked_ends, asked_border, ready_chained}
use Rattle.follow.proofs.Chains.{head_low, chained_skip, chained_as}
use Rattle.follow.proofs.chain_one.Statement.{statement}
use Rattle.follow.proofs.chain_one.Tie as tie

small : (s : tie.Start) → Small (web_in s.args.bytes.now)
small s = small_of _ s.args.work.now s.requires.0

few : (s : tie.Start) → s.args.h < most_halves
few s = omega (arith, (small s).few, s.requires.1.1)

-- the vertex where it starts has a head
low : (c : tie.After-from_of-start) → c.from_of-start.result < most_vertices
low c = let s = c.before.before.before.before.before in omega (arith, c.from_of-start.ensures.0, (small s).start s.args.h s.requires.1.1)

is_border_requires : tie.Need-is_border-requires
is_border_requires c κs = let s = c.before.before in asked_border _ _ s.requires.0 s.args.h s.requires.1.1

from_of_requires : tie.Need-from_of-start-requires
from_of_requires c κs = let s = c.before.before.before.before in asked_ends _ _ s.requires.0 s.args.h s.requires.1.1

u16_at_requires : tie.Need-u16_at-head-requires
u16_at_requires c κs = omega (arith, low c, c.requires.0.long)

mul_put_u16 : tie.Need-overflow_mul-h
mul_put_u16 c = omega (arith, few c.before.before.before.before.before.before.before)

add_put_u16 : tie.Need-overflow_add-h
add_put_u16 c = omega (arith, few c.before.before.before.before.before.before.before)

put_u16_requires : tie.Need-put_u16-requires
put_u16_requires c κs = let s = c.before.before.before.before.before.before.before in omega (arith, few s, s.requires.0.long)

put_u16_requires_2 : tie.Need-put_u16-requires-then-is_border
put_u16_requires_2 c κs = omega (arith, low c.before.before.before.before.before.before, c.requires.0.long, c.put_u16.auto.bytes)

returns : tie.Need-returns-then-is_border
returns c =
    let from = c.before.before.before.before.before.before.before.before.before in
    let s = from.before.before.before.before.before in
    let q = c.requires in
    let b = c.args.bytes.now in
    let m = c.args.work.now in
    let is = sym c.is_border.ensures ∙ c.if-is_border.true in
    let at = c.from_of-start.ensures.0 in
    let most = head_low (web_in b) m c.args.h (small s) q.0.long q.1.1 is q.1.0 in (
      chained_as (web_in b) m c.args.h (small s) q.0.long q.1.1 is q.1.0 c.from_of-start.result _ _ _ at c.u16_at-head.ensures.0 c.put_u16.ensures c.put_u16-then-is_border.ensures,
      ready_chained b m _ _ c.args.h c.from_of-start.result _ q.0 q.1.1 is (low from) (omega (arith, most, c.u16_at-head.ensures.0, ap (head_in m) at)) c.put_u16.ensures c.put_u16-then-is_border.ensures,
    )

returns_2 : tie.Need-returns-else-is_border
returns_2 c =
    let s = c.before.before.before.before in
    (chained_skip (web_in s.args.bytes.now) s.args.work.now s.args.h (sym c.is_border.ensures ∙ c.if-is_border.false) s.requires.1.0, (s.requires.0, refl))

pub chain_one_spec : {M : Type 1} → statement M
chain_one_spec = tie.close (tie.spec is_border_requires from_of_requires (search rules) u16_at_requires mul_put_u16 add_put_u16 (search rules) put_u16_requires (search rules) put_u16_requires_2 (search rules) returns (search rules) returns_2)
