-- The two numbers that are put are those of the law. Assumes nothing.
use borrow.Author.Rules.{rules}
use native.Mathlib.Omega.{arith}
use Prim.Native.Nat.{ℕ, ◌-◌, ◌<◌}
use mathlib.Core.Path.{ap}
use Rattle.corners.specs.Memory.{loose}
use Rattle.follow.specs.Memory.{most_halves}
use Rattle.follow.specs.Ready.{web_in}
use Rattle.follow.specs.Steps.{Small}
use Rattle.follow.proofs.Floors.{small_of, asked_ends}
use Rattle.follow.proofs.Taken.{due_border, stepped_as}
use Rattle.follow.proofs.step.Statement.{statement}
use Rattle.follow.proofs.step.Tie as tie

small : (s : tie.Start) → Small (web_in s.args.bytes.now)
small s = small_of _ s.args.work.now s.requires.0

few : (s : tie.Start) → s.args.h < most_halves
few s = omega (arith, (small s).few, s.requires.1.head.inside)

from_of_requires : tie.Need-from_of-start-requires
from_of_requires c κs = let s = c.before.before in asked_ends _ _ s.requires.0 s.args.h s.requires.1.head.inside

to_of_requires : tie.Need-to_of-end-requires
to_of_requires c κs = let s = c.before.before.before in asked_ends _ _ s.requires.0 s.args.h s.requires.1.head.inside

mul_u16_at : tie.Need-overflow_mul-h
mul_u16_at c = omega (arith, few c.before.before.before.before)

add_u16_at : tie.Need-overflow_add-h
add_u16_at c = omega (arith, few c.before.before.before.before)

u16_at_requires : tie.Need-u16_at-behind-requires
u16_at_requires c κs = let s = c.before.before.before.before in omega (arith, few s, s.requires.0.long)

-- what is due is a border, and its number says so
sub_behind : tie.Need-overflow_sub-behind
sub_behind c =
    let s = c.before.before.before.before.before in
    let q = s.requires in
    omega (arith, c.u16_at-behind.ensures.0, q.0.mated.borders s.args.h q.1.head.inside (due_border _ _ _ s.args.h q.1))

put_u16_requires_2 : tie.Need-put_u16-requires-2
put_u16_requires_2 c κs =
    let s = c.before.before.before.before.before.before.before.before.before.before in
    omega (arith, c.from_of-start.ensures.0, (small s).start s.args.h s.requires.1.head.inside, s.requires.0.long, c.put_u16.auto.bytes)

returns : tie.Need-returns
returns c =
    let s = c.before.before.before.before.before.before.before.before.before.before.before.before.before in (
      c.to_of-end.ensures.0,
      stepped_as (web_in s.args.bytes.now) s.args.work.now s.args.i s.args.h (small s) s.requires.0.long s.requires.1 c.from_of-start.result _ _ _ c.from_of-start.ensures.0
          (ap (λ (x : ℕ). x - loose) c.u16_at-behind.ensures.0) c.put_u16.ensures c.put_u16-2.ensures,
    )

pub step_spec : {M : Type 1} → statement M
step_spec = tie.close (tie.spec from_of_requires to_of_requires mul_u16_at add_u16_at u16_at_requires sub_behind (search rules) (search rules) (λ c κs. search rules) (search rules) put_u16_requires_2 (search rules) returns)
