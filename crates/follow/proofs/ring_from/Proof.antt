-- The ring goes on with the head of the vertex that it has come to. The measure is the number of unused borders. Assumes nothing.
use native.Mathlib.Omega.{arith}
use Prim.Native.Nat.{◌+◌, ◌<◌}
use mathlib.Core.Path.{◌≡◌, ◌∙◌}
use mathlib.Core.Bool.{false}
use lib.Dec.{eqb}
use borrow.Author.Tests.{ne_eqb}
use Rattle.rings.specs.Walk.{left}
use Rattle.follow.specs.Memory.{edges_in}
use Rattle.follow.specs.Ready.{web_in, Ready}
use Rattle.follow.specs.Steps.{Small, Due}
use Rattle.follow.proofs.Numbers.{length_edges}
use Rattle.follow.proofs.Floors.{small_of, asked_ends, ready_same}
use Rattle.follow.proofs.Ring.{first_due, Loop, loop_first, loop_turn, loop_next, loop_done}
use Rattle.follow.proofs.ring_from.Statement.{statement}
use Rattle.follow.proofs.ring_from.Tie as tie

abbrev invariant_loop : tie.invariant-loop-end
invariant_loop bytes work₀ i j h start end₀ n₀ work end n = Ready bytes work × Loop (web_in bytes) work₀ work i start end n

abbrev decreases_loop : tie.decreases-loop-end
decreases_loop bytes work₀ i j h start end₀ n₀ work end n = left (web_in bytes) (edges_in work n)

-- the places that are gone back to: the first step, the half-edge's start, and the function's
abbrev at_step : tie.At-loop-end invariant_loop decreases_loop → tie.After-step-end invariant_loop decreases_loop
at_step l = l.before.before.before

abbrev at_from : tie.At-loop-end invariant_loop decreases_loop → tie.After-from_of-start invariant_loop decreases_loop
at_from l = (at_step l).before.before

abbrev start : tie.At-loop-end invariant_loop decreases_loop → tie.Start invariant_loop decreases_loop
start l = (at_from l).before.before.before

small : (s : tie.Start invariant_loop decreases_loop) → Small (web_in s.args.bytes.now)
small s = small_of _ s.args.work.now s.requires.0

-- what the first step asks for
opening : (s : tie.Start invariant_loop decreases_loop) → Due (web_in s.args.bytes.now) s.args.work.now s.args.i s.args.h
opening s = first_due (web_in s.args.bytes.now) (small s) s.args.work.now s.args.i s.args.j s.args.h s.requires.1.0 s.requires.1.1.1 s.requires.1.1.0

from_of_requires : tie.Need-from_of-start-requires invariant_loop decreases_loop
from_of_requires c κs = let s = c.before.before in asked_ends _ _ s.requires.0 s.args.h s.requires.1.1.1

step_requires : tie.Need-step-end-requires invariant_loop decreases_loop
step_requires c κs = let s = c.before.before.before.before in (s.requires.0, opening s)

add_n : tie.Need-overflow_add-n invariant_loop decreases_loop
add_n c = omega (arith, (opening c.before.before.before.before.before.before.before).room)

loop_holds : tie.Need-loop-end-init invariant_loop decreases_loop
loop_holds c =
    let s = c.before.before.before.before.before.before.before in
    let q = s.requires in (
      ready_same _ _ q.0 _ c.step-end.auto.work c.step-end.ensures.1.same,
      loop_first (web_in s.args.bytes.now) (small s) s.args.work.now s.args.i s.args.j s.args.h q.1.0 q.1.1.1 q.1.1.0 _ _ _ c.step-end.ensures.1 c.from_of-start.ensures.0 c.step-end.ensures.0,
    )

u16_at_requires : tie.Need-u16_at-g-requires invariant_loop decreases_loop
u16_at_requires c κs = let r = c.loop-end.invariant in omega (arith, r.1.low, r.0.long)

mul_u16_at : tie.Need-overflow_mul-end invariant_loop decreases_loop
mul_u16_at c = omega (arith, c.loop-end.invariant.1.low)

-- the loop goes on
open_still : (c : tie.In-loop-end invariant_loop decreases_loop) → eqb c.loop-end.end (at_from c.before).from_of-start.result ≡ false
open_still c = ne_eqb _ _ c.loop-end-test.true

step_requires_2 : tie.Need-step-end-requires-in-loop-end invariant_loop decreases_loop
step_requires_2 c κs =
    let i = c.before.before in
    let l = i.before in
    let s = start l in
    let r = l.loop-end in (
      r.invariant.0,
      loop_turn (web_in s.args.bytes.now) (small s) _ r.work s.args.i (at_from l).from_of-start.result r.end r.n r.invariant.1 (open_still i) c.u16_at-g.result c.u16_at-g.ensures.0,
    )

-- what a turn leaves
next_turn : (c : tie.After-step-end-in-loop-end invariant_loop decreases_loop)
    → let l = c.before.before.before.before in
    Loop (web_in (start l).args.bytes.now) (at_step l).step-end.new.work c.step-end-in-loop-end.new.work (start l).args.i (at_from l).from_of-start.result c.step-end-in-loop-end.result (l.loop-end.n + 1)
    × (left (web_in (start l).args.bytes.now) (edges_in c.step-end-in-loop-end.new.work (l.loop-end.n + 1)) < left (web_in (start l).args.bytes.now) (edges_in l.loop-end.work l.loop-end.n))
next_turn c =
    let i = c.before.before.before in
    let l = i.before in
    let s = start l in
    let r = l.loop-end in
    let head = c.u16_at-g in
    loop_next (web_in s.args.bytes.now) (small s) _ r.work s.args.i (at_from l).from_of-start.result r.end r.n r.invariant.1 (open_still i)
    head.result c.step-end-in-loop-end.result c.step-end-in-loop-end.new.work head.ensures.0 c.step-end-in-loop-end.ensures.1 c.step-end-in-loop-end.ensures.0 c.step-end-in-loop-end.auto.work

add_n_2 : tie.Need-overflow_add-n-in-loop-end invariant_loop decreases_loop
add_n_2 c =
    let r = c.loop-end in
    omega (arith, r.invariant.1.going.room, length_edges r.work r.n, (small c.before.before.before.before.before.before.before.before.before.before.before.before.before.before).few)

loop_less : tie.Need-loop-end-smaller invariant_loop decreases_loop
loop_less c = (next_turn c.before.before).1

loop_again : tie.Need-loop-end-preserved invariant_loop decreases_loop
loop_again c =
    let on = c.before.before in
    (ready_same _ _ c.loop-end.invariant.0 _ on.step-end-in-loop-end.auto.work on.step-end-in-loop-end.ensures.1.same, (next_turn on).0)

same_length : tie.Need-shape_of-work invariant_loop decreases_loop
same_length c = c.loop-end.invariant.1.long ∙ (at_step c.before).step-end.auto.work

returns : tie.Need-returns invariant_loop decreases_loop
returns c =
    let l = c.before in
    let s = start l in
    let r = l.loop-end in
    loop_done (web_in s.args.bytes.now) (small s) _ r.work s.args.i _ r.end r.n r.invariant.1 s.args.work.now s.args.h c.loop-end-test.false (at_step l).step-end.ensures.1

pub ring_from_spec : {M : Type 1} → statement M
ring_from_spec =
    tie.close
    (tie.spec invariant_loop decreases_loop from_of_requires step_requires add_n loop_holds mul_u16_at u16_at_requires step_requires_2 add_n_2 loop_less loop_again same_length returns)
