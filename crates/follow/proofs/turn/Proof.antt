-- Where the half-edge is an unused border it is the lowest, and starts a ring, whose end is marked. Assumes nothing.
use borrow.Author.Rules.{rules}
use native.Mathlib.Omega.{arith}
use mathlib.Core.Path.{◌≡◌, refl, sym, ◌∙◌}
use mathlib.Core.Bool.{true, false}
use Rattle.rings.specs.Rings.{unused}
use Rattle.follow.specs.Memory.{edges_in}
use Rattle.follow.specs.Ready.{web_in}
use Rattle.follow.specs.Steps.{Small}
use Rattle.follow.proofs.Floors.{small_of}
use Rattle.follow.proofs.Passing.{passed_skip, passed_ring, passed_few}
use Rattle.follow.proofs.turn.Statement.{statement}
use Rattle.follow.proofs.turn.Tie as tie

small : (s : tie.Start) → Small (web_in s.args.bytes.now)
small s = small_of _ s.args.work.now s.requires.0

-- the half-edge is free
unspent : (c : tie.Then-is_free) → unused (web_in c.args.bytes.now) (edges_in c.args.work.now c.args.so.edges) c.args.c ≡ true
unspent c = sym c.is_free.ensures ∙ c.if-is_free.true

-- it is not
spent : (c : tie.Else-is_free) → unused (web_in c.args.bytes.now) (edges_in c.args.work.now c.args.so.edges) c.args.c ≡ false
spent c = sym c.is_free.ensures ∙ c.if-is_free.false

ring_from_requires : tie.Need-ring_from-n-requires
ring_from_requires c κs = let s = c.before.before.before.before.before in (s.requires.0, (s.requires.1.0, (unspent c.before, s.requires.1.1)))

add_t16 : tie.Need-overflow_add-result
add_t16 c =
    let s = c.before.before.before.before.before.before.before.before.before.before.before.before in
    omega (arith, (passed_few (web_in s.args.bytes.now) s.args.work.now s.args.so.edges s.args.so.rings s.args.c (small s) s.requires.1.0).1)

returns : tie.Need-returns-then-is_free
returns c =
    let s = c.before.before.before.before.before.before.before.before.before.before.before.before in
    let r = c.ring_from-n in
    passed_ring (web_in s.args.bytes.now) s.args.work.now _ s.args.so.edges s.args.so.rings s.args.c r.result (small s) (omega (arith, s.requires.0.long, r.auto.work)) s.requires.1.0 s.requires.1.1 (unspent c.before.before.before.before.before.before.before.before) r.ensures _ c.mark_end.ensures

returns_2 : tie.Need-returns
returns_2 c =
    let s = c.before.before.before.before in
    (passed_skip (web_in s.args.bytes.now) s.args.work.now s.args.so.edges s.args.so.rings s.args.c s.requires.1.0 (spent c), refl)

pub turn_spec : {M : Type 1} → statement M
turn_spec = tie.close (tie.spec (λ c κs. search rules) ring_from_requires (search rules) (λ c κs. search rules) add_t16 (search rules) returns (search rules) returns_2)
