-- One vertex more in the map and in its chain. Assumes nothing.
use borrow.Author.Rules.{rules}
use native.Mathlib.Omega.{arith}
use Prim.Native.Nat.{◌<◌}
use Rattle.tables.proofs.Reading.{sized_of}
use Rattle.mates.proofs.Map.{mapped_step}
use Rattle.mates.proofs.map_vertex.Statement.{statement}
use Rattle.mates.proofs.map_vertex.Tie as tie

few : (s : tie.Start) → s.args.v < 4096
few s = omega (arith, s.requires.0.2, (sized_of s.args.bytes.now s.requires.0.0).vertices)

put_u16_requires : tie.Need-put_u16-requires
put_u16_requires c κs = let s = c.before.before.before.before in omega (arith, few s, s.requires.1.0)

put_last_requires : tie.Need-put_last-requires
put_last_requires c κs =
    let put = c.before.before.before.before in
    let s = put.before.before.before.before.before in
    (c.point_key.ensures.1, omega (arith, few s, s.requires.1.0, put.put_u16.auto.bytes))

returns : tie.Need-returns
returns c =
    let last = c.before.before in
    let put = last.before.before.before.before.before in
    let s = put.before.before.before.before.before in
    mapped_step _ _ _ _ _ _ _ s.requires.0.1 (sized_of s.args.bytes.now s.requires.0.0).vertices s.requires.0.2 s.requires.1.0 put.lowest_by-own.ensures
    last.point_key.ensures put.put_u16.ensures last.put_last.ensures s.requires.1.1

pub map_vertex_spec : {M : Type 1} → statement M
map_vertex_spec = tie.close (tie.spec (λ c κs. search rules) (λ c. omega (arith, few c.before.before.before.before)) (λ c. omega (arith, few c.before.before.before.before)) put_u16_requires (λ c κs. search rules) put_last_requires (search rules) returns)
