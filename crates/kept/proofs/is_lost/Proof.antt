-- The mark tells whether there was a transition, the rest whether one is kept. Assumes nothing.
use native.Mathlib.Omega.{arith}
use Prim.Native.Nat.{◌<◌}
use Rattle.tables.specs.Parts.{parts_of}
use Rattle.pairs.proofs.Halves.{few_walkable}
use Rattle.corners.specs.Corners.{recornered}
use Rattle.kept.proofs.Notes.{Reads, all_read, lost_unmarked, lost_low, lost_high}
use Rattle.kept.proofs.is_lost.Statement.{statement}
use Rattle.kept.proofs.is_lost.Tie as tie

few : (s : tie.Start) → s.args.h < 12288
few s = omega (arith, s.requires.0.2, few_walkable s.args.bytes.now s.requires.0.0)

-- the note as it is read
told : (c : tie.After-u16_at-x) → let s = c.before.before.before in let p = parts_of s.args.bytes.now in Reads p (recornered p) p.edges s.args.h c.u16_at-x.result
told c = let s = c.before.before.before in all_read s.args.bytes.now s.args.work.now s.args.h _ s.requires.0.0 s.requires.1 s.requires.0.2 c.u16_at-x.ensures.0

returns : tie.Need-returns-then-x-eq0
returns c = lost_unmarked (told c.before) c.if-x-eq0.true

returns_2 : tie.Need-returns-then-x-lt-LOOSE
returns_2 c = lost_low (told c.before.before) c.if-x-eq0.false c.if-x-lt-LOOSE.true

returns_3 : tie.Need-returns
returns_3 c = lost_high (told c.before.before) c.if-x-eq0.false c.if-x-lt-LOOSE.false

pub is_lost_spec : {M : Type 1} → statement M
is_lost_spec = tie.close (tie.spec (λ c. omega (arith, few c.before.before)) (λ c. omega (arith, few c.before.before)) (λ c κs. omega (arith, few c.before.before, c.requires.0.1)) returns returns_2 returns_3)
