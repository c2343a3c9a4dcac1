-- The note tells the partner, or that there is none. Assumes nothing.
use borrow.Author.Rules.{rules}
use native.Mathlib.Omega.{arith}
use Prim.Native.Nat.{◌<◌}
use Rattle.tables.specs.Parts.{parts_of}
use Rattle.pairs.proofs.Halves.{few_walkable}
use Rattle.corners.specs.Corners.{recornered}
use Rattle.kept.proofs.Notes.{Reads, all_read, pairing_low, pairing_high}
use Rattle.kept.proofs.pairing_of.Statement.{statement}
use Rattle.kept.proofs.pairing_of.Tie as tie

few : (s : tie.Start) → s.args.h < 12288
few s = omega (arith, s.requires.0.2, few_walkable s.args.bytes.now s.requires.0.0)

-- the note as it is read
told : (c : tie.After-u16_at-x) → let s = c.before.before.before in let p = parts_of s.args.bytes.now in Reads p (recornered p) p.edges s.args.h c.u16_at-x.result
told c = let s = c.before.before.before in all_read s.args.bytes.now s.args.work.now s.args.h _ s.requires.0.0 s.requires.1 s.requires.0.2 c.u16_at-x.ensures.0

returns : tie.Need-returns-then-x-lt-LOOSE
returns c = pairing_low (told c.before) c.if-x-lt-LOOSE.true

returns_2 : tie.Need-returns
returns_2 c = pairing_high (told c.before) c.if-x-lt-LOOSE.false

pub pairing_of_spec : {M : Type 1} → statement M
pairing_of_spec = tie.close (tie.spec (λ c. omega (arith, few c.before.before)) (λ c. omega (arith, few c.before.before)) (λ c κs. omega (arith, few c.before.before, c.requires.0.1)) (search rules) returns returns_2)
