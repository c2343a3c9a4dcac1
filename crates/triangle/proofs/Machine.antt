-- A cross as the machine has it: its six numbers passed on, and how large it can be on the grid. Assumes nothing.
use mathlib.Core.Path.{◌≡◌, ◌∙◌}
use lib.IntN.{ℤ}
use Rattle.wire.specs.Signed.{Within}
use Rattle.wire.proofs.Signed.{Reads, read, read_within, within_fits, args6, sub_within, mul_within}
use Rattle.triangle.specs.Triangle.{cross}

module _ {a b d e p q : ℤ} (ha : Within 65536 a) (hb : Within 65536 b) (hd : Within 65536 d) (he : Within 65536 e) (hp : Within 65536 p) (hq : Within 65536 q) where
  -- the six, stored and passed on
  pub passed : Within 65536 (read a) × Within 65536 (read b) × Within 65536 (read d) × Within 65536 (read e) × Within 65536 (read p) × Within 65536 (read q)
  passed = (read_within ha tt, read_within hb tt, read_within hd tt, read_within he tt, read_within hp tt, read_within hq tt)

  pub cross_within : Within 34359738368 (cross a b d e p q)
  unfolding cross
  cross_within = sub_within (mul_within (sub_within hd ha) (sub_within hq hb)) (mul_within (sub_within he hb) (sub_within hp ha))

  -- what is answered for the six as they were passed on
  pub crossed : {r : ℤ} → r ≡ cross (read a) (read b) (read d) (read e) (read p) (read q) → Reads 34359738368 r (cross a b d e p q)
  crossed r = record {
    same = r ∙ args6 cross a b d e p q (within_fits ha tt) (within_fits hb tt) (within_fits hd tt) (within_fits he tt) (within_fits hp tt) (within_fits hq tt);
    bound = cross_within.le;
  }
