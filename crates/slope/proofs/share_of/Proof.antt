-- One product. Assumes nothing.
use Rattle.wire.proofs.Signed.{times, fits, stored, param, reads_within}
use Rattle.slope.proofs.share_of.Statement.{statement}
use Rattle.slope.proofs.share_of.Tie as tie

mul_result : tie.Need-overflow_mul-result
mul_result c = fits (times (param c.requires.0 tt) (param c.requires.1 tt)) tt

returns : tie.Need-returns
returns c = let r = stored (times (param c.requires.0 tt) (param c.requires.1 tt)) tt in (r.same, reads_within r)

pub share_of_spec : {M : Type 1} → statement M
share_of_spec = tie.close (tie.spec mul_result returns)
