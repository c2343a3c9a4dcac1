-- Minus n where the area is negative. Assumes nothing.
use lib.IntN.{pos}
use Rattle.wire.proofs.Signed.{minus, called, fits, stored, param, reads_within, under}
use Rattle.slope.proofs.Machine.{turned_yes, turned_no}
use Rattle.slope.proofs.turned.Statement.{statement}
use Rattle.slope.proofs.turned.Tie as tie

sub_result : tie.Need-overflow_sub-result
sub_result c = fits (minus (param c.requires tt)) tt

returns : tie.Need-returns-then-area-lt0
returns c =
    let s = c.before in
    let r = stored (called (turned_yes s.args.area s.args.n (under s.args.area (pos 0) s.ranges.area c.if-area-lt0.true)) (minus (param s.requires tt))) tt in
    (r.same, reads_within r)

returns_2 : tie.Need-returns
returns_2 c =
    let s = c.before in
    let r = called (turned_no s.args.area s.args.n (under s.args.area (pos 0) s.ranges.area c.if-area-lt0.false)) (param s.requires tt) in
    (r.same, reads_within r)

pub turned_spec : {M : Type 1} → statement M
turned_spec = tie.close (tie.spec sub_result returns returns_2)
