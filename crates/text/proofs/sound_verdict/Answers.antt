-- The first bad byte lies in a text that is not too long.
use Rattle.std.proofs.Common.{arith, length}
use borrow.Author.Tests.{ltb-false}
use Rattle.verdict.proofs.Results.{first_under, unbroken_by}
use Rattle.text.specs.Sound.{bad_at}
use Rattle.text.proofs.sound_verdict.Goals as goal

pub refuse_at-requires : goal.refuse_at-requires
refuse_at-requires c =
    let s = c.args.s.now in
    first_under (length s) 4294967296 (bad_at s) _ c.first_bad.ensures (omega (arith, ltb-false 65536 (length s) (unbroken_by 31 _ 0 (omega arith) c.in_ok-refuse_if.ensures)))
