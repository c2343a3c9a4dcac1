use Rattle.std.proofs.Common.{◌≡◌, ◌∙◌, sym, refl, arith, take, length}
use lib.Seq.{take-length}
use Rattle.number.specs.Count.{value}
use Rattle.number.specs.Number.{says}
use Rattle.number.proofs.DigitLaws.{said_long, said_digit, said_small, said_more}
use Rattle.number.proofs.said.Goals as goal

pub slice_bounds-b-items-end : goal.slice_bounds-b-items-end
slice_bounds-b-items-end c = sym (said_long _ _ _ _ c.rest.ensures c.requires.0)

pub loop-b-init : goal.loop-b-init
unfolding value
loop-b-init c = refl

pub overflow_mul-v : goal.overflow_mul-v
overflow_mul-v c = omega (arith, said_small _ _ _ _ c.rest.ensures c.requires.0 c.requires.1 _ c.loop-b-test.true)

pub overflow_sub-v : goal.overflow_sub-v
overflow_sub-v c = (said_digit _ _ _ _ c.rest.ensures c.requires.0 c.requires.1 _ c.loop-b-test.true).0

pub overflow_add-v : goal.overflow_add-v
overflow_add-v c =
    omega (
      arith,
      said_small _ _ _ _ c.rest.ensures c.requires.0 c.requires.1 _ c.loop-b-test.true,
      said_digit _ _ _ _ c.rest.ensures c.requires.0 c.requires.1 _ c.loop-b-test.true,
    )

pub loop-b-preserved : goal.loop-b-preserved
loop-b-preserved c = rw c.loop-b.invariant (sym (said_more _ _ _ _ c.rest.ensures c.requires.0 c.requires.1 _ c.loop-b-test.true))

pub returns : goal.returns
unfolding says
returns c =
    let e : c.loop-b.b-index ≡ length (take c.args.n c.rest.result.now) = omega arith in
    c.loop-b.invariant ∙ rw (e, take-length, c.rest.ensures, c.requires.0) refl
