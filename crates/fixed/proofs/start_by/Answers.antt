-- Each table's entries, counted. Assumes nothing.
use Rattle.std.proofs.Common.{refl, arith, ◌≡◌, ◌+◌, ◌*◌, ◌≤◌}
use Rattle.fixed.specs.Written.{start_by}
use Rattle.fixed.proofs.Parted.{start_few, start_by_past}
use Rattle.fixed.proofs.start_by.Goals as goal

pub loop-j-init : goal.loop-j-init
unfolding start_by
loop-j-init c = refl

-- where the next table starts
next : (c : goal.After-count_by)
    → (c.loop-j.at + c.count_by.result * c.table_at-t.result.size ≡ start_by c.args.n (c.loop-j.j + 1)) × (c.loop-j.at + c.count_by.result * c.table_at-t.result.size ≤ 737372)
next c = start_by_past c.args.n c.requires.0 c.loop-j.j (omega (arith, c.requires.1)) c.loop-j.invariant c.count_by.ensures c.table_at-t.ensures.0

pub overflow_mul-at : goal.overflow_mul-at
overflow_mul-at c = omega (arith, next c)

pub overflow_add-at : goal.overflow_add-at
overflow_add-at c = omega (arith, next c)

pub loop-j-preserved : goal.loop-j-preserved
loop-j-preserved c = (next c).0

pub returns : goal.returns
returns c =
    let e : c.loop-j.j ≡ c.args.k = omega arith in
    let is : c.loop-j.at ≡ start_by c.args.n c.args.k = rw (← e) c.loop-j.invariant in
    (is, rw is (start_few c.args.n c.requires.0 c.args.k c.requires.1))
