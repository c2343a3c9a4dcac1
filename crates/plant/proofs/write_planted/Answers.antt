-- The header, then table by table. Assumes nothing.
use Rattle.std.proofs.Common.{arith, refl, sym, subst, ◌≡◌}
use Rattle.tables.specs.Parts.{parts_of}
use Rattle.tables.proofs.Reform.{length_form}
use Rattle.fixed.specs.Written.{Few}
use Rattle.fixed.proofs.Parted.{few_numbers}
use Rattle.fixed.proofs.UpTo.{up_start, up_room, up_next, up_done}
use Rattle.planting.specs.Planting.{planted}
use Rattle.plant.proofs.Form.{sized_form}
use Rattle.plant.proofs.write_planted.Goals as goal

pub write_head-requires : goal.write_head-requires
write_head-requires c =
    let p = planted (parts_of c.args.bytes.now) in
    let h = sized_form c.args.bytes.now (record { byte = λ i. omega (arith, c.type_inv.bytes i) }) c.requires.ready.0 c.requires.ready.1 in
    (c.requires.ready.0, subst Few (sym c.requires.ready.2) (few_numbers p h), omega (arith, c.requires.room, length_form p h))

pub loop-k-init : goal.loop-k-init
loop-k-init c =
    let b = c.args.bytes.now in
    let h = sized_form b (record { byte = λ i. omega (arith, c.type_inv.bytes i) }) c.requires.ready.0 c.requires.ready.1 in
    up_start (planted (parts_of b)) h c.args.out.now c.requires.room _ c.requires.ready.2 (unfold planted in c.write_head.ensures)

pub put_table-at-requires : goal.put_table-at-requires
put_table-at-requires c =
    let b = c.args.bytes.now in
    let h = sized_form b (record { byte = λ i. omega (arith, c.type_inv.bytes i) }) c.requires.ready.0 c.requires.ready.1 in
    let r = up_room (planted (parts_of b)) h c.args.out.now c.requires.room c.loop-k.k (omega arith) c.loop-k.invariant in
    (c.requires.ready.0, c.requires.ready.1, omega arith, r.0, r.1)

pub loop-k-preserved : goal.loop-k-preserved
loop-k-preserved c =
    let b = c.args.bytes.now in
    let h = sized_form b (record { byte = λ i. omega (arith, c.type_inv.bytes i) }) c.requires.ready.0 c.requires.ready.1 in
    up_next (planted (parts_of b)) h c.args.out.now c.requires.room c.loop-k.k (omega arith) refl c.loop-k.invariant c.put_table-at.ensures.next c.put_table-at.ensures.table

pub returns : goal.returns
returns c =
    let b = c.args.bytes.now in
    let h = sized_form b (record { byte = λ i. omega (arith, c.type_inv.bytes i) }) c.requires.ready.0 c.requires.ready.1 in
    let e : c.loop-k.k ≡ 9 = omega arith in
    up_done (planted (parts_of b)) h c.args.out.now c.requires.room (rw e at c.loop-k.invariant)
