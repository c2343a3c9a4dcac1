-- The form grows by a table that is copied. Assumes nothing.
use Rattle.std.proofs.Common.{arith, refl, ◌≡◌, ◌<◌}
use Rattle.tables.specs.Parts.{parts_of}
use Rattle.tables.proofs.Reading.{sized_of}
use Rattle.tables.proofs.Reform.{start_least, whole_length, length_form}
use Rattle.fixed.proofs.Parted.{few_numbers}
use Rattle.fixed.proofs.UpTo.{up_start, copy_room, up_copied, up_done}
use Rattle.fixed.proofs.write_form.Goals as goal

pub write_head-requires : goal.write_head-requires
write_head-requires c =
    let p = parts_of c.args.bytes.now in
    let h = sized_of _ c.requires.0 in
    (c.requires.0, rw c.numbers_of-n.ensures (few_numbers p h), omega (arith, whole_length p h, length_form p h, start_least p h 9, c.requires.1))

pub loop-k-init : goal.loop-k-init
loop-k-init c = up_start (parts_of c.args.bytes.now) (sized_of _ c.requires.0) c.args.out.now c.requires.1 c.numbers_of-n.result c.numbers_of-n.ensures c.write_head.ensures

pub copy_table-at-requires : goal.copy_table-at-requires
copy_table-at-requires c =
    let b = c.args.bytes.now in
    let l : c.loop-k.k < 9 = omega arith in
    (c.requires.0, l, copy_room (parts_of b) (sized_of _ c.requires.0) c.args.out.now c.requires.1 b c.requires.0 c.loop-k.k l refl c.loop-k.invariant)

pub loop-k-preserved : goal.loop-k-preserved
loop-k-preserved c =
    let b = c.args.bytes.now in
    up_copied (parts_of b) (sized_of _ c.requires.0) c.args.out.now c.requires.1 b c.requires.0 c.loop-k.k (omega arith) refl (record { byte = λ i. omega (arith, c.type_inv.bytes i) }) c.loop-k.invariant c.copy_table-at.ensures

pub returns : goal.returns
returns c =
    let e : c.loop-k.k ≡ 9 = omega arith in
    up_done (parts_of c.args.bytes.now) (sized_of _ c.requires.0) c.args.out.now c.requires.1 (rw e at c.loop-k.invariant)
