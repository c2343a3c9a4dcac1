-- 40 for either output, or both written.
use Rattle.std.proofs.Common.{arith, length}
use Rattle.seams.specs.Mend.{mended_form, mended_list}
use Rattle.mend.proofs.Outputs.{sized_mended, few_mended, form_size, no_room, no_list, both_fit, refused_room, written_room}
use Rattle.mend.proofs.write_both.Goals as goal

pub start_by-length-requires : goal.start_by-length-requires
start_by-length-requires c =
    let b = c.args.bytes.now in
    let sized = sized_mended b c.args.work.now (record { byte = λ i. omega (arith, c.type_inv.bytes i) }) c.requires.0 c.requires.1 in
    (few_mended b sized _ c.mended_numbers-n.ensures, omega arith)

pub returns-then-out-length : goal.returns-then-out-length
returns-then-out-length c =
    let b = c.args.bytes.now in
    let sized = sized_mended b c.args.work.now (record { byte = λ i. omega (arith, c.type_inv.bytes i) }) c.requires.0 c.requires.1 in
    let long = form_size b sized _ c.mended_numbers-n.ensures _ c.start_by-length.ensures.0 in
    let v = no_room b (length c.args.out.now) (length c.args.list.now) (omega (arith, long)) in
    let k = refused_room _ b c.args.out.now c.args.list.now _ v c.refused_mending.ensures in
    record { answer = k.0; memory = c.work_out-c.ensures.memory; form = k.1.0; list = k.1.1 }

pub returns-then-list-listed : goal.returns-then-list-listed
unfolding mended_list
returns-then-list-listed c =
    let b = c.args.bytes.now in
    let sized = sized_mended b c.args.work.now (record { byte = λ i. omega (arith, c.type_inv.bytes i) }) c.requires.0 c.requires.1 in
    let long = form_size b sized _ c.mended_numbers-n.ensures _ c.start_by-length.ensures.0 in
    let v = no_list b (length c.args.out.now) (length c.args.list.now) (omega (arith, long)) (omega (arith, c.list_length-listed.ensures.0)) in
    let k = refused_room _ b c.args.out.now c.args.list.now _ v c.refused_mending-then-list-listed.ensures in
    record { answer = k.0; memory = c.work_out-c.ensures.memory; form = k.1.0; list = k.1.1 }

pub write_mended-requires : goal.write_mended-requires
unfolding mended_form
write_mended-requires c =
    let b = c.args.bytes.now in
    let sized = sized_mended b c.args.work.now (record { byte = λ i. omega (arith, c.type_inv.bytes i) }) c.requires.0 c.requires.1 in
    let long = form_size b sized _ c.mended_numbers-n.ensures _ c.start_by-length.ensures.0 in
    record { worked = (c.work_out-c.ensures.worked, c.mended_numbers-n.ensures, sized); room = omega (arith, long) }

pub returns : goal.returns
unfolding mended_form mended_list
returns c =
    let b = c.args.bytes.now in
    let sized = sized_mended b c.args.work.now (record { byte = λ i. omega (arith, c.type_inv.bytes i) }) c.requires.0 c.requires.1 in
    let long = form_size b sized _ c.mended_numbers-n.ensures _ c.start_by-length.ensures.0 in
    let v = both_fit b (length c.args.out.now) (length c.args.list.now) (omega (arith, long)) (omega (arith, c.list_length-listed.ensures.0)) in
    let k = written_room _ b c.args.out.now c.args.list.now _ _ _ _ v long c.list_length-listed.ensures.0 c.write_mended.ensures c.write_list.ensures in
    record { answer = k.0; memory = c.work_out-c.ensures.memory; form = k.1.0; list = k.1.1 }
