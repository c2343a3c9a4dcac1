-- 40, or the form.
use Rattle.std.proofs.Common.{refl, arith}
use Rattle.plant.specs.Plant.{planted_form}
use Rattle.plant.proofs.Form.{sized_form, few_planted, form_size}
use Rattle.plant.proofs.Answers.{no_room, form_fits}
use Rattle.plant.proofs.write_out.Goals as goal

pub start_by-length-requires : goal.start_by-length-requires
start_by-length-requires c =
    let b = c.args.bytes.now in
    let sized = sized_form b (record { byte = λ i. omega (arith, c.type_inv.bytes i) }) c.requires.0 c.requires.1 in
    (few_planted b sized _ c.planted_numbers-n.ensures, omega arith)

pub returns-then-out-length : goal.returns-then-out-length
returns-then-out-length c =
    let b = c.args.bytes.now in
    let sized = sized_form b (record { byte = λ i. omega (arith, c.type_inv.bytes i) }) c.requires.0 c.requires.1 in
    let long = form_size b sized _ c.planted_numbers-n.ensures _ c.start_by-length.ensures.0 in
    let h = no_room b c.args.out.now (omega (arith, long)) _ refl in
    record { answer = h.0; output = h.1 }

pub write_planted-requires : goal.write_planted-requires
unfolding planted_form
write_planted-requires c =
    let b = c.args.bytes.now in
    let sized = sized_form b (record { byte = λ i. omega (arith, c.type_inv.bytes i) }) c.requires.0 c.requires.1 in
    let long = form_size b sized _ c.planted_numbers-n.ensures _ c.start_by-length.ensures.0 in
    record { ready = (c.requires.0, c.requires.1, c.planted_numbers-n.ensures); room = omega (arith, long) }

pub returns : goal.returns
unfolding planted_form
returns c =
    let b = c.args.bytes.now in
    let sized = sized_form b (record { byte = λ i. omega (arith, c.type_inv.bytes i) }) c.requires.0 c.requires.1 in
    let long = form_size b sized _ c.planted_numbers-n.ensures _ c.start_by-length.ensures.0 in
    let h = form_fits b c.args.out.now (omega (arith, long)) _ _ long c.write_planted.ensures in
    record { answer = h.0; output = h.1 }
