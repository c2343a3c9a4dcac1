-- 33, what is wrong with the names, 35, and of a room 37.
use Rattle.std.proofs.Common.{arith, refl, true, false, length, ◌≤◌}
use Rattle.std.proofs.lemmas.Result.{err_from_is_err_and}
use Rattle.verdict.proofs.Results.{number_positive}
use Rattle.layout.specs.Grammar.{names_of}
use Rattle.layout.specs.Starts.{held, state_of}
use Rattle.layout.proofs.FaultLaws.{first_named, entry_33, entry_named, entry_35, entry_other, entry_room}
use Rattle.layout.proofs.HeldLaws.{held_long}
use Rattle.layout.proofs.lines.entry_fault.Goals.{else-st-eq2-via-then-st-eq2+else-is_among, else-st-eq2-via-else-st-eq2}
use Rattle.layout.proofs.lines.entry_fault.Goals as goal

pub returns-then-not-is_entry_long : goal.returns-then-not-is_entry_long
unfolding state_of
returns-then-not-is_entry_long c = entry_33 _ _ _ c.word_count-n.ensures _ c.is_entry_long.ensures c.if-not-is_entry_long.true

pub returns-in_err-name_fault : goal.returns-in_err-name_fault
unfolding state_of
returns-in_err-name_fault c =
    let p = err_from_is_err_and c.from_residual.result c.from_residual.ensures.1 in
    rw (p.1, p.2) (entry_named _ _ _ c.word_count-n.ensures _ c.is_entry_long.ensures c.if-not-is_entry_long.false _ c.in_err-name_fault.ensures (λ z. absurd (omega (arith, number_positive c.in_err-name_fault.field-0.0, z))))

pub returns-then-not-are_numbers : goal.returns-then-not-are_numbers
unfolding state_of
returns-then-not-are_numbers c =
    entry_35 _ _ _ c.word_count-n.ensures _ c.is_entry_long.ensures c.if-not-is_entry_long.false _ c.in_ok-name_fault.ensures refl _ c.names_in.ensures _ c.are_numbers.ensures c.if-not-are_numbers.true

pub is_among-requires : goal.is_among-requires
is_among-requires c = (c.requires.rooms, first_named _ _ _ _ c.word.ensures c.in_ok-name_fault.ensures refl)

pub returns-then-is_among : goal.returns-then-is_among
unfolding state_of names_of
returns-then-is_among c =
    let a = c.args in
    let few : length (held a.s.now a.starts.now a.st.rooms) ≤ 64 = omega (arith, c.requires.rooms.few, held_long a.s.now a.starts.now a.st.rooms c.requires.rooms.inside) in
    entry_room _ _ _ c.word_count-n.ensures _ c.is_entry_long.ensures c.if-not-is_entry_long.false _ c.in_ok-name_fault.ensures refl _ c.names_in.ensures _ c.are_numbers.ensures _ _ true c.if-not-are_numbers.false c.if-st-eq2.true c.word.ensures few c.is_among.ensures c.if-is_among.true

pub returns : goal.returns
unfolding state_of names_of
returns c =
    let a = c.args in
    let few : length (held a.s.now a.starts.now a.st.rooms) ≤ 64 = omega (arith, c.requires.rooms.few, held_long a.s.now a.starts.now a.st.rooms c.requires.rooms.inside) in
    elim c.else-st-eq2.branch [
      | else-st-eq2-via-then-st-eq2+else-is_among w ↦ entry_room _ _ _ c.word_count-n.ensures _ c.is_entry_long.ensures c.if-not-is_entry_long.false _ c.in_ok-name_fault.ensures refl _ c.names_in.ensures _ c.are_numbers.ensures _ _ false c.if-not-are_numbers.false w.if-st-eq2.true w.word.ensures few w.is_among.ensures w.if-is_among.false
      | else-st-eq2-via-else-st-eq2 w ↦ entry_other _ _ _ c.word_count-n.ensures _ c.is_entry_long.ensures c.if-not-is_entry_long.false _ c.in_ok-name_fault.ensures refl _ c.names_in.ensures _ c.are_numbers.ensures c.if-not-are_numbers.false w.if-st-eq2.false
    ]
