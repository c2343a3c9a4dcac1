-- 34, and 37 where a hook before it has the door.
use Rattle.std.proofs.Common.{arith, sym, ◌∙◌, true, false, length, ◌≤◌}
use Rattle.layout.specs.Grammar.{doors_of}
use Rattle.layout.specs.Starts.{held}
use Rattle.layout.proofs.FaultLaws.{door_34, door_known}
use Rattle.layout.proofs.HeldLaws.{held_long}
use Rattle.layout.proofs.lines.door_fault.Goals as goal

pub returns-then-not-is_name : goal.returns-then-not-is_name
returns-then-not-is_name c = door_34 _ _ (sym c.is_name.ensures ∙ c.if-not-is_name.true)

pub returns-then-is_among : goal.returns-then-is_among
unfolding doors_of
returns-then-is_among c =
    let a = c.args in
    let few : length (held a.s.now a.starts.now a.n) ≤ 64 = omega (arith, c.requires.few, held_long a.s.now a.starts.now a.n c.requires.inside) in
    door_known _ _ _ true (sym c.is_name.ensures ∙ c.if-not-is_name.false) few c.is_among.ensures c.if-is_among.true

pub returns : goal.returns
unfolding doors_of
returns c =
    let a = c.args in
    let few : length (held a.s.now a.starts.now a.n) ≤ 64 = omega (arith, c.requires.few, held_long a.s.now a.starts.now a.n c.requires.inside) in
    door_known _ _ _ false (sym c.is_name.ensures ∙ c.if-not-is_name.false) few c.is_among.ensures c.if-is_among.false
