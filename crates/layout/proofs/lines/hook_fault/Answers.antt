-- 39, and then what is wrong with the door; the hooks' starts are those from 192 on.
use Rattle.std.proofs.Common.{arith, ◌-◌, ◌≡◌, ◌≤◌, length, take, drop}
use Rattle.layout.specs.Grammar.{names_of}
use Rattle.layout.specs.Starts.{held, hook_starts, state_of}
use Rattle.layout.proofs.FaultLaws.{hook_39, hook_door}
use Rattle.layout.proofs.HeldLaws.{held_long, held_rest, kept_rest}
use Rattle.layout.proofs.lines.hook_fault.Goals as goal

pub is_among-requires : goal.is_among-requires
is_among-requires c = (c.requires.0.rooms, rw c.word.ensures c.requires.1)

pub door_fault-requires : goal.door_fault-requires
door_fault-requires c =
    let a = c.args in
    kept_rest 1 a.s.now a.starts.now 192 (length a.starts.now - 192) a.st.hooks (omega arith) c.requires.0.hooks

pub returns-then-not-is_among : goal.returns-then-not-is_among
unfolding state_of names_of
returns-then-not-is_among c =
    let a = c.args in
    let few : length (held a.s.now a.starts.now a.st.rooms) ≤ 64 = omega (arith, c.requires.0.rooms.few, held_long a.s.now a.starts.now a.st.rooms c.requires.0.rooms.inside) in
    hook_39 _ _ _ c.word.ensures _ few c.is_among.ensures c.if-not-is_among.true

pub returns : goal.returns
unfolding state_of names_of
returns c =
    let a = c.args in
    let few : length (held a.s.now a.starts.now a.st.rooms) ≤ 64 = omega (arith, c.requires.0.rooms.few, held_long a.s.now a.starts.now a.st.rooms c.requires.0.rooms.inside) in
    let hooks : held a.s.now (take (length a.starts.now - 192) (drop 192 a.starts.now)) a.st.hooks ≡ held a.s.now (hook_starts a.starts.now) a.st.hooks = held_rest a.s.now a.starts.now 192 (length a.starts.now - 192) a.st.hooks (omega arith) in
    hook_door _ _ _ c.word.ensures _ few c.is_among.ensures c.if-not-is_among.false _ _ _ c.word-2.ensures hooks c.door_fault.ensures
