-- 34, and of a hook what is wrong with its room and its door.
use Rattle.std.proofs.Common.{sym, ◌∙◌}
use Rattle.layout.specs.Starts.{state_of}
use Rattle.layout.proofs.FaultLaws.{name_34, name_hook, name_right}
use Rattle.layout.proofs.lines.name_fault.Goals as goal

pub hook_fault-requires : goal.hook_fault-requires
hook_fault-requires c = (c.requires, rw c.word.ensures at (sym c.is_name.ensures ∙ c.if-not-is_name.false))

pub returns-then-not-is_name : goal.returns-then-not-is_name
returns-then-not-is_name c = name_34 _ _ _ c.word.ensures _ c.is_name.ensures c.if-not-is_name.true

pub returns-then-st-eq5 : goal.returns-then-st-eq5
unfolding state_of
returns-then-st-eq5 c = name_hook _ _ _ c.word.ensures _ c.is_name.ensures c.if-not-is_name.false c.if-st-eq5.true _ c.hook_fault.ensures

pub returns : goal.returns
unfolding state_of
returns c = name_right _ _ _ c.word.ensures _ c.is_name.ensures c.if-not-is_name.false c.if-st-eq5.false
