-- 21, 34 and 37 by the names that the layout keeps; a refused layout keeps none.
use Rattle.std.proofs.Common.{arith, sym, ap, ◌∙◌}
use Rattle.std.specs.declared.result.Result.TheVariants.{Err}
use Rattle.layout.specs.Starts.{no_layout, told, told_layout}
use Rattle.rooms.proofs.RoomLaws.{rooms_kept, name_21, name_34, name_37}
use Rattle.rooms.proofs.name_verdict.Goals as goal

pub returns-in_default : goal.returns-in_default
unfolding no_layout
returns-in_default c = name_21 _ (told (Err c.in_default.field-0)) (sym (ap told c.in_default.is) ∙ c.requires) _ _ (omega arith)

pub returns-then-n-i : goal.returns-then-n-i
returns-then-n-i c = name_21 _ (told_layout c.in-Ok.r) (sym (ap told c.in-Ok.is) ∙ c.requires) _ _ c.if-n-i.true

pub returns-then-not-is_name : goal.returns-then-not-is_name
returns-then-not-is_name c =
    name_34 _ (told_layout c.in-Ok.r) (sym (ap told c.in-Ok.is) ∙ c.requires) _ _ c.if-n-i.false (sym c.is_name.ensures ∙ c.if-not-is_name.true)

pub is_known-requires : goal.is_known-requires
is_known-requires c = (rooms_kept _ (told_layout c.in-Ok.r) (sym (ap told c.in-Ok.is) ∙ c.requires), sym c.is_name.ensures ∙ c.if-not-is_name.false)

pub returns : goal.returns
returns c =
    c.refuse_if.ensures
    ∙ name_37 _ (told_layout c.in-Ok.r) (sym (ap told c.in-Ok.is) ∙ c.requires) _ _ c.if-n-i.false _ (sym c.is_name.ensures ∙ c.if-not-is_name.false) c.is_known.ensures
