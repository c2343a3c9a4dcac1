-- The visitor's text, then the house text, then neither.
use Rattle.std.proofs.Common.{sym}
use Rattle.caption.proofs.CaptionLaws.{caption_first, caption_second, caption_none}
use Rattle.caption.proofs.caption.Goals as goal

pub returns-in-Some-clause-part : goal.returns-in-Some-clause-part
returns-in-Some-clause-part c = (caption_first _ _ _ _ c.in-Some.ensures.name.0 c.in-Some.ensures.name.1).0

pub returns-in-Some-clause-told : goal.returns-in-Some-clause-told
returns-in-Some-clause-told c = (caption_first _ c.args.house.now _ _ c.in-Some.ensures.name.0 c.in-Some.ensures.name.1).1

pub returns-in-Some-name_in-clause-part : goal.returns-in-Some-name_in-clause-part
returns-in-Some-name_in-clause-part c =
    (caption_second _ _ _ _ (sym c.in_default.ensures.there) c.in-Some-name_in.ensures.name.0 c.in-Some-name_in.ensures.name.1).0

pub returns-in-Some-name_in-clause-told : goal.returns-in-Some-name_in-clause-told
returns-in-Some-name_in-clause-told c =
    (caption_second _ _ _ _ (sym c.in_default.ensures.there) c.in-Some-name_in.ensures.name.0 c.in-Some-name_in.ensures.name.1).1

pub returns-clause-part : goal.returns-clause-part
returns-clause-part c = (caption_none _ _ _ (sym c.in_default.ensures.there) (sym c.in_default-name_in.ensures.there)).0

pub returns-clause-told : goal.returns-clause-told
returns-clause-told c = (caption_none _ _ _ (sym c.in_default.ensures.there) (sym c.in_default-name_in.ensures.there)).1
