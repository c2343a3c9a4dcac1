-- What may differ where two pairs of texts are alike but for a name: that room's own caption, the length of a form, and 40. Definitions only.
use Rattle.std.specs.Prelude.{ℕ, ◌≡◌, ◌≢◌, List, length}
use Rattle.layoutform.specs.Form.{parts_of, form_text}
use Rattle.layoutform.specs.Rewrite.{rewrite_verdict}
use Rattle.sightform.specs.Rewrite.{rewritten_sight, sight_rewrite_verdict}
use Rattle.screens.specs.Alike.{AlikeSights}
use Rattle.screens.specs.Calls.{shown_caption}
use Rattle.screens.specs.Screens.{SameScreens}

-- in this pair they do, and all else is the same: an output of so many bytes has room for the one form and not for the other
pub record MayDiffer (j : ℕ) (v w s t : List ℕ) : Type 0 where
  pub alike : AlikeSights j v w s t
  pub same : SameScreens j v w s t
  pub own : (house : List ℕ) → shown_caption v house j ≢ shown_caption w house j
  pub layout_long : length (form_text (parts_of v)) ≢ length (form_text (parts_of w))
  pub sight_long : length (rewritten_sight v s) ≢ length (rewritten_sight w t)
  pub layout_room : ℕ
  pub layout_40 : ((rewrite_verdict v layout_room).number ≡ 0) × ((rewrite_verdict w layout_room).number ≡ 40)
  pub sight_room : ℕ
  pub sight_40 : ((sight_rewrite_verdict v s sight_room).number ≡ 0) × ((sight_rewrite_verdict w t sight_room).number ≡ 40)
