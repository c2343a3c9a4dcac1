-- One visitor's name and nobody else's screen: the theorem. Assumes nothing.
use mathlib.Core.Logic.{◌≢◌}
use mathlib.Core.List.{List}
use Prim.Native.Nat.{ℕ}
use lib.ListN.{length}
use Rattle.layoutform.specs.Form.{parts_of, form_text}
use Rattle.layout.specs.Layout.{layout_verdict}
use Rattle.layoutform.specs.Rewrite.{rewrite_verdict}
use Rattle.sight.specs.Sight.{sight_verdict}
use Rattle.sightform.specs.Rewrite.{rewritten_sight, sight_rewrite_verdict}
use Rattle.screens.specs.Alike.{AlikeLayouts, AlikeSights}
use Rattle.screens.specs.Shown.{SameBut}
use Rattle.screens.specs.Calls.{layout_into, sight_into}
use Rattle.screens.specs.Screens.{form_name, SameScreens, NobodyElse}
use Rattle.screens.proofs.Rows.{row_alike}
use Rattle.screens.proofs.Links.{link_alike}
use Rattle.screens.proofs.Captions.{caption_alike, caption_number_alike, caption_house_alike}
use Rattle.screens.proofs.LayoutForms.{form_texts_alike}
use Rattle.screens.proofs.SightForms.{sight_forms_alike}
use Rattle.screens.proofs.Outputs.{handed_form, not_40}

module _ (j : ℕ) (v w : List ℕ) (a : AlikeLayouts j v w) where
  layout_forms : (out other : List ℕ) → (rewrite_verdict v (length out)).number ≢ 40 → (rewrite_verdict w (length other)).number ≢ 40 → SameBut (form_name v j) (form_name w j) (layout_into v out) (layout_into w other)
  unfolding rewrite_verdict
  layout_forms out other y z =
      rw (handed_form (rewrite_verdict v (length out)) (form_text (parts_of v)) out (not_40 (layout_verdict v) _ _ a.reads y), handed_form (rewrite_verdict w (length other)) (form_text (parts_of w)) other (not_40 (layout_verdict w) _ _ a.other_reads z))
      (form_texts_alike j v w a)

module _ (j : ℕ) (v w s t : List ℕ) (a : AlikeSights j v w s t) where
  sight_forms : (out other : List ℕ) → (sight_rewrite_verdict v s (length out)).number ≢ 40 → (sight_rewrite_verdict w t (length other)).number ≢ 40 → SameBut (form_name v j) (form_name w j) (sight_into v s out) (sight_into w t other)
  unfolding sight_rewrite_verdict
  sight_forms out other y z =
      rw (handed_form (sight_rewrite_verdict v s (length out)) (rewritten_sight v s) out (not_40 (sight_verdict v s) _ _ a.reads y), handed_form (sight_rewrite_verdict w t (length other)) (rewritten_sight w t) other (not_40 (sight_verdict w t) _ _ a.other_reads z))
      (sight_forms_alike j v w s t a)

  same : SameScreens j v w s t
  same = record {
    row = row_alike j v w s t a;
    link = λ floor work. link_alike j v w a.layouts floor (length work);
    caption = caption_alike j v w a.layouts;
    number = caption_number_alike j v w a.layouts;
    house = caption_house_alike j v w a.layouts;
    layout_form = layout_forms j v w a.layouts;
    sight_form = sight_forms;
  }

-- M-110
pub same_screens : NobodyElse
same_screens = same
