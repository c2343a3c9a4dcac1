-- M-110, ONE VISITOR'S NAME AND NOBODY ELSE'S SCREEN: what the calls answer over two layouts and two texts of visibility that are alike but
-- for the name of room j. Each side of an equation is what a call's contract promises of its answer. Definitions only.
use Rattle.std.specs.Prelude.{ℕ, ◌≡◌, ◌≢◌, List, length}
use Rattle.letters.specs.Case.{lowered}
use Rattle.text.specs.Reading.{Word}
use Rattle.layoutform.specs.Rewrite.{rewrite_verdict}
use Rattle.caption.specs.Caption.{room_name, caption_at}
use Rattle.sight.specs.Sight.{row_answer}
use Rattle.sightform.specs.Rewrite.{sight_rewrite_verdict}
use Rattle.links.specs.Links.{link_verdict}
use Rattle.screens.specs.Alike.{AlikeSights}
use Rattle.screens.specs.Shown.{SameBut}
use Rattle.screens.specs.Calls.{shown_caption, layout_into, sight_into}

-- room j's name as a form holds it
abbrev pub form_name : List ℕ → ℕ → Word
form_name v j = lowered (room_name v j)

-- with the layout v and the visibility s, and with w and t
pub record SameScreens (j : ℕ) (v w s t : List ℕ) : Type 0 where
  -- wp_sight_row: every row and every seen count, for numbers that no room has too
  pub row : (i : ℕ) → row_answer v s i ≡ row_answer w t i
  -- wp_link_check: any floor, any work memory; what is left in that depends on no layout
  pub link : (floor work : List ℕ) → link_verdict floor (length work) v ≡ link_verdict floor (length work) w
  -- wp_caption: the bytes shown for every number but j, with any house text; with 41 none
  pub caption : (house : List ℕ) (i : ℕ) → i ≢ j → shown_caption v house i ≡ shown_caption w house i
  -- of every caption, that of room j too, the number and which text it is a part of
  pub number : (house : List ℕ) (i : ℕ) → (caption_at v house i).number ≡ (caption_at w house i).number
  pub house : (house : List ℕ) (i : ℕ) → (caption_at v house i).house ≡ (caption_at w house i).house
  -- wp_layout_rewrite, wp_sight_rewrite: the two forms, where neither is refused with 40, have as many lines and differ in none but those
  -- that hold room j's name
  pub layout_form : (out other : List ℕ) → (rewrite_verdict v (length out)).number ≢ 40 → (rewrite_verdict w (length other)).number ≢ 40
      → SameBut (form_name v j) (form_name w j) (layout_into v out) (layout_into w other)
  pub sight_form : (out other : List ℕ) → (sight_rewrite_verdict v s (length out)).number ≢ 40 → (sight_rewrite_verdict w t (length other)).number ≢ 40
      → SameBut (form_name v j) (form_name w j) (sight_into v s out) (sight_into w t other)

-- the request
abbrev pub NobodyElse : Type 0
NobodyElse = (j : ℕ) (v w s t : List ℕ) → AlikeSights j v w s t → SameScreens j v w s t
