-- The other half of the visitor's question: what a typed name can do. It can be shown, as 16 letters at most, and it can make no line.
-- Definitions only.
use Rattle.std.specs.Prelude.{ℕ, ◌<◌, ◌≤◌, ◌≡◌, ◌≢◌, ◌⊎◌, true, false, List, length, get_or}
use Rattle.verdict.specs.Verdict.{refused}
use Rattle.verdict.specs.Output.{form_memory}
use Rattle.letters.specs.Class.{name_byte, is_end, is_return}
use Rattle.letters.specs.Case.{lowered}
use Rattle.text.specs.Reading.{Word}
use Rattle.layout.specs.Layout.{layout_verdict}
use Rattle.rooms.specs.Rooms.{room_names}
use Rattle.layoutform.specs.Form.{parts_of, form_text}
use Rattle.layoutform.specs.Rewrite.{renamed_form, rewrite_verdict, rename_verdict}
use Rattle.sight.specs.Sight.{sight_verdict}
use Rattle.sightform.specs.Rewrite.{rewritten_sight, renamed_sight, sight_rewrite_verdict, sight_rename_verdict}
use Rattle.screens.specs.Shown.{SameBut}
use Rattle.screens.specs.Calls.{shown_caption, layout_into, sight_into, renamed_layout_into, renamed_sight_into}
use Rattle.screens.specs.Screens.{form_name, SameScreens}

-- what is shown as a caption, whatever the two texts: at most 16 bytes, each a letter, a digit or an underscore, so none ends a line
pub record CleanCaption (visitor house : List ℕ) (i : ℕ) : Type 0 where
  pub short : length (shown_caption visitor house i) ≤ 16
  pub clean : (k : ℕ) → k < length (shown_caption visitor house i) → name_byte (get_or (shown_caption visitor house i) k 0) ≡ true
  pub no_end : (k : ℕ) → k < length (shown_caption visitor house i) → is_end (get_or (shown_caption visitor house i) k 0) ≡ false

-- a layout v and visibility s rewritten with the name w for room i have as many lines as without it, and differ from those in no line but the
-- ones that hold the name; `out` and `other` are any outputs
pub record NoNewLine (v s : List ℕ) (i : ℕ) (w : Word) : Type 0 where
  pub layout : (out other : List ℕ) → (rewrite_verdict v (length out)).number ≡ 0 → (rename_verdict v i w (length other)).number ≡ 0
      → SameBut (form_name v i) (lowered w) (layout_into v out) (renamed_layout_into v i w other)
  pub sight : (out other : List ℕ) → (sight_rewrite_verdict v s (length out)).number ≡ 0 → (sight_rename_verdict v s i w (length other)).number ≡ 0
      → SameBut (form_name v i) (lowered w) (sight_into v s out) (renamed_sight_into v s i w other)

-- and the four rewritten texts are alike but for the name: the call that renames changes nobody else's screen
abbrev pub RenamedScreens : List ℕ → List ℕ → ℕ → Word → Type 0
RenamedScreens v s i w = (room other : ℕ) → (sight_rewrite_verdict v s room).number ≡ 0 → (sight_rename_verdict v s i w other).number ≡ 0
    → SameScreens i (form_text (parts_of v)) (renamed_form v i w) (rewritten_sight v s) (renamed_sight v s i w)

-- the room's own caption is the name in lower case, whatever the house text
abbrev pub OwnCaption : List ℕ → ℕ → Word → Type 0
OwnCaption v i w = (room : ℕ) (house : List ℕ) → (rename_verdict v i w room).number ≡ 0 → shown_caption (renamed_form v i w) house i ≡ lowered w

-- ---- a name with a line break

-- a byte that ends a line, or a CR, stands in the name
pub record HasBreak (w : Word) : Type 0 where
  pub at : ℕ
  pub inside : at < length w
  pub here : (is_end (get_or w at 0) ≡ true) ⊎ (is_return (get_or w at 0) ≡ true)

-- for a room of an accepted text it is refused, 34 at 0; whatever the texts and the room, it is refused, and nothing is written
pub record BreakRefused (v s : List ℕ) (i : ℕ) (w : Word) (out : List ℕ) : Type 0 where
  pub layout : (layout_verdict v).number ≡ 0 → i < length (room_names v) → rename_verdict v i w (length out) ≡ refused 34 0
  pub sight : (sight_verdict v s).number ≡ 0 → i < length (room_names v) → sight_rename_verdict v s i w (length out) ≡ refused 34 0
  pub no_layout : (rename_verdict v i w (length out)).number ≢ 0
  pub no_sight : (sight_rename_verdict v s i w (length out)).number ≢ 0
  pub layout_kept : form_memory (rename_verdict v i w (length out)) (renamed_form v i w) out ≡ out
  pub sight_kept : form_memory (sight_rename_verdict v s i w (length out)) (renamed_sight v s i w) out ≡ out
