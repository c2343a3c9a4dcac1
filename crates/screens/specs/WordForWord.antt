-- Likeness of two layouts said of the words of their lines, with no parts in it. It asks for more than `AlikeLayouts`, and proofs/WordForWord
-- shows that it gives it. Definitions only.
use Rattle.std.specs.Prelude.{ℕ, ◌<◌, ◌≡◌, ◌≢◌, ◌⊎◌, List, [], length, get_or}
use Rattle.text.specs.Reading.{Word, Line}
use Rattle.layout.specs.Layout.{layout_verdict, layout_of}
use Rattle.rooms.specs.Rooms.{room_names}
use Rattle.screens.specs.Alike.{OneRoom, behind, Alongside}

-- two hooks: the same words, or the name of one room and the same words behind it
abbrev pub AlikeHook : List Word → List Word → Line → Line → Type 0
AlikeHook ns ms l m = (l ≡ m) ⊎ (OneRoom ns ms l m × (behind l ≡ behind m))

-- two accepted layouts of as many rooms: every word is the same but the first of room j's line and, in hooks, the name of the hook's room, by
-- which its own layout has it
pub record WordForWord (j : ℕ) (v w : List ℕ) : Type 0 where
  pub reads : (layout_verdict v).number ≡ 0
  pub other_reads : (layout_verdict w).number ≡ 0
  pub rooms : length (layout_of v).rooms ≡ length (layout_of w).rooms
  pub others : (i : ℕ) → i < length (layout_of v).rooms → i ≢ j → get_or (layout_of v).rooms i [] ≡ get_or (layout_of w).rooms i []
  pub own : behind (get_or (layout_of v).rooms j []) ≡ behind (get_or (layout_of w).rooms j [])
  pub tracks : (layout_of v).tracks ≡ (layout_of w).tracks
  pub obstacles : (layout_of v).obstacles ≡ (layout_of w).obstacles
  pub hooks : Alongside (AlikeHook (room_names v) (room_names w)) (layout_of v).hooks (layout_of w).hooks
