-- M-110, LIKENESS: two layouts that are alike but for the name of room j, there and in its hooks, and two texts of visibility that are alike
-- but for that name in its places. As little is asked as can be: gaps, blank lines, needless zeros and, but for the rooms' names in the
-- layouts, letter case are free. Where j is past the last room, no name differs. Definitions only.
use Rattle.std.specs.Prelude.{ℕ, ◌≡◌, ◌≢◌, ◌⊎◌, List, [], ◌∷◌, map, drop}
use Rattle.text.specs.Reading.{Word, Line, nth, spoken}
use Rattle.text.specs.Written.{word_lines}
use Rattle.number.specs.Count.{value}
use Rattle.layout.specs.Layout.{layout_verdict}
use Rattle.rooms.specs.Rooms.{room_names}
use Rattle.layoutform.specs.Form.{parts_of}
use Rattle.layoutform.specs.Rewrite.{renamed}
use Rattle.caption.specs.Caption.{room_name}
use Rattle.sight.specs.Plain.{NamesRoom}
use Rattle.sight.specs.Sight.{sight_verdict}

-- two accepted layouts: every other room has the same name, to the letter, and the parts of the second are the parts of the first with the
-- second's name for room j, there and in its hooks
pub record AlikeLayouts (j : ℕ) (v w : List ℕ) : Type 0 where
  pub reads : (layout_verdict v).number ≡ 0
  pub other_reads : (layout_verdict w).number ≡ 0
  pub others : (i : ℕ) → i ≢ j → room_name v i ≡ room_name w i
  pub parts : parts_of w ≡ renamed (parts_of v) j (room_name w j)

-- ---- lines that begin with a room's name

-- each line begins with the name of one room, as its own layout has it, letter case ignored. If it is room j, the names may be any two; the
-- names of another room differ in letter case alone
pub record OneRoom (ns ms : List Word) (l m : Line) : Type 0 where
  pub room : ℕ
  pub here : NamesRoom ns (nth l 0) room
  pub there : NamesRoom ms (nth m 0) room

-- the words of a line behind its first
abbrev pub behind : Line → Line
behind l = drop 1 l

-- the counts that stand behind the name in a line of visibility
abbrev pub counts : Line → List ℕ
counts l = map (value 0) (behind l)

-- two lines of visibility: the same words, or the name of one room and the same counts
abbrev pub AlikeLine : List Word → List Word → Line → Line → Type 0
AlikeLine ns ms l m = (l ≡ m) ⊎ (OneRoom ns ms l m × (counts l ≡ counts m))

-- two lists of as many members, member by member
abbrev pub Alongside : {A : Type 0} → (A → A → Type 0) → List A → List A → Type 0
Alongside R [] [] = Unit
Alongside R [] (y ∷ ys) = ⊥
Alongside R (x ∷ xs) [] = ⊥
Alongside R (x ∷ xs) (y ∷ ys) = R x y × Alongside R xs ys

-- ---- visibility

-- two texts of visibility, each accepted with its layout, that are alike line by line; blank lines are skipped
pub record AlikeSights (j : ℕ) (v w s t : List ℕ) : Type 0 where
  pub layouts : AlikeLayouts j v w
  pub reads : (sight_verdict v s).number ≡ 0
  pub other_reads : (sight_verdict w t).number ≡ 0
  pub lines : Alongside (AlikeLine (room_names v) (room_names w)) (spoken (word_lines s)) (spoken (word_lines t))
