-- A layout's parts, and its fixed form. Definitions only.
use Rattle.std.specs.Prelude.{ℕ, ◌+◌, ◌*◌, cond, List, [], ◌∷◌, ◌++◌, map, eqb, length, take, drop}
use Rattle.number.specs.declared.Num.{Num}
use Rattle.letters.specs.Case.{lowered}
use Rattle.number.specs.Number.{number_of, printed, plain}
use Rattle.text.specs.Written.{written}
use Rattle.text.specs.Reading.{Word, Line, nth}
use Rattle.layout.specs.Grammar.{Typed, names_in, beginlayout, roomcount, trackcount, obstaclecount, doorhookcount, donelayout}
use Rattle.layout.specs.Layout.{layout_of}

-- ---- parts: lower-case names and numbers

-- an entry: its name, which is the room's where it is a hook; a hook's door; its numbers
pub record Entry : Type 0 where
  pub name : Word
  pub door : List Word
  pub numbers : List Num

pub record LayoutParts : Type 0 where
  pub rooms : List Entry
  pub tracks : List Entry
  pub obstacles : List Entry
  pub hooks : List Entry

-- the parts of an entry of section k, with whichever name and with its own: the door is the name behind the first, if there is one
unfoldable pub entry_named : ℕ → Word → Line → Entry
entry_named k w l = record { name = lowered w; door = map lowered (drop 1 (take (names_in k) l)); numbers = map number_of (drop (names_in k) l) }

unfoldable pub entry_of : ℕ → Line → Entry
unfolding entry_named
entry_of k l = entry_named k (nth l 0) l

-- the parts of entries
unfoldable pub parts_of_typed : Typed → LayoutParts
parts_of_typed t = record {
  rooms = map (entry_of 2) t.rooms;
  tracks = map (entry_of 3) t.tracks;
  obstacles = map (entry_of 4) t.obstacles;
  hooks = map (entry_of 5) t.hooks;
}

-- the parts of a layout text
unfoldable pub parts_of : List ℕ → LayoutParts
parts_of s = parts_of_typed (layout_of s)

-- ---- the fixed form: lower case, all four sections, no needless leading zeros, as many digits after the point as were typed, LF

unfoldable pub entry_line : Entry → Line
entry_line e = e.name ∷ (e.door ++ map printed e.numbers)

-- a keyword with its count, and the entries
unfoldable pub section : Word → List Entry → List Line
section key es = (key ∷ plain (length es) ∷ []) ∷ map entry_line es

unfoldable pub form : LayoutParts → List Line
form p =
    (beginlayout ∷ []) ∷ (section roomcount p.rooms ++ (section trackcount p.tracks
    ++ (section obstaclecount p.obstacles ++ (section doorhookcount p.hooks ++ ((donelayout ∷ []) ∷ [])))))

-- its bytes
unfoldable pub form_text : LayoutParts → List ℕ
form_text p = written (form p)

-- no line of an entry in section k is longer: 16 bytes of each name, 13 of each number, and one behind each
abbrev pub longest_line : ℕ → ℕ
longest_line k = cond (eqb k 5) (2 * 17 + 12 * 14) (17 + 3 * 14)

-- no form is longer: 64 entries in each section, and 84 bytes of keywords and counts
abbrev pub longest_form : ℕ
longest_form = 64 * (longest_line 2 + longest_line 3 + longest_line 4 + longest_line 5) + 84
