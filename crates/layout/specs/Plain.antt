-- A layout as the paper tells it, with no reader in it: which lines a text has. Definitions only.
use Rattle.std.specs.Prelude.{◌≡◌, ◌⊎◌, true, false, List, [], ◌∷◌, ◌++◌, ℕ, ◌≤◌, ◌<◌, length, get_or}
use Rattle.names.specs.Name.{is_name, same_name}
use Rattle.text.specs.Reading.{Word, Line, nth, spoken}
use Rattle.number.specs.Count.{value, is_count}
use Rattle.number.specs.Number.{Decimal}
use Rattle.layout.specs.Grammar.{Typed, entry_long, names_in, beginlayout, roomcount, trackcount, obstaclecount, doorhookcount, donelayout}

-- what a hook names: a room of the layout, and a door
pub record IsHook (rooms : List Line) (l : Line) : Type 0 where
  pub at : ℕ
  pub inside : at < length rooms
  pub same : same_name (nth l 0) (nth (get_or rooms at []) 0) ≡ true
  pub door : is_name (nth l 1) ≡ true

-- an entry of section k: name x y z; of a hook room, door, x y z, four numbers, and five more or none
pub record IsEntry (k : ℕ) (rooms : List Line) (l : Line) : Type 0 where
  pub long : entry_long k (length l) ≡ true
  pub name : is_name (nth l 0) ≡ true
  pub number : (i : ℕ) → names_in k ≤ i → i < length l → Decimal (nth l i)
  pub hook : k ≡ 5 → IsHook rooms l

-- a section: its keyword with a count, and so many entries
pub record Section (Is : Line → Type 0) (key : Word) (ls entries : List Line) : Type 0 where
  pub count : Word
  pub spelled : ls ≡ (key ∷ count ∷ []) ∷ entries
  pub right : is_count count ≡ true
  pub told : value 0 count ≡ length entries
  pub entry : (i : ℕ) → i < length entries → Is (get_or entries i [])

-- a section that may be left out
abbrev pub Optional : (Line → Type 0) → Word → List Line → List Line → Type 0
Optional Is key ls entries = ((ls ≡ []) × (entries ≡ [])) ⊎ Section Is key ls entries

-- `beginlayout`, `roomcount`, then optionally `trackcount`, `obstaclecount`, `doorhookcount` in this order, `donelayout`; no
-- two rooms of one name, and no two doors
pub record Spelled (ls : List Line) (t : Typed) : Type 0 where
  pub rooms : List Line
  pub tracks : List Line
  pub obstacles : List Line
  pub hooks : List Line
  pub order : spoken ls ≡ (beginlayout ∷ []) ∷ (rooms ++ (tracks ++ (obstacles ++ (hooks ++ ((donelayout ∷ []) ∷ [])))))
  pub has_rooms : Section (IsEntry 2 t.rooms) roomcount rooms t.rooms
  pub has_tracks : Optional (IsEntry 3 t.rooms) trackcount tracks t.tracks
  pub has_obstacles : Optional (IsEntry 4 t.rooms) obstaclecount obstacles t.obstacles
  pub has_hooks : Optional (IsEntry 5 t.rooms) doorhookcount hooks t.hooks
  pub apart : (i j : ℕ) → i < j → j < length t.rooms → same_name (nth (get_or t.rooms j []) 0) (nth (get_or t.rooms i []) 0) ≡ false
  pub doors : (i j : ℕ) → i < j → j < length t.hooks → same_name (nth (get_or t.hooks j []) 1) (nth (get_or t.hooks i []) 1) ≡ false
