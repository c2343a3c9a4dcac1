-- What the printers are lent: entries of a layout that was read, and a name or none. Definitions only.
use Rattle.std.specs.Prelude.{◌≡◌, ◌⊎◌, true, List, ℕ, ◌≤◌, ◌<◌, length, get_or}
use Rattle.names.specs.Name.{is_name}
use Rattle.text.specs.Reading.{Word, Line}
use Rattle.layout.specs.Plain.{IsEntry}
use Rattle.layout.specs.Starts.{entry_at}

-- an entry of section k, behind some rooms
pub record AnEntry (k : ℕ) (l : Line) : Type 0 where
  pub rooms : List Line
  pub is : IsEntry k rooms l

-- n entries of section k whose starts are kept: at most 64, and none past the starts
pub record KeptIn (k : ℕ) (s starts : List ℕ) (n : ℕ) : Type 0 where
  pub few : n ≤ 64
  pub inside : n ≤ length starts
  pub entry : (j : ℕ) → j < n → AnEntry k (entry_at s (get_or starts j 0))

-- no word, or a name
abbrev pub NameOrNone : Word → Type 0
NameOrNone w = (length w ≡ 0) ⊎ (is_name w ≡ true)
