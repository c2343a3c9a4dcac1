-- Two texts that differ in no line but those that hold a name. Definitions only.
use Rattle.std.specs.Prelude.{ℕ, ◌<◌, ◌≡◌, ◌≢◌, ◌⊎◌, List, [], length, get_or}
use Rattle.text.specs.Scan.{words, lines}
use Rattle.text.specs.Reading.{Word, Line, nth}

-- one line holds the word a where the other holds the word b, and their other words are the same
pub record ButFor (a b : Word) (l m : Line) : Type 0 where
  pub at : ℕ
  pub inside : at < length l
  pub here : nth l at ≡ a
  pub there : nth m at ≡ b
  pub long : length l ≡ length m
  pub others : (k : ℕ) → k ≢ at → nth l k ≡ nth m k

-- the same bytes, or the same words but for a in the one and b in the other
abbrev pub SameLine : Word → Word → List ℕ → List ℕ → Type 0
SameLine a b l m = (l ≡ m) ⊎ ButFor a b (words l) (words m)

-- two texts of as many lines that differ in no line but those that hold a in the one and b in the other
pub record SameBut (a b : Word) (s t : List ℕ) : Type 0 where
  pub long : length (lines s) ≡ length (lines t)
  pub line : (k : ℕ) → k < length (lines s) → SameLine a b (get_or (lines s) k []) (get_or (lines t) k [])
