-- Visibility as the paper tells it, with no reader of lines in it: which lines a text has, and which marks they set. Definitions only.
use Rattle.std.specs.Prelude.{◌≡◌, ◌⊎◌, ◌↔◌, true, List, [], ◌∷◌, ◌++◌, map, ℕ, ◌<◌, length, get_or}
use Rattle.names.specs.Name.{is_name, same_name}
use Rattle.text.specs.Reading.{Word, Line, nth, spoken}
use Rattle.number.specs.Count.{value, is_count}
use Rattle.sight.specs.Rows.{sees}

-- ---- numbers in a list

-- k stands in the list
abbrev pub StandsIn : ℕ → List ℕ → Type 0
StandsIn k [] = ⊥
StandsIn k (j ∷ js) = (k ≡ j) ⊎ StandsIn k js

-- each number stands once
abbrev pub Once : List ℕ → Type 0
Once [] = Unit
Once (j ∷ js) = (StandsIn j js → ⊥) × Once js

-- ---- lines

-- a word is the name of room j, letter case ignored
pub record NamesRoom (names : List Word) (w : Word) (j : ℕ) : Type 0 where
  pub name : is_name w ≡ true
  pub inside : j < length names
  pub same : same_name w (get_or names j []) ≡ true

-- lines of one name each, those of the rooms in a list
abbrev pub NameLines : List Word → List ℕ → List Line → Type 0
NameLines names [] [] = Unit
NameLines names (j ∷ js) (l ∷ ls) = ((length l ≡ 1) × NamesRoom names (nth l 0) j) × NameLines names js ls
NameLines names [] (l ∷ ls) = ⊥
NameLines names (j ∷ js) [] = ⊥

-- an observer, and the rooms in its list
pub record Observer : Type 0 where
  pub room : ℕ
  pub list : List ℕ

-- an observer's lines: name and count, then that many lines of one name; a name in one list stands once
pub record Block (names : List Word) (b : Observer) (ls : List Line) : Type 0 where
  pub head : Line
  pub list : List Line
  pub spelled : ls ≡ head ∷ list
  pub two : length head ≡ 2
  pub observer : NamesRoom names (nth head 0) b.room
  pub right : is_count (nth head 1) ≡ true
  pub told : value 0 (nth head 1) ≡ length list
  pub seen : NameLines names b.list list
  pub once : Once b.list

-- the lines of observers, one after the other
pub record Then (P Q : List Line → Type 0) (ls : List Line) : Type 0 where
  pub first : List Line
  pub rest : List Line
  pub cut : ls ≡ first ++ rest
  pub here : P first
  pub behind : Q rest

abbrev pub Blocks : List Word → List Observer → List Line → Type 0
Blocks names [] ls = ls ≡ []
Blocks names (b ∷ bs) ls = Then (Block names b) (Blocks names bs) ls

-- blank lines are skipped, and an observer stands once
pub record Spelled (names : List Word) (bs : List Observer) (ls : List Line) : Type 0 where
  pub blocks : Blocks names bs (spoken ls)
  pub once : Once (map (λ (b : Observer). b.room) bs)

-- ---- marks

-- observer j has k in its list
abbrev pub Sees : List Observer → ℕ → ℕ → Type 0
Sees [] j k = ⊥
Sees (b ∷ bs) j k = ((j ≡ b.room) × StandsIn k b.list) ⊎ Sees bs j k

-- a room's row marks the rooms in its list, and no others
pub record Marked (bs : List Observer) (rows : List ℕ) : Type 0 where
  pub mark : (j k : ℕ) → sees (get_or rows j 0) k ≡ true ↔ Sees bs j k
