-- A name can be written as a word. Assumes nothing.
use mathlib.Core.Path.{◌≡◌}
use mathlib.Core.Bool.{true}
use mathlib.Core.List.{List, [], ◌∷◌}
use Prim.Native.Nat.{ℕ}
use Rattle.letters.specs.Class.{name_byte, word_byte}
use Rattle.text.specs.Scan.{words, lines}
use Rattle.names.specs.Name.{is_name}
use Rattle.letters.proofs.ClassLaws.{name_word_byte}
use Rattle.text.proofs.RunLaws.{all_from}
use Rattle.names.proofs.NameLaws.{name_long, name_all}
use Rattle.text.proofs.WrittenLaws.{Plain, plain_word}

pub name_plain : (w : List ℕ) → is_name w ≡ true → Plain w
name_plain w e = record { some = (name_long w e).0; clean = all_from word_byte name_byte name_word_byte w (name_all w e) }

-- a name is one word of one line
pub name_word : (w : List ℕ) → is_name w ≡ true → (words w ≡ w ∷ []) × (lines w ≡ w ∷ [])
name_word w e = plain_word w (name_plain w e)
