-- What the code hands on: the names that the printers take from a layout's text and the typed one. Definitions only.
use Rattle.std.specs.Prelude.{ℕ, List, map, set}
use Rattle.letters.specs.Case.{lowered}
use Rattle.text.specs.Reading.{Word}
use Rattle.sight.specs.Code.{kept_names}

-- the names of the first n rooms whose starts are kept, in lower case, with the typed name for room i
unfoldable pub printed_names : List ℕ → List ℕ → ℕ → ℕ → Word → List Word
printed_names layout starts n i name = set (map lowered (kept_names layout starts n)) i (lowered name)
