-- Runs of 32-bit words: read from bytes, and spelled as bytes. Definitions only.
use Rattle.std.specs.Prelude.{ℕ, zero, suc, ◌+◌, ◌<◌, List, [], ◌∷◌, ◌++◌, get_or}
use Rattle.wire.specs.Bytes.{u32_at, u32_bytes}

-- n words from a place on
unfoldable pub words_at : List ℕ → ℕ → ℕ → List ℕ
words_at b at zero = []
words_at b at (suc n) = u32_at b at ∷ words_at b (at + 4) n

-- the bytes of words
unfoldable pub bytes_of : List ℕ → List ℕ
bytes_of [] = []
bytes_of (w ∷ ws) = u32_bytes w ++ bytes_of ws

-- lists one after another
unfoldable pub joined : List (List ℕ) → List ℕ
joined [] = []
joined (l ∷ ls) = l ++ joined ls

-- every element is a 32-bit word
pub record Words (ws : List ℕ) : Type 0 where
  pub word : (i : ℕ) → get_or ws i 0 < 4294967296
