-- Numbers of four bytes and of two, little-endian, at a place of some bytes; and bytes written at a place. Definitions only.
use Rattle.std.specs.Prelude.{ℕ, suc, ◌+◌, ◌*◌, ◌/◌, ◌%◌, ◌<◌, List, [], ◌∷◌, get_or, set}

abbrev pub four_bytes : List ℕ → ℕ → ℕ
four_bytes b at = get_or b at 0 + 256 * (get_or b (at + 1) 0 + 256 * (get_or b (at + 2) 0 + 256 * get_or b (at + 3) 0))

-- the number that the four bytes at a place are; 0 stands for each byte past the end
unfoldable pub u32_at : List ℕ → ℕ → ℕ
u32_at b at = four_bytes b at

-- the four bytes of a number, the lowest first
unfoldable pub u32_bytes : ℕ → List ℕ
u32_bytes w = w % 256 ∷ w / 256 % 256 ∷ w / 256 / 256 % 256 ∷ w / 256 / 256 / 256 % 256 ∷ []

-- b with the bytes of vs in the places from `at` on. It is as long as b
unfoldable pub put : List ℕ → ℕ → List ℕ → List ℕ
put b at [] = b
put b at (v ∷ vs) = put (set b at v) (suc at) vs

-- b with a number written at a place
abbrev pub put_u32 : List ℕ → ℕ → ℕ → List ℕ
put_u32 b at w = put b at (u32_bytes w)

-- the same of two bytes
unfoldable pub u16_at : List ℕ → ℕ → ℕ
u16_at b at = get_or b at 0 + 256 * get_or b (at + 1) 0

unfoldable pub u16_bytes : ℕ → List ℕ
u16_bytes w = w % 256 ∷ w / 256 % 256 ∷ []

abbrev pub put_u16 : List ℕ → ℕ → ℕ → List ℕ
put_u16 b at w = put b at (u16_bytes w)

-- every element is a byte
pub record Bytes (b : List ℕ) : Type 0 where
  pub byte : (i : ℕ) → get_or b i 0 < 256
