-- What 22 and 23 ask of the bytes to be written, and a transition's bits. Definitions only.
use Rattle.std.specs.Prelude.{ℕ, ◌-◌, Bool, not, cond, ◌&&◌, ◌||◌, ℤ, pos, negsuc, leb, eqb}
use Rattle.tables.specs.Parts.{none32}
use Rattle.mesh.specs.Faces.{walkable}

-- 22 does not refuse: neither old nor new material is over 22, and both are walkable or neither is
unfoldable pub permitted : ℕ → ℕ → Bool
permitted old new = leb old 22 && leb new 22 && cond (walkable old) (walkable new) (not (walkable new))

-- 23 does not refuse: a transition from -1 to 63
unfoldable pub may_link : ℤ → Bool
may_link (pos n) = leb n 63
may_link (negsuc n) = eqb n 0

-- the same of a transition's 32 bits
unfoldable pub linkable : ℕ → Bool
linkable word = leb word 63 || eqb word none32

-- the 32 bits of a transition: those of -1 are the word for none, and the others count down from there
unfoldable pub transition_word : ℤ → ℕ
transition_word (pos n) = n
transition_word (negsuc n) = none32 - n
