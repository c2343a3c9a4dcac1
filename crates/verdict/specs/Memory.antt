-- The work memory that a caller lends: how much is asked for, what is left in it, and marks in it. Definitions only.
use Rattle.std.specs.Prelude.{ℕ, ◌≡◌, Bool, true, false, cond, not, List, [], ◌∷◌, ◌++◌, get_or, set, replicate, drop, eqb}

-- 65,536 bytes: the work memory's size, in one place
abbrev pub work_size : ℕ
work_size = 65536

-- a memory with its first n bytes zero. The number is a parameter, so that no proof computes so many zeros
unfoldable pub cleared_to : ℕ → List ℕ → List ℕ
cleared_to n w = replicate n 0 ++ drop n w

-- what lies past the work memory; and that it is the same in two: what a rule leaves that may use the memory itself as it likes
unfoldable pub past : List ℕ → List ℕ
past w = drop work_size w

abbrev pub SamePast : List ℕ → List ℕ → Type 0
SamePast v w = past v ≡ past w

-- the byte of number k is marked
unfoldable pub is_marked : List ℕ → ℕ → Bool
is_marked w k = not (eqb (get_or w k 0) 0)

-- marking the numbers of a list one by one: none is marked already when its turn comes
unfoldable pub fresh : List ℕ → List ℕ → Bool
fresh [] w = true
fresh (k ∷ ks) w = let rest = fresh ks (set w k 1) in cond (is_marked w k) false rest

-- the memory when the list ends, or where a number was marked already
unfoldable pub marked : List ℕ → List ℕ → List ℕ
marked [] w = w
marked (k ∷ ks) w = let rest = marked ks (set w k 1) in cond (is_marked w k) w rest
