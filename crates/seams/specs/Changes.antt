-- The list that mending a floor gives beside its form (M-109): corners changed, and transitions lost. Definitions only.
use Rattle.std.specs.Prelude.{ℕ, ◌*◌, Bool, not, cond, List, [], ◌∷◌, ◌++◌, get_or, eqb}
use Rattle.wire.specs.Bytes.{u16_bytes, u32_bytes}
use Rattle.tables.specs.Parts.{Parts, table_of}
use Rattle.pairs.specs.Halves.{halves}
use Rattle.corners.specs.Corners.{lowest_same, recornered}
use Rattle.kept.specs.Kept.{lost}
use Rattle.seams.specs.Mended.{each}

-- corner j = 3 · face + corner as it was
abbrev pub old_corner : Parts → ℕ → ℕ
old_corner p j = get_or (table_of p 1) j 0

-- and as it becomes: the lowest vertex with equal coordinates
abbrev pub new_corner : Parts → ℕ → ℕ
new_corner p j = lowest_same p (old_corner p j)

unfoldable pub changed : Parts → ℕ → Bool
changed p j = not (eqb (new_corner p j) (old_corner p j))

-- a corner changed: 1, the length 12, its place, old, new
unfoldable pub corner_record : Parts → ℕ → List ℕ
corner_record p j = (1 ∷ u16_bytes 12) ++ (u32_bytes j ++ (u32_bytes (old_corner p j) ++ u32_bytes (new_corner p j)))

-- a transition lost: 2, the length 4, the half-edge
unfoldable pub lost_record : ℕ → List ℕ
lost_record h = (2 ∷ u16_bytes 4) ++ u32_bytes h

-- first the corners by place, then by half-edge those that had a transition and keep none
unfoldable pub corner_changes : Parts → List ℕ
corner_changes p = each (3 * p.faces) (λ j. cond (changed p j) (corner_record p j) [])

unfoldable pub lost_changes : Parts → List ℕ
lost_changes p = each (halves p) (λ h. cond (lost p (recornered p) h) (lost_record h) [])

unfoldable pub changes : Parts → List ℕ
changes p = corner_changes p ++ lost_changes p
