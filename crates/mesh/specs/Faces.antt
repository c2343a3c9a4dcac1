-- Rules 8, 9 and 10: the faces' corners and materials, over the parts. Definitions only.
use Rattle.std.specs.Prelude.{ℕ, ◌+◌, ◌%◌, Bool, not, cond, ◌||◌, List, [], ◌∷◌, ltb, leb, eqb}
use Rattle.verdict.specs.Lowest.{any_under}
use Rattle.verdict.specs.Lists.{times}
use Rattle.verdict.specs.Verdict.{rule_of_each}
use Rattle.verdict.specs.declared.Answer.{Answer}
use Rattle.tables.specs.Parts.{Parts, corner, material}

-- corner e of a face is too large, so that it names no vertex, or it is the next corner too
unfoldable pub wrong_corner : Parts → ℕ → ℕ → Bool
wrong_corner p f e = leb p.vertices (corner p f e) || eqb (corner p f e) (corner p f ((e + 1) % 3))

-- a corner number too large or used twice in its face
unfoldable pub wrong_corners : Parts → ℕ → Bool
wrong_corners p f = any_under 3 (wrong_corner p f)

-- the walkable materials
abbrev pub walkables : List ℕ
walkables = 1 ∷ 3 ∷ 4 ∷ 5 ∷ 6 ∷ 9 ∷ 10 ∷ 11 ∷ 12 ∷ 13 ∷ 14 ∷ 16 ∷ 18 ∷ 20 ∷ 21 ∷ 22 ∷ []

unfoldable pub walkable : ℕ → Bool
walkable m = ltb 0 (times m walkables)

-- a material over 22
unfoldable pub strange : Parts → ℕ → Bool
strange p f = ltb 22 (material p f)

-- "face number under A" and "walkable" differ
unfoldable pub misplaced : Parts → ℕ → Bool
misplaced p f = cond (ltb f p.adjacency) (not (walkable (material p f))) (walkable (material p f))

-- 8: a corner number too large or used twice in its face; lowest face
unfoldable pub rule8 : Parts → Answer
rule8 p = rule_of_each 8 p.faces (wrong_corners p) (λ f. f)

-- 9: material over 22; lowest face
unfoldable pub rule9 : Parts → Answer
rule9 p = rule_of_each 9 p.faces (strange p) (λ f. f)

-- 10: "face number under A" and "walkable" differ; lowest face
unfoldable pub rule10 : Parts → Answer
rule10 p = rule_of_each 10 p.faces (misplaced p) (λ f. f)
