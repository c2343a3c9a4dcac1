-- The papers' checked examples as one table, document 01's as 02 restates them: what is done, and the numbers that it gives by the
-- definitions.
use Rattle.std.specs.Prelude.{ℕ, ◌≡◌, List, [], ◌∷◌, ◌++◌, map, replicate, ℤ, pos}
use Rattle.verdict.specs.Lists.{bit}
use Rattle.verdict.specs.Memory.{work_size}
use Rattle.verdict.specs.declared.Form.{Form}
use Rattle.wire.specs.Words.{bytes_of}
use Rattle.grid.specs.Grid.{may_nudge, nudge_bits}
use Rattle.tables.specs.Header.{magic}
use Rattle.tables.specs.Parts.{parts_of}
use Rattle.pairs.specs.Halves.{pairing}
use Rattle.floor.specs.Reader.{reader_answer}
use Rattle.floor.specs.Rewrite.{rewrite_answer, rewrite_memory}
use Rattle.floor.specs.declared.Floor.{Floor}
use Rattle.query.specs.Points.{point_answer}
use Rattle.laying.specs.Area.{area_floor}
use Rattle.journal.specs.Step.{Outcome, lent}
use Rattle.journal.specs.Wish.{paint, link}
use Rattle.journal.specs.Calls.{Call, edit, undo, put_back, step, run}
use Rattle.query.specs.declared.Point.{Point}

-- what is done: a file of some bytes and then so many zeros is read; a floor is rewritten into so many zeros; half-edges of a file are paired; a floor is asked for the
-- face under a point, x and y in sixty-fourths; over a floor and an empty journal of so many bytes calls are made and then one more; a
-- float is nudged
pub data Deed : Type 0 where
  read : List ℕ → ℕ → Deed
  rewrite : List ℕ → ℕ → Deed
  pair : List ℕ → List ℕ → Deed
  ask : List ℕ → ℤ → ℤ → Deed
  call : List ℕ → ℕ → List Call → Call → Deed
  nudge : ℕ → ℤ → Deed

-- the reader's answer: number, place, faces, walkable, edges, perimeters
abbrev pub told : Floor → List ℕ
told r = r.number ∷ r.place ∷ r.faces ∷ r.walkable ∷ r.edges ∷ r.perimeters ∷ []

-- the rewriter's: number, place, length
abbrev pub formed : Form → List ℕ
formed f = f.number ∷ f.place ∷ f.length ∷ []

-- the query's: number, place, 1 or 0, face, nodes visited
abbrev pub pointed : Point → List ℕ
pointed r = r.number ∷ r.place ∷ r.found ∷ r.face ∷ r.visited ∷ []

-- a call's: number, place, f, and then the journal's bytes
abbrev pub called : Outcome → List ℕ
called o = o.answer.number ∷ o.answer.place ∷ o.answer.f ∷ o.journal

-- what a deed gives: the reader's answer; the rewriter's answer and the output; what the adjacency entries should be; the query's answer; the last call's answer and the
-- journal; 1 or 0 and the new bits
unfoldable pub gives : Deed → List ℕ
gives (read start zeros) = told (reader_answer (start ++ replicate zeros 0) work_size)
gives (rewrite file room) = formed (rewrite_answer file work_size room) ++ rewrite_memory file work_size (replicate room 0)
gives (pair file hs) = map (pairing (parts_of file)) hs
gives (ask file x y) = pointed (point_answer file work_size x y)
gives (call file room cs c) = called (step area_floor c (run area_floor cs (lent file (replicate room 0) 0)))
gives (nudge b n) = bit (may_nudge b n) ∷ nudge_bits b n ∷ []

pub record Case : Type 0 where
  pub deed : Deed
  pub result : List ℕ

abbrev pub case : Deed → List ℕ → Case
case d r = record { deed = d; result = r }

-- a right header's first bytes: the rest is counts, root and offsets, all 0
abbrev pub header : List ℕ
header = magic ++ 1 ∷ []

-- -1 as 32 bits, and the float 1
abbrev pub none : ℕ
none = 4294967295

abbrev pub one : ℕ
one = 1065353216

-- a floor in words: world_coords and the header's fifteen floats, then these
abbrev pub file : List ℕ → List ℕ
file words = magic ++ bytes_of (1 ∷ (replicate 15 0 ++ words))

-- one walkable triangle in fixed form: counts and offsets; three vertices; the face; its material, normal and distance; the node; the
-- adjacency entry; the edges; the perimeter
unfoldable pub triangle : List ℕ
triangle =
    file
    ((3 ∷ 136 ∷ 1 ∷ 172 ∷ 184 ∷ 188 ∷ 200 ∷ 1 ∷ 204 ∷ 0 ∷ 1 ∷ 248 ∷ 3 ∷ 260 ∷ 1 ∷ 284 ∷ []) ++
    ((0 ∷ 0 ∷ 0 ∷ one ∷ 0 ∷ 0 ∷ 0 ∷ one ∷ 0 ∷ []) ++
    ((0 ∷ 1 ∷ 2 ∷ []) ++
    ((4 ∷ 0 ∷ 0 ∷ one ∷ 0 ∷ []) ++
    ((0 ∷ 0 ∷ 0 ∷ one ∷ one ∷ 0 ∷ 0 ∷ 4 ∷ 0 ∷ none ∷ none ∷ []) ++
    ((none ∷ none ∷ none ∷ []) ++ (0 ∷ none ∷ 1 ∷ none ∷ 2 ∷ none ∷ 3 ∷ [])))))))

-- faces (0,1,2), (2,1,3) in fixed form, with four edges in one loop
unfoldable pub square : ℕ → ℕ → ℕ → ℕ → List ℕ
square a b c d =
    file
    ((4 ∷ 136 ∷ 2 ∷ 184 ∷ 208 ∷ 216 ∷ 240 ∷ 3 ∷ 248 ∷ 0 ∷ 2 ∷ 380 ∷ 4 ∷ 404 ∷ 1 ∷ 436 ∷ []) ++
    ((0 ∷ 0 ∷ 0 ∷ one ∷ 0 ∷ 0 ∷ 0 ∷ one ∷ 0 ∷ one ∷ one ∷ 0 ∷ []) ++
    ((0 ∷ 1 ∷ 2 ∷ 2 ∷ 1 ∷ 3 ∷ []) ++
    ((4 ∷ 4 ∷ 0 ∷ 0 ∷ one ∷ 0 ∷ 0 ∷ one ∷ 0 ∷ 0 ∷ []) ++
    ((0 ∷ 0 ∷ 0 ∷ one ∷ one ∷ 0 ∷ none ∷ 4 ∷ 1 ∷ 1 ∷ 2 ∷ []) ++
    ((0 ∷ 0 ∷ 0 ∷ one ∷ one ∷ 0 ∷ 0 ∷ 4 ∷ 0 ∷ none ∷ none ∷ []) ++
    ((0 ∷ 0 ∷ 0 ∷ one ∷ one ∷ 0 ∷ 1 ∷ 4 ∷ 0 ∷ none ∷ none ∷ []) ++
    ((none ∷ 3 ∷ none ∷ 1 ∷ none ∷ none ∷ []) ++ (a ∷ none ∷ b ∷ none ∷ c ∷ none ∷ d ∷ none ∷ 4 ∷ [])))))))))

-- the record of face 0 painted from 4 to 5 by bench 0, and from 5 to 4 by bench 1
abbrev pub painted : List ℕ
painted = 1 ∷ 13 ∷ 0 ∷ 0 ∷ 0 ∷ 0 ∷ 0 ∷ 0 ∷ 4 ∷ 0 ∷ 0 ∷ 0 ∷ 5 ∷ 0 ∷ 0 ∷ 0 ∷ []

abbrev pub repainted : List ℕ
repainted = 1 ∷ 13 ∷ 0 ∷ 1 ∷ 0 ∷ 0 ∷ 0 ∷ 0 ∷ 5 ∷ 0 ∷ 0 ∷ 0 ∷ 4 ∷ 0 ∷ 0 ∷ 0 ∷ []

-- the record of edge 0 linked from nowhere to room 2 by bench 1
abbrev pub linked : List ℕ
linked = 2 ∷ 13 ∷ 0 ∷ 1 ∷ 0 ∷ 0 ∷ 0 ∷ 0 ∷ 255 ∷ 255 ∷ 255 ∷ 255 ∷ 2 ∷ 0 ∷ 0 ∷ 0 ∷ []

-- both benches paint face 0
abbrev pub both_paint : List Call
both_paint = edit 0 (paint 0 5) ∷ edit 1 (paint 0 4) ∷ []

unfoldable pub worked : List Case
worked =
    case (read header 127) (0 ∷ 0 ∷ 0 ∷ 0 ∷ 0 ∷ 0 ∷ []) ∷  -- W1
    case (read header 126) (1 ∷ 0 ∷ 0 ∷ 0 ∷ 0 ∷ 0 ∷ []) ∷  -- W2
    case (read header 1048568) (1 ∷ 0 ∷ 0 ∷ 0 ∷ 0 ∷ 0 ∷ []) ∷  -- W3
    case (read triangle 0) (0 ∷ 0 ∷ 1 ∷ 1 ∷ 3 ∷ 1 ∷ []) ∷  -- W4
    case (rewrite triangle 288) (0 ∷ 0 ∷ 288 ∷ triangle) ∷
    case (pair (square 0 4 5 2) (0 ∷ 1 ∷ 2 ∷ 3 ∷ 4 ∷ 5 ∷ [])) (none ∷ 3 ∷ none ∷ 1 ∷ none ∷ none ∷ []) ∷  -- W5
    case (read (square 0 4 5 2) 0) (0 ∷ 0 ∷ 2 ∷ 2 ∷ 4 ∷ 1 ∷ []) ∷  -- W6
    case (read (square 0 5 4 2) 0) (19 ∷ 0 ∷ 0 ∷ 0 ∷ 0 ∷ 0 ∷ []) ∷  -- W7
    case (ask triangle (pos 32) (pos 32)) (0 ∷ 0 ∷ 1 ∷ 0 ∷ 1 ∷ []) ∷  -- W8
    case (ask triangle (pos 64) (pos 0)) (0 ∷ 0 ∷ 1 ∷ 0 ∷ 1 ∷ []) ∷
    case (ask triangle (pos 33) (pos 32)) (0 ∷ 0 ∷ 0 ∷ 0 ∷ 1 ∷ []) ∷
    case (call triangle 32 [] (edit 0 (paint 0 5))) (0 ∷ 0 ∷ 1 ∷ (painted ++ replicate 16 0)) ∷  -- W9
    case (call triangle 32 [] (edit 0 (paint 0 7))) (22 ∷ 0 ∷ 0 ∷ replicate 32 0) ∷  -- W10
    case (nudge 0x3FC0_0000 (pos 1)) (1 ∷ 0x3FC2_0000 ∷ []) ∷  -- W11
    case (call triangle 31 [] (edit 0 (paint 0 5))) (25 ∷ 0 ∷ 0 ∷ replicate 31 0) ∷  -- W12
    case (call triangle 31 [] (edit 1 (paint 0 5))) (25 ∷ 0 ∷ 0 ∷ replicate 31 0) ∷
    case (call triangle 32 (edit 0 (paint 0 5) ∷ []) (edit 0 (paint 0 4))) (25 ∷ 0 ∷ 1 ∷ (painted ++ replicate 16 0)) ∷
    case (call triangle 32 (edit 0 (paint 0 5) ∷ []) (edit 1 (paint 0 4))) (0 ∷ 0 ∷ 2 ∷ (painted ++ repainted)) ∷
    case (call triangle 32 both_paint (edit 0 (paint 0 5))) (25 ∷ 0 ∷ 2 ∷ (painted ++ repainted)) ∷
    case (call triangle 32 both_paint (edit 1 (paint 0 5))) (25 ∷ 0 ∷ 2 ∷ (painted ++ repainted)) ∷
    -- M-108: bench 0 is blocked by bench 1; its record is taken out from under one of another field, whose old bytes stay; a bench 2
    case (call triangle 32 both_paint (undo 0)) (43 ∷ 2 ∷ 2 ∷ (painted ++ repainted)) ∷
    case (call triangle 32 (edit 0 (paint 0 5) ∷ edit 1 (link 0 (pos 2)) ∷ []) (undo 0)) (0 ∷ 0 ∷ 1 ∷ (linked ++ linked)) ∷
    case (call triangle 32 both_paint (put_back 2)) (45 ∷ 2 ∷ 2 ∷ (painted ++ repainted)) ∷ []

-- the statement: each case gives what the paper says
abbrev pub Right : List Case → Type 0
Right [] = Unit
Right (c ∷ cs) = (gives c.deed ≡ c.result) × Right cs
