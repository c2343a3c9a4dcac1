-- The nodes of a floor's tree: their words, which are leaves and which are inner, and the reader's rules 11 and 12. Definitions only.
use Rattle.std.specs.Prelude.{ℕ, ◌*◌, ◌-◌, Bool, not, ◌&&◌, ◌||◌, eqb, ltb, leb}
use Rattle.verdict.specs.Verdict.{rule, rule_of_each, ◌then◌}
use Rattle.verdict.specs.declared.Answer.{Answer}
use Rattle.tables.specs.Parts.{none32, Parts, node_word}

-- the shape of a table of nodes: which are inner, and their children
pub record Nodes : Type 0 where
  pub inner : ℕ → Bool
  pub left : ℕ → ℕ
  pub right : ℕ → ℕ

-- a node's face, plane and children: its words 6, 8, 9 and 10 (0 to 5 are the box, 7 is any number)
abbrev pub face_of : Parts → ℕ → ℕ
face_of p n = node_word p n 6

abbrev pub plane_of : Parts → ℕ → ℕ
plane_of p n = node_word p n 8

abbrev pub left_of : Parts → ℕ → ℕ
left_of p n = node_word p n 9

abbrev pub right_of : Parts → ℕ → ℕ
right_of p n = node_word p n 10

-- the shape of a floor's nodes: those without a face are inner
unfoldable pub nodes_of : Parts → Nodes
nodes_of p = record { inner = λ n. eqb (face_of p n) none32; left = left_of p; right = right_of p }

-- plane 1, 2, 3 or -1, -2, -3 as 32 bits
unfoldable pub is_plane : ℕ → Bool
is_plane w = leb 1 w && leb w 3 || leb 4294967293 w && leb w 4294967295

-- leaf: face under F, plane 0, both children 0xFFFFFFFF
unfoldable pub is_leaf : Parts → ℕ → Bool
is_leaf p n = ltb (face_of p n) p.faces && eqb (plane_of p n) 0 && eqb (left_of p n) none32 && eqb (right_of p n) none32

-- inner: face 0xFFFFFFFF, plane 1, 2, 3 or -1, -2, -3, both children under the node count
unfoldable pub is_inner : Parts → ℕ → Bool
is_inner p n = eqb (face_of p n) none32 && is_plane (plane_of p n) && ltb (left_of p n) p.nodes && ltb (right_of p n) p.nodes

-- neither leaf nor inner
unfoldable pub neither : Parts → ℕ → Bool
neither p n = not (is_leaf p n || is_inner p n)

-- nodes exist and the root isn't under the node count
unfoldable pub stray_root : Parts → Bool
stray_root p = ltb 0 p.nodes && leb p.nodes p.root

-- 11: nodes not 2F-1 (0 if F = 0: so it is with a difference of counts), else a root that is none of them (M-101)
unfoldable pub rule11 : Parts → Answer
rule11 p = rule 11 (not (eqb p.nodes (2 * p.faces - 1))) 100 then rule 11 (stray_root p) 108

-- 12: a node neither leaf nor inner; place the lowest node
unfoldable pub rule12 : Parts → Answer
rule12 p = rule_of_each 12 p.nodes (neither p) (λ n. n)

-- rules 11 and 12
unfoldable pub rules11to12 : Parts → Answer
rules11to12 p = rule11 p then rule12 p
