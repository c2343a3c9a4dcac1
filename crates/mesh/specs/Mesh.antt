-- Rules 7 to 10 in order, and what they say as plain statements. Definitions only.
use Rattle.std.specs.Prelude.{ℕ, ◌<◌, ◌≤◌, ◌≡◌, Bool, get_or, ℤ}
use Rattle.std.specs.Float.{fin, binary32}
use Rattle.std.specs.Float.Ieee.{of_bits}
use Rattle.verdict.specs.Lists.{times}
use Rattle.verdict.specs.Verdict.{◌then◌}
use Rattle.verdict.specs.declared.Answer.{Answer}
use Rattle.tables.specs.Parts.{Parts, word_of, vertex_word, corner, material, node_word}
use Rattle.mesh.specs.Floats.{rule7}
use Rattle.mesh.specs.Faces.{rule8, rule9, rule10, walkables}

unfoldable pub rules7to10 : (ℕ → ℕ → ℕ) → Parts → Answer
rules7to10 place p = rule7 place p then rule8 p then rule9 p then rule10 p

-- the word w is a float that is neither infinite nor not a number: it has a sign, digits and an exponent
pub record IsFinite (w : ℕ) : Type 0 where
  pub sign : Bool
  pub digits : ℕ
  pub exponent : ℤ
  pub value : of_bits binary32 w ≡ fin sign digits exponent

-- the material m stands in the paper's list
abbrev pub Walkable : ℕ → Type 0
Walkable m = 0 < times m walkables

-- 7: every float is finite
pub record Finite (p : Parts) : Type 0 where
  pub head : (i : ℕ) → i < 15 → IsFinite (get_or p.floats i 0)
  pub vertex : (i e : ℕ) → i < p.vertices → e < 3 → IsFinite (vertex_word p i e)
  pub normal : (f e : ℕ) → f < p.faces → e < 3 → IsFinite (word_of p 3 f e)
  pub distance : (f : ℕ) → f < p.faces → IsFinite (word_of p 4 f 0)
  pub box : (n e : ℕ) → n < p.nodes → e < 6 → IsFinite (node_word p n e)

-- 8: every corner names a vertex, and the three of a face are three
pub record Cornered (p : Parts) : Type 0 where
  pub under : (f e : ℕ) → f < p.faces → e < 3 → corner p f e < p.vertices
  pub three : (f : ℕ) → f < p.faces → ((corner p f 0 ≡ corner p f 1 → ⊥) × (corner p f 1 ≡ corner p f 2 → ⊥) × (corner p f 2 ≡ corner p f 0 → ⊥))

-- 9 and 10: every material is known, and the walkable faces are those under A
pub record Painted (p : Parts) : Type 0 where
  pub known : (f : ℕ) → f < p.faces → material p f ≤ 22
  pub under : (f : ℕ) → f < p.faces → Walkable (material p f) → f < p.adjacency
  pub over : (f : ℕ) → f < p.adjacency → Walkable (material p f)

pub record Meshed (p : Parts) : Type 0 where
  pub finite : Finite p
  pub cornered : Cornered p
  pub painted : Painted p
