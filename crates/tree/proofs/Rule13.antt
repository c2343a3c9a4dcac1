-- Clear, mark, look: what the two halves of rule 13 answer and leave, and how they make the rule. Assumes nothing.
use Prim.Native.Nat.{ℕ, ◌<◌, ◌≤◌}
use native.Mathlib.Omega.{arith}
use mathlib.Core.Path.{◌≡◌, sym, ap, ◌∙◌}
use mathlib.Core.Bool.{Bool, true, false, not, ◌&&◌}
use mathlib.Core.List.{List}
use lib.ListN.{length, drop}
use borrow.Author.Tests.{eq-eqb, ne_eqb}
use Rattle.verdict.specs.Lowest.{all_under}
use Rattle.verdict.specs.Lists.{once}
use Rattle.verdict.specs.Memory.{work_size, cleared_to, past, SamePast, is_marked, fresh, marked}
use Rattle.verdict.proofs.Lists.{NoneFrom, none_more}
use Rattle.verdict.proofs.Once.{once_law}
use Rattle.verdict.proofs.Memory.{length_cleared, get_d_cleared, drop_cleared, drop_marked}
use Rattle.tables.specs.Parts.{Parts}
use Rattle.nodes.specs.Nodes.{Nodes, nodes_of, face_of}
use Rattle.nodes.specs.Plain.{Closed}
use Rattle.tree.specs.Tree.{ends, deep, leaf_faces, one_tree}
use Rattle.tree.specs.Trail.{trail}
use Rattle.tree.proofs.Deep.{Kids, spans_law, trail_within}
use Rattle.tree.proofs.Faces.{faces_within}

pub kids : (p : Parts) → Closed p → Kids (nodes_of p) p.nodes
unfolding Kids nodes_of
kids p c n lt e = (c.left n lt e, c.right n lt e)

-- the first half's list, and the second's, name nothing past the counts
pub nodes_within : (p : Parts) → Closed p → (d n : ℕ) → n < p.nodes → NoneFrom p.nodes (trail (nodes_of p) d n)
nodes_within p c d n lt = trail_within (nodes_of p) p.nodes (kids p c) d n lt

pub leaves_within : (p : Parts) → Closed p → NoneFrom p.faces (leaf_faces (nodes_of p) (face_of p) p.nodes)
leaves_within p c = faces_within (nodes_of p) (face_of p) p.nodes p.faces c.face p.nodes (omega arith)

-- one half: w is the memory at entry, then cleared as far as it is marked, and marked; a, b what marking and looking answered
pub record Half (l : List ℕ) (N : ℕ) (w w₂ : List ℕ) (a b : Bool) : Type 0 where
  pub w₁ : List ℕ
  pub few : N ≤ work_size
  pub room : work_size ≤ length w
  pub cleared : w₁ ≡ cleared_to N w
  pub walked : a ≡ fresh l w₁
  pub marks : w₂ ≡ marked l w₁
  pub full : b ≡ all_under N (is_marked w₂)

-- `if a { b } else { false }`
pub both_first : (a b : Bool) → a ≡ true → b ≡ (a && b)
both_first a b e = rw e

pub both_none : (a b : Bool) → a ≡ false → false ≡ (a && b)
both_none a b e = rw e

module _ (l : List ℕ) (N : ℕ) (w w₂ : List ℕ) (a b : Bool) (inside : NoneFrom N l) (h : Half l N w w₂ a b) where
  pub half_memory : SamePast w₂ w
  unfolding past
  half_memory =
      ap (drop work_size) (h.marks ∙ ap (marked l) h.cleared) ∙ drop_marked work_size l (cleared_to N w) (none_more N work_size l h.few inside)
      ∙ drop_cleared work_size N w h.few (omega (arith, h.few, h.room))

  half_both : (a && b) ≡ (fresh l (cleared_to N w) && all_under N (is_marked (marked l (cleared_to N w))))
  half_both = rw (h.walked, h.full, h.marks, h.cleared)

  long : N ≤ length (cleared_to N w)
  long = omega (arith, length_cleared N w (omega (arith, h.few, h.room)), h.few, h.room)

  pub half_once : (a && b) ≡ once N l
  half_once = half_both ∙ once_law N l (cleared_to N w) inside long (get_d_cleared N w)

  pub half_spans : (t : Nodes) (root : ℕ) → Kids t N → root < N → l ≡ trail t 64 root
      → (a && b) ≡ (not (deep t 64 root) && once N (ends t 64 root))
  half_spans t root k lt e = half_both ∙ (rw e (spans_law t root N (cleared_to N w) k lt long (get_d_cleared N w)))

-- the whole rule
module _ (t : Nodes) (f : ℕ → ℕ) (root N F : ℕ) where
  pub one_none : N ≡ 0 → true ≡ one_tree t f root N F
  unfolding one_tree
  one_none e = rw (eq-eqb N 0 e)

  pub one_some : (N ≡ 0 → ⊥) → one_tree t f root N F ≡ (not (deep t 64 root) && once N (ends t 64 root) && once F (leaf_faces t f N))
  unfolding one_tree
  one_some h = rw (ne_eqb N 0 h)

-- of a floor: both halves, the first asked from the node that the root field names
pub both_halves : (p : Parts) → (p.nodes ≡ 0 → ⊥) → {root : ℕ} {a b : Bool} → root ≡ p.root
    → a ≡ (not (deep (nodes_of p) 64 root) && once p.nodes (ends (nodes_of p) 64 root)) → b ≡ once p.faces (leaf_faces (nodes_of p) (face_of p) p.nodes)
    → (a && b) ≡ one_tree (nodes_of p) (face_of p) p.root p.nodes p.faces
both_halves p some e f g = rw (f, g, e) (sym (one_some (nodes_of p) (face_of p) p.root p.nodes p.faces some))
