-- A floor's parts with other header floats, materials and edge entries: what each rule keeps of them. The tables of vertices, corners,
-- normals, distances, nodes, adjacency and perimeters stay, so all that reads only these stays as it is. Assumes nothing.
use mathlib.Core.Path.{◌≡◌, refl}
use mathlib.Core.Logic.{inl, inr, ⊎_elim}
use mathlib.Core.List.{List, [], ◌∷◌}
use Prim.Native.Nat.{ℕ, ◌<◌}
use lib.ListN.{get_or}
use Rattle.tables.specs.Parts.{Parts, table_of, word_of, edge_of}
use Rattle.mesh.specs.Mesh.{IsFinite, Finite, Cornered, Painted, Meshed}
use Rattle.nodes.specs.Nodes.{nodes_of}
use Rattle.nodes.specs.Plain.{Leaf, Inner, SoundNodes}
use Rattle.tree.specs.Boxes.{box_of}
use Rattle.tree.specs.Plain.{FloorTree, BoxesHold}
use Rattle.pairs.specs.Halves.{from, to}
use Rattle.border.specs.Plain.{Linked, SoundBorders}
use Rattle.border.proofs.Same.{borders_same}

-- the parts with these header floats, this table of materials and this table of edge entries
unfoldable pub edited : Parts → List ℕ → List ℕ → List ℕ → Parts
edited p floats materials entries = record {
  floats = floats;
  vertices = p.vertices;
  faces = p.faces;
  nodes = p.nodes;
  root = p.root;
  adjacency = p.adjacency;
  edges = p.edges;
  perimeters = p.perimeters;
  tables = table_of p 0 ∷ table_of p 1 ∷ materials ∷ table_of p 3 ∷ table_of p 4 ∷ table_of p 5 ∷ table_of p 6 ∷ entries ∷ table_of p 8 ∷ [];
}

module _ (p : Parts) (fl ms es : List ℕ) where
  -- ---- 7 to 10

  finite_kept : ((i : ℕ) → i < 15 → IsFinite (get_or fl i 0)) → Finite p → Finite (edited p fl ms es)
  unfolding edited word_of
  finite_kept h a = record { head = h; vertex = a.vertex; normal = a.normal; distance = a.distance; box = a.box }

  cornered_kept : Cornered p → Cornered (edited p fl ms es)
  unfolding edited word_of
  cornered_kept a = record { under = a.under; three = a.three }

  -- ---- 11 to 14

  leaf_kept : (n : ℕ) → Leaf p n → Leaf (edited p fl ms es) n
  unfolding edited word_of
  leaf_kept n a = record { face = a.face; plane = a.plane; left = a.left; right = a.right }

  leaf_was : (n : ℕ) → Leaf (edited p fl ms es) n → Leaf p n
  unfolding edited word_of
  leaf_was n a = record { face = a.face; plane = a.plane; left = a.left; right = a.right }

  inner_kept : (n : ℕ) → Inner p n → Inner (edited p fl ms es) n
  unfolding edited word_of
  inner_kept n a = record { face = a.face; plane = a.plane; left = a.left; right = a.right }

  inner_was : (n : ℕ) → Inner (edited p fl ms es) n → Inner p n
  unfolding edited word_of
  inner_was n a = record { face = a.face; plane = a.plane; left = a.left; right = a.right }

  pub nodes_kept : SoundNodes p → SoundNodes (edited p fl ms es)
  unfolding edited
  nodes_kept a = record { count = a.count; root = a.root; kinds = λ n l. ⊎_elim (λ k. inl (leaf_kept n k)) (λ k. inr (inner_kept n k)) (a.kinds n l) }

  pub tree_kept : FloorTree p → FloorTree (edited p fl ms es)
  unfolding edited word_of nodes_of
  tree_kept a = a

  pub boxes_kept : BoxesHold p → BoxesHold (edited p fl ms es)
  unfolding edited word_of box_of
  boxes_kept a = record {
    corners = λ n e l k i. a.corners n e l (leaf_was n k) i;
    left = λ n l k. a.left n l (inner_was n k);
    right = λ n l k. a.right n l (inner_was n k);
  }

  -- ---- 15 to 19

  -- where the half-edges of the edge entries are as they were
  pub borders_kept : ((i : ℕ) → edge_of (edited p fl ms es) i ≡ edge_of p i) → SoundBorders p → Linked (edited p fl ms es) → SoundBorders (edited p fl ms es)
  borders_kept same = borders_same p (edited p fl ms es) (record {
    adjacency = unfold edited in refl;
    edges = unfold edited in refl;
    perimeters = unfold edited in refl;
    starts = λ h. unfold edited word_of from in refl;
    stops = λ h. unfold edited word_of to in refl;
    adjacent = λ h. unfold edited word_of in refl;
    edge = same;
    end = λ j. unfold edited word_of in refl;
  })

  pub mesh_kept : ((i : ℕ) → i < 15 → IsFinite (get_or fl i 0)) → Painted (edited p fl ms es) → Meshed p → Meshed (edited p fl ms es)
  mesh_kept h k a = record { finite = finite_kept h a.finite; cornered = cornered_kept a.cornered; painted = k }
