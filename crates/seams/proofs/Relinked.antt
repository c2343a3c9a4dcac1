-- A floor's parts with other corners, adjacency, edges and perimeters: what each rule keeps of them. The other tables stay, so all that reads
-- only these stays as it is. Assumes nothing.
use mathlib.Core.Path.{◌≡◌, refl}
use mathlib.Core.Logic.{inl, inr, ⊎_elim}
use mathlib.Core.Bool.{true}
use mathlib.Core.List.{List}
use Prim.Native.Nat.{ℕ, ◌*◌, ◌<◌, ◌≤◌}
use native.Mathlib.Omega.{arith}
use lib.ListN.{length}
use lib.Ieee.{eq, le}
use Rattle.wire.specs.Words.{Words}
use Rattle.grid.proofs.Order.{le_trans}
use Rattle.grid.proofs.Equal.{eq_le}
use Rattle.boxes.specs.declared.Box.{Box}
use Rattle.boxes.specs.Plain.{HoldsPoint}
use Rattle.tables.specs.Parts.{Parts, table_of, count_of, word_of, corner}
use Rattle.tables.specs.Fixed.{Sized, Whole}
use Rattle.tables.specs.Tables.{table_at, width}
use Rattle.tables.specs.Header.{floor_tables}
use Rattle.tables.proofs.Floor.{nine}
use Rattle.mesh.specs.Mesh.{Finite, Painted}
use Rattle.nodes.specs.Nodes.{face_of, nodes_of}
use Rattle.nodes.specs.Plain.{Leaf, Inner, SoundNodes}
use Rattle.tree.specs.Boxes.{box_of, vertex_float}
use Rattle.tree.specs.Plain.{FloorTree, BoxesHold}
use Rattle.corners.specs.Corners.{relinked}

-- the sizes of other tables, and that they are words
pub record Fits (p : Parts) (cs js : List ℕ) (E : ℕ) (es : List ℕ) (P : ℕ) (ds : List ℕ) : Type 0 where
  pub corners : length cs ≡ p.faces * 3
  pub adjacent : length js ≡ p.adjacency * 3
  pub entries : length es ≡ E * 2
  pub ends : length ds ≡ P * 1
  pub edges : E ≤ 12288
  pub perimeters : P ≤ 12288

module _ (p : Parts) (cs js : List ℕ) (E : ℕ) (es : List ℕ) (P : ℕ) (ds : List ℕ) where
  abbrev R : Parts
  R = relinked p cs js E es P ds

  pub sized_re : Sized p → Fits p cs js E es P ds → Sized R
  unfolding relinked
  sized_re s f = record {
    fifteen = s.fifteen;
    nine_tables = refl;
    sized = nine (λ k. length (table_of (relinked p cs js E es P ds) k) ≡ count_of (relinked p cs js E es P ds) k * width (table_at floor_tables k))
        (s.sized 0 (omega arith)) f.corners (s.sized 2 (omega arith)) (s.sized 3 (omega arith)) (s.sized 4 (omega arith)) (s.sized 5 (omega arith)) f.adjacent f.entries f.ends;
    vertices = s.vertices;
    faces = s.faces;
    nodes = s.nodes;
    adjacency = s.adjacency;
    edges = f.edges;
    perimeters = f.perimeters;
  }

  pub whole_re : Whole p → Fits p cs js E es P ds → Words cs → Words js → Words es → Words ds → Whole R
  unfolding relinked
  whole_re w f c a e d = record {
    fit = unfold relinked in sized_re w.fit f;
    root_word = w.root_word;
    floats_words = w.floats_words;
    tables_words = nine (λ k. Words (table_of (relinked p cs js E es P ds) k))
        (w.tables_words 0 (omega arith)) c (w.tables_words 2 (omega arith)) (w.tables_words 3 (omega arith)) (w.tables_words 4 (omega arith)) (w.tables_words 5 (omega arith)) a e d;
  }

  -- ---- 7, 9 and 10

  pub finite_re : Finite p → Finite R
  unfolding relinked word_of
  finite_re a = record { head = a.head; vertex = a.vertex; normal = a.normal; distance = a.distance; box = a.box }

  pub painted_re : Painted p → Painted R
  unfolding relinked word_of
  painted_re a = record { known = a.known; under = a.under; over = a.over }

  -- ---- 11 to 14

  leaf_re : (n : ℕ) → Leaf p n → Leaf R n
  unfolding relinked word_of
  leaf_re n a = record { face = a.face; plane = a.plane; left = a.left; right = a.right }

  leaf_was : (n : ℕ) → Leaf R n → Leaf p n
  unfolding relinked word_of
  leaf_was n a = record { face = a.face; plane = a.plane; left = a.left; right = a.right }

  inner_re : (n : ℕ) → Inner p n → Inner R n
  unfolding relinked word_of
  inner_re n a = record { face = a.face; plane = a.plane; left = a.left; right = a.right }

  inner_was : (n : ℕ) → Inner R n → Inner p n
  unfolding relinked word_of
  inner_was n a = record { face = a.face; plane = a.plane; left = a.left; right = a.right }

  pub nodes_re : SoundNodes p → SoundNodes R
  unfolding relinked
  nodes_re a = record { count = a.count; root = a.root; kinds = λ n l. ⊎_elim (λ k. inl (leaf_re n k)) (λ k. inr (inner_re n k)) (a.kinds n l) }

  pub tree_re : FloorTree p → FloorTree R
  unfolding relinked word_of nodes_of
  tree_re a = a

  -- a box that holds a point holds one with equal coordinates
  moved : (b : Box) (u v : ℕ) → ((e : ℕ) → e < 3 → (eq (vertex_float p u e) (vertex_float p v e) ≡ true) × (eq (vertex_float p v e) (vertex_float p u e) ≡ true))
      → HoldsPoint b (vertex_float p u 0) (vertex_float p u 1) (vertex_float p u 2) → HoldsPoint b (vertex_float p v 0) (vertex_float p v 1) (vertex_float p v 2)
  moved b u v same h =
      let up : (e : ℕ) → e < 3 → le (vertex_float p u e) (vertex_float p v e) ≡ true = λ e l. eq_le _ _ (same e l).0 in
      let down : (e : ℕ) → e < 3 → le (vertex_float p v e) (vertex_float p u e) ≡ true = λ e l. eq_le _ _ (same e l).1 in
      record {
        least_x = le_trans _ _ _ h.least_x (up 0 (omega arith));
        least_y = le_trans _ _ _ h.least_y (up 1 (omega arith));
        least_z = le_trans _ _ _ h.least_z (up 2 (omega arith));
        greatest_x = le_trans _ _ _ (down 0 (omega arith)) h.greatest_x;
        greatest_y = le_trans _ _ _ (down 1 (omega arith)) h.greatest_y;
        greatest_z = le_trans _ _ _ (down 2 (omega arith)) h.greatest_z;
      }

  -- where every corner has the coordinates that it had
  pub boxes_re : ((f e d : ℕ) → f < p.faces → e < 3 → d < 3 → let u = corner p f e in let v = corner R f e in (eq (vertex_float p u d) (vertex_float p v d) ≡ true) × (eq (vertex_float p v d) (vertex_float p u d) ≡ true))
      → BoxesHold p → BoxesHold R
  boxes_re same a = record {
    corners = λ n e l k i. held n e l k i;
    left = λ n l k. unfold relinked word_of box_of in a.left n (unfold relinked in l) (inner_was n k);
    right = λ n l k. unfold relinked word_of box_of in a.right n (unfold relinked in l) (inner_was n k);
  }
    where
      held : (n e : ℕ) → n < R.nodes → Leaf R n → e < 3
          → HoldsPoint (box_of R n) (vertex_float R (corner R (face_of R n) e) 0) (vertex_float R (corner R (face_of R n) e) 1) (vertex_float R (corner R (face_of R n) e) 2)
      held n e l k i =
          let was = leaf_was n k in
          let f = face_of p n in
          unfold relinked word_of box_of in
          moved (box_of p n) (corner p f e) (corner R f e) (λ d m. same f e d was.face i m) (a.corners n e (unfold relinked in l) was i)
