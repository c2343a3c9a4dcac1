-- EACH PERMITTED EDIT KEEPS A FLOOR SOUND: a face painted with a known material, walkable as the old one is; an edge entry given a
-- transition from -1 to 63; a finite float written among the header's. Assumes nothing.
use mathlib.Core.Path.{◌≡◌, refl, sym, ap, ◌∙◌}
use mathlib.Core.Logic.{◌⊎◌}
use mathlib.Core.List.{List}
use Prim.Native.Nat.{ℕ, ◌+◌, ◌*◌, ◌≤◌, ◌<◌}
use native.Mathlib.Omega.{arith}
use native.Mathlib.Decide.{ℕ_discrete}
use lib.ListN.{length, get_or, set}
use lib.Seq.{get_or-set_same, get_or-set_other}
use borrow.Author.Tests.{ltb-true, lt-ltb}
use Rattle.verdict.specs.Lists.{times}
use Rattle.verdict.specs.declared.Answer.{Answer}
use Rattle.verdict.proofs.Bools.{decided}
use Rattle.tables.specs.Plain.{SoundHeader}
use Rattle.tables.specs.Parts.{none32, Parts, parts_of, table_of, word_index, word_of, material, edge_of, transition, with_word, with_float}
use Rattle.tables.specs.Fixed.{Sized}
use Rattle.tables.proofs.Right.{sound_header}
use Rattle.tables.proofs.Reading.{sized_of}
use Rattle.mesh.specs.Faces.{walkable, walkables}
use Rattle.mesh.specs.Mesh.{IsFinite, Walkable, Painted}
use Rattle.border.specs.Plain.{Linked}
use Rattle.floor.specs.Sound.{Sound}
use Rattle.floor.proofs.Kept.{edited, mesh_kept, nodes_kept, tree_kept, boxes_kept, borders_kept}

-- a file with the parts of a sound floor, but for floats, materials and edge entries of which the rules that read them hold
pub edited_sound : (b c fl ms es : List ℕ) → Sound b → SoundHeader c → parts_of c ≡ edited (parts_of b) fl ms es
    → ((i : ℕ) → i < 15 → IsFinite (get_or fl i 0))
    → Painted (edited (parts_of b) fl ms es)
    → ((i : ℕ) → edge_of (edited (parts_of b) fl ms es) i ≡ edge_of (parts_of b) i)
    → Linked (edited (parts_of b) fl ms es)
    → Sound c
edited_sound b c fl ms es s header e finite painted same linked = record {
  header = header;
  mesh = rw e (mesh_kept (parts_of b) fl ms es finite painted s.mesh);
  nodes = rw e (nodes_kept (parts_of b) fl ms es s.nodes);
  tree = rw e (tree_kept (parts_of b) fl ms es s.tree);
  boxes = rw e (boxes_kept (parts_of b) fl ms es s.boxes);
  borders = rw e (borders_kept (parts_of b) fl ms es same s.borders linked);
}

-- its tables have the lengths that its counts say
sound_sized : (b : List ℕ) → Sound b → Sized (parts_of b)
sound_sized b s = sized_of b (ap (λ (a : Answer). a.number) (sound_header b s.header))

-- ---- what stays as it was

painted_kept : (p : Parts) (fl es : List ℕ) → Painted p → Painted (edited p fl (table_of p 2) es)
unfolding edited word_of
painted_kept p fl es a = record { known = a.known; under = a.under; over = a.over }

edges_same : (p : Parts) (fl ms : List ℕ) (i : ℕ) → edge_of (edited p fl ms (table_of p 7)) i ≡ edge_of p i
unfolding edited word_of
edges_same p fl ms i = refl

linked_kept : (p : Parts) (fl ms : List ℕ) → Linked p → Linked (edited p fl ms (table_of p 7))
unfolding edited word_of
linked_kept p fl ms a = record { each = a.each }

-- ---- paint

walks : (old new : ℕ) → walkable old ≡ walkable new → Walkable old → Walkable new
unfolding walkable
walks old new e l = ltb-true 0 (times new walkables) (sym e ∙ lt-ltb 0 (times old walkables) l)

module _ (p : Parts) (fl es : List ℕ) (face m : ℕ) (inside : face < length (table_of p 2)) where
  painted_here : material (edited p fl (set (table_of p 2) face m) es) face ≡ m
  unfolding edited word_of
  painted_here = let z : word_index 2 face 0 ≡ face = omega arith in rw z (get_or-set_same (table_of p 2) face m 0 inside)

  painted_other : (f : ℕ) → (f ≡ face → ⊥) → material (edited p fl (set (table_of p 2) face m) es) f ≡ material p f
  unfolding edited word_of
  painted_other f n = get_or-set_other (table_of p 2) face (word_index 2 f 0) m 0 (λ e. n (omega arith))

  repainted : m ≤ 22 → walkable m ≡ walkable (material p face) → Painted p → Painted (edited p fl (set (table_of p 2) face m) es)
  repainted small w a = record {
    known = λ f l. decided (ℕ_discrete f face) (λ e. rw (e, painted_here) small) (λ n. rw (painted_other f n) (a.known f (unfold edited in l)));
    under = λ f l k. unfold edited in a.under f (unfold edited in l) (walks _ _ (same f) k);
    over = λ f l. walks _ _ (sym (same f)) (a.over f (unfold edited in l));
  }
    where
      same : (f : ℕ) → walkable (material (edited p fl (set (table_of p 2) face m) es) f) ≡ walkable (material p f)
      same f = decided (ℕ_discrete f face) (λ e. rw (e, painted_here) w) (λ n. ap walkable (painted_other f n))

paint_parts : (b : List ℕ) (face m : ℕ) → with_word (parts_of b) 2 face m ≡ edited (parts_of b) (parts_of b).floats (set (table_of (parts_of b) 2) face m) (table_of (parts_of b) 7)
unfolding parts_of with_word edited
paint_parts b face m = refl

pub paint_kept : (b c : List ℕ) (face m : ℕ) → Sound b → face < (parts_of b).faces → m ≤ 22 → walkable m ≡ walkable (material (parts_of b) face)
    → SoundHeader c → parts_of c ≡ with_word (parts_of b) 2 face m → Sound c
paint_kept b c face m s l small w header e =
    let p = parts_of b in
    edited_sound b c p.floats (set (table_of p 2) face m) (table_of p 7) s header (e ∙ paint_parts b face m)
    s.mesh.finite.head
    (repainted p p.floats (table_of p 7) face m (omega (arith, (sound_sized b s).sized 2 (omega arith))) small w s.mesh.painted)
    (edges_same p p.floats (set (table_of p 2) face m))
    (linked_kept p p.floats (set (table_of p 2) face m) s.borders.transitions)

-- ---- link

module _ (p : Parts) (fl ms : List ℕ) (entry w : ℕ) (inside : 2 * entry + 1 < length (table_of p 7)) where
  edges_other : (i : ℕ) → edge_of (edited p fl ms (set (table_of p 7) (2 * entry + 1) w)) i ≡ edge_of p i
  unfolding edited word_of
  edges_other i = get_or-set_other (table_of p 7) (2 * entry + 1) (word_index 7 i 0) w 0 (λ e. omega arith)

  linked_here : transition (edited p fl ms (set (table_of p 7) (2 * entry + 1) w)) entry ≡ w
  unfolding edited word_of
  linked_here = let z : word_index 7 entry 1 ≡ 2 * entry + 1 = omega arith in rw z (get_or-set_same (table_of p 7) (2 * entry + 1) w 0 inside)

  linked_other : (i : ℕ) → (i ≡ entry → ⊥) → transition (edited p fl ms (set (table_of p 7) (2 * entry + 1) w)) i ≡ transition p i
  unfolding edited word_of
  linked_other i n = get_or-set_other (table_of p 7) (2 * entry + 1) (word_index 7 i 1) w 0 (λ e. n (omega arith))

  relinked : (w ≤ 63) ⊎ (w ≡ none32) → Linked p → Linked (edited p fl ms (set (table_of p 7) (2 * entry + 1) w))
  relinked may a = record {
    each = λ i l. decided (ℕ_discrete i entry) (λ e. rw (e, linked_here) may) (λ n. rw (linked_other i n) (a.each i (unfold edited in l)));
  }

link_parts : (b : List ℕ) (j w : ℕ) → with_word (parts_of b) 7 j w ≡ edited (parts_of b) (parts_of b).floats (table_of (parts_of b) 2) (set (table_of (parts_of b) 7) j w)
unfolding parts_of with_word edited
link_parts b j w = refl

pub link_kept : (b c : List ℕ) (entry w : ℕ) → Sound b → entry < (parts_of b).edges → (w ≤ 63) ⊎ (w ≡ none32)
    → SoundHeader c → parts_of c ≡ with_word (parts_of b) 7 (2 * entry + 1) w → Sound c
link_kept b c entry w s l may header e =
    let p = parts_of b in
    let inside : 2 * entry + 1 < length (table_of p 7) = omega (arith, (sound_sized b s).sized 7 (omega arith)) in
    edited_sound b c p.floats (table_of p 2) (set (table_of p 7) (2 * entry + 1) w) s header (e ∙ link_parts b (2 * entry + 1) w)
    s.mesh.finite.head
    (painted_kept p p.floats (set (table_of p 7) (2 * entry + 1) w) s.mesh.painted)
    (edges_other p p.floats (table_of p 2) entry w inside)
    (relinked p p.floats (table_of p 2) entry w inside may s.borders.transitions)

-- ---- nudge

refloated : (fl : List ℕ) (place w : ℕ) → place < length fl → IsFinite w → ((i : ℕ) → i < 15 → IsFinite (get_or fl i 0))
    → (i : ℕ) → i < 15 → IsFinite (get_or (set fl place w) i 0)
refloated fl place w inside finite a i l =
    decided (ℕ_discrete i place) (λ e. rw (e, get_or-set_same fl place w 0 inside) finite) (λ n. rw (get_or-set_other fl place i w 0 n) (a i l))

nudge_parts : (b : List ℕ) (i w : ℕ) → with_float (parts_of b) i w ≡ edited (parts_of b) (set (parts_of b).floats i w) (table_of (parts_of b) 2) (table_of (parts_of b) 7)
unfolding parts_of with_float edited
nudge_parts b i w = refl

pub nudge_kept : (b c : List ℕ) (place w : ℕ) → Sound b → place < 15 → IsFinite w → SoundHeader c → parts_of c ≡ with_float (parts_of b) place w → Sound c
nudge_kept b c place w s l finite header e =
    let p = parts_of b in
    edited_sound b c (set p.floats place w) (table_of p 2) (table_of p 7) s header (e ∙ nudge_parts b place w)
    (refloated p.floats place w (omega (arith, (sound_sized b s).fifteen)) finite s.mesh.finite.head)
    (painted_kept p (set p.floats place w) (table_of p 7) s.mesh.painted)
    (edges_same p (set p.floats place w) (table_of p 2))
    (linked_kept p (set p.floats place w) (table_of p 2) s.borders.transitions)
