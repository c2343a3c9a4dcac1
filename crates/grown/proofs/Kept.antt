-- What the planted floor keeps: no rule but 7, of the boxes, and 11 to 14 reads the nodes, so all that holds of the other tables stays
-- as it is. Assumes nothing.
use mathlib.Core.Path.{◌≡◌, refl}
use Prim.Native.Nat.{ℕ, ◌<◌}
use Rattle.tables.specs.Parts.{Parts, table_of, word_of, node_word}
use Rattle.tables.proofs.Floor.{nine}
use Rattle.mesh.specs.Mesh.{IsFinite, Finite, Cornered, Painted, Meshed}
use Rattle.pairs.specs.Halves.{from, to}
use Rattle.border.specs.Plain.{Linked, SoundBorders}
use Rattle.border.proofs.Same.{borders_same}
use Rattle.planting.specs.Planting.{planted}
use Rattle.grown.specs.Plain.{OtherNodes}

module _ (p : Parts) where
  -- ---- 7 to 10

  pub finite_kept : ((n e : ℕ) → n < (planted p).nodes → e < 6 → IsFinite (node_word (planted p) n e)) → Finite p → Finite (planted p)
  unfolding planted word_of
  finite_kept h a = record { head = a.head; vertex = a.vertex; normal = a.normal; distance = a.distance; box = h }

  cornered_kept : Cornered p → Cornered (planted p)
  unfolding planted word_of
  cornered_kept a = record { under = a.under; three = a.three }

  painted_kept : Painted p → Painted (planted p)
  unfolding planted word_of
  painted_kept a = record { known = a.known; under = a.under; over = a.over }

  pub mesh_kept : ((n e : ℕ) → n < (planted p).nodes → e < 6 → IsFinite (node_word (planted p) n e)) → Meshed p → Meshed (planted p)
  mesh_kept h a = record { finite = finite_kept h a.finite; cornered = cornered_kept a.cornered; painted = painted_kept a.painted }

  -- ---- 15 to 19

  linked_kept : Linked p → Linked (planted p)
  unfolding planted word_of
  linked_kept a = record { each = a.each }

  pub borders_kept : SoundBorders p → SoundBorders (planted p)
  borders_kept a = borders_same p (planted p) (record {
    adjacency = unfold planted in refl;
    edges = unfold planted in refl;
    perimeters = unfold planted in refl;
    starts = λ h. unfold planted word_of from in refl;
    stops = λ h. unfold planted word_of to in refl;
    adjacent = λ h. unfold planted word_of in refl;
    edge = λ i. unfold planted word_of in refl;
    end = λ j. unfold planted word_of in refl;
  }) a (linked_kept a.transitions)

-- all but the nodes and the root is the floor's own
pub others_stay : (p : Parts) → OtherNodes p (planted p)
unfolding planted
others_stay p = record {
  floats = refl;
  vertices = refl;
  faces = refl;
  adjacency = refl;
  edges = refl;
  perimeters = refl;
  tables = nine (λ k. (k ≡ 5 → ⊥) → table_of (planted p) k ≡ table_of p k) (λ n. refl) (λ n. refl) (λ n. refl) (λ n. refl) (λ n. refl) (λ n. absurd (n refl)) (λ n. refl) (λ n. refl) (λ n. refl);
}
